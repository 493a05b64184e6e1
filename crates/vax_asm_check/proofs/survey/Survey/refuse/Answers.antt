use Rattle.std.proofs.Common.{Some, sym, ap, refl, ◌∙◌}
use Rattle.vax_asm_check.proofs.Going.{goes_refused}
use Rattle.vax_asm_check.specs.View.{left_of}
use Rattle.vax_asm_faults.specs.Survey.{with_faults}
use Rattle.vax_asm_check.proofs.survey.Survey.refuse.Goals as goal

pub returns-clause-goes : goal.returns-clause-goes
returns-clause-goes c =
    let old = c.args.self.now in
    let o = c.args.origin in
    let a = left_of old.left in
    λ text refused next.
    goes_refused o text a old.ended old.faults.items c.args.kind next c.requires.goes (refused o a.standing refl)
    ∙ ap (λ l. with_faults l (next a (Some o.place))) (sym c.in_ok-add.ensures)
