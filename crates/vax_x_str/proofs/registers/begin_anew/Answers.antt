use Rattle.std.proofs.Common.{ℕ, List, ap, sym, ◌∙◌}
use Rattle.vax_flat.specs.String.{no_part_done}
use Rattle.vax_flat.proofs.StringState.{sixteen_is}
use Rattle.vax_undo.specs.Transaction.{traced}
use Rattle.vax_x_str.proofs.registers.begin_anew.Goals as goal

pub returns-clause-exact : goal.returns-clause-exact
returns-clause-exact g c =
    let now = traced g.P.Port.view g.P.Port.trail c.args.txn.now in
    let s = now.state in
    c.clear_part_done.ensures.exact
    ∙ ap (λ (regs : List ℕ). record now { state = record s { core = record s.core { regs = regs; psl = no_part_done s.core.psl } } }) (sym (sixteen_is s.core.regs c.registers.ensures.sixteen))
