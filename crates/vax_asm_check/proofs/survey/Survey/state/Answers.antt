use Rattle.std.proofs.Common.{◌≡◌, true, rules, subst}
use Rattle.std.specs.Prelude.{IfSome}
use Rattle.vax_asm.specs.Refusal.{IsRefused}
use Rattle.vax_asm_check.proofs.Going.{goes_past}
use Rattle.vax_asm_check.proofs.Surveying.{on_ok}
use Rattle.vax_asm_check.specs.View.{left_of}
use Rattle.vax_asm_faults.specs.Survey.{is_ended}
use Rattle.vax_asm_check.proofs.survey.Survey.state.Goals as goal

pub returns-then-is_ended-clause-goes : goal.returns-then-is_ended-clause-goes
returns-then-is_ended-clause-goes c =
    let old = c.args.self.now in
    let past : is_ended old.ended c.args.origin.place ≡ true = search rules in
    λ next. goes_past c.args.origin c.args.said.text.items (left_of old.left) old.ended old.faults.items next past

pub returns-in-Some-clause-goes : goal.returns-in-Some-clause-goes
returns-in-Some-clause-goes c =
    let text = c.args.said.text.items in
    let refused : IsRefused c.args.self.now.left.standing.dialect text c.in-Some.kind = subst (λ o. IfSome o (IsRefused c.args.self.now.left.standing.dialect text)) c.in-Some.is c.in_ok-refused.ensures in
    on_ok c.refuse.result (λ h. h text refused) c.refuse.ensures.goes
