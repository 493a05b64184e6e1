use Rattle.std.proofs.Common.{arith, refl, sym, ap, ◌∙◌, Some}
use Rattle.std.proofs.lemmas.Bool.{false≢true}
use Rattle.vax_space.proofs.References.{violation_there, violation_first, violation_step, violation_empty, accessible_is, inaccessible, writable_is_readable}
use Rattle.vax_space.proofs.Space.check_pages.Goals as goal

pub returns-then-not-may_access-clause-answer : goal.returns-then-not-may_access-clause-answer
returns-then-not-may_access-clause-answer c =
    ap Some c.violation_at.ensures ∙ sym (violation_there _ _ _ _ _ c.loop-left-test.true (sym c.may_access.ensures ∙ c.if-not-may_access.true)) ∙ c.loop-left.invariant

pub returns-then-not-may_access-clause-accessible : goal.returns-then-not-may_access-clause-accessible
returns-then-not-may_access-clause-accessible c =
    (λ h. absurd (false≢true h), λ h. absurd (inaccessible _ _ _ _ _ _ c.ranges.addr.fits (sym (returns-then-not-may_access-clause-answer c)) h))

pub returns-then-not-may_access-clause-first : goal.returns-then-not-may_access-clause-first
returns-then-not-may_access-clause-first c = violation_first _ _ _ _ _ _ c.ranges.addr.fits (sym (returns-then-not-may_access-clause-answer c))

pub returns-then-not-may_access-clause-readable : goal.returns-then-not-may_access-clause-readable
returns-then-not-may_access-clause-readable c = writable_is_readable _

pub loop-left-preserved : goal.loop-left-preserved
loop-left-preserved c =
    violation_step _ c.loop-left.at _ _ _ _ _ (omega (arith, c.loop-left.auto.at-fits)) c.min-step.ensures (sym c.may_access.ensures ∙ c.if-not-may_access.false) c.loop-left.invariant

pub returns-clause-answer : goal.returns-clause-answer
returns-clause-answer c = sym (violation_empty _ _ _ _ _ c.loop-left-test.false) ∙ c.loop-left.invariant

pub returns-clause-accessible : goal.returns-clause-accessible
returns-clause-accessible c = (λ _. accessible_is _ _ _ _ _ c.ranges.addr.fits (sym (returns-clause-answer c)), λ _. refl)

pub returns-clause-readable : goal.returns-clause-readable
returns-clause-readable c = writable_is_readable _
