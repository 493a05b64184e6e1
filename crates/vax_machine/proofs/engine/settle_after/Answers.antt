use Rattle.std.proofs.Common.{◌≡◌, ℕ, zero, suc, ◌<◌, ◌≤◌, ◌∙◌, refl, sym, arith}
use Rattle.vax_pager.specs.Paging.{Paging}
use Rattle.vax_pager.specs.Steps.{settled}
use Rattle.vax_machine.specs.Conclusion.{settled_after}
use Rattle.vax_machine.proofs.engine.settle_after.Goals as goal

some_steps : (steps : ℕ) (s : Paging) → 0 < steps → settled_after steps s ≡ settled s
unfolding settled_after
some_steps zero s h = absurd (omega (arith, h))
some_steps (suc n) s h = refl

no_steps : (steps : ℕ) (s : Paging) → steps ≤ 0 → settled_after steps s ≡ s
unfolding settled_after
no_steps zero s h = refl
no_steps (suc n) s h = absurd (omega (arith, h))

pub returns-then-steps-gt0 : goal.returns-then-steps-gt0
returns-then-steps-gt0 c = c.settle.ensures ∙ sym (some_steps c.args.steps _ c.if-steps-gt0.true)

pub returns-else-steps-gt0 : goal.returns-else-steps-gt0
returns-else-steps-gt0 c = sym (no_steps c.args.steps _ c.if-steps-gt0.false)
