use Rattle.std.proofs.Common.{◌≡◌, ℕ, zero, suc, ◌<◌, ◌≤◌, Option, None, refl, sym, arith}
use Rattle.vax_machine.specs.Conclusion.{wanted_behind}
use Rattle.vax_machine.proofs.engine.wanted_after.Goals as goal

some_steps : (steps : ℕ) (wanted : Option ℕ) → 0 < steps → wanted_behind steps wanted ≡ None
unfolding wanted_behind
some_steps zero wanted h = absurd (omega (arith, h))
some_steps (suc n) wanted h = refl

no_steps : (steps : ℕ) (wanted : Option ℕ) → steps ≤ 0 → wanted_behind steps wanted ≡ wanted
unfolding wanted_behind
no_steps zero wanted h = refl
no_steps (suc n) wanted h = absurd (omega (arith, h))

pub returns-then-steps-gt0 : goal.returns-then-steps-gt0
returns-then-steps-gt0 c = sym (some_steps c.args.steps _ c.if-steps-gt0.true)

pub returns-else-steps-gt0 : goal.returns-else-steps-gt0
returns-else-steps-gt0 c = sym (no_steps c.args.steps _ c.if-steps-gt0.false)
