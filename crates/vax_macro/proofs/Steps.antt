-- One step after another.
use Rattle.std.proofs.Common.{◌≡◌, ◌<◌, ◌-◌, ℕ, zero, suc, refl, arith}
use Rattle.vax_lex.specs.Values.{Sense}
use Rattle.vax_macro.specs.Rest.{Rest}
use Rattle.vax_macro.specs.Expansion.{step, behind, opened}

-- the first of some steps
pub opens : (left : ℕ) (names : Sense) (rest : Rest) → 0 < left → opened left names rest ≡ behind (left - 1) (step names rest) (λ after. opened (left - 1) names after)
unfolding opened
opens zero names rest h = absurd (omega (arith, h))
opens (suc left) names rest h = let e : suc left - 1 ≡ left = omega arith in rw e refl
