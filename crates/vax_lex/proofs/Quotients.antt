-- A quotient by cases on its divisor.
use Rattle.std.proofs.Common.{◌≡◌, zero, suc, ℤ, pos, refl, Ok, Err}
use Rattle.std.specs.Prelude.{negsuc}
use Rattle.std.specs.Int.{w64, int_wrapping_div}
use Rattle.vax_lex.specs.Values.{quotient}
use Rattle.vax_lex.specs.declared.value.Value.TheVariants.{Absolute}
use Rattle.vax_lex.specs.declared.value.ExprError.TheVariants.{Range}

pub quotient_by_0 : (x y : ℤ) → y ≡ pos 0 → quotient x y ≡ Err Range
quotient_by_0 x y e = rw e refl

pub quotient_by_other : (x y : ℤ) → (y ≡ pos 0 → ⊥) → quotient x y ≡ Ok (Absolute (int_wrapping_div w64 x y))
quotient_by_other x (pos zero) h = absurd (h refl)
quotient_by_other x (pos (suc n)) h = refl
quotient_by_other x (negsuc n) h = refl
