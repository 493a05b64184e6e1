use Rattle.std.proofs.Common.{◌≡◌, ◌+◌, ◌*◌, ◌≤◌, true, not, refl, arith, ℤ, pos, negsuc, ◌+ℤ◌, ◌*ℤ◌, unsigned_abs, lit<, w64, FitsSigned}
use Rattle.std.proofs.lemmas.Int.{ints, fits_signed_mul, fits_signed_from_abs, unsigned_abs-mul}
use Rattle.std.proofs.lemmas.Nat.{mul-le}
use Rattle.std.proofs.lemmas.Bool.Decides.{nat_tests}
use Rattle.vax_word.specs.declared.Size.{Size}
use Rattle.vax_word.specs.declared.Size.TheVariants.{Q}
use Rattle.vax_word.specs.Arithmetic.{fits_signed, answer, signed_answer}

pub fits_quadword : (z : ℤ) → FitsSigned w64 z → fits_signed Q z ≡ true
unfolding fits_signed
fits_quadword (pos n) h = let f = h.sfits in grind (arith, ints, nat_tests)
fits_quadword (negsuc n) h = let f = h.sfits in grind (arith, ints, nat_tests)

pub signed_answer-v : (s : Size) (z : ℤ) → (signed_answer s z).1.v ≡ not (fits_signed s z)
unfolding signed_answer answer
signed_answer-v s z = refl

abs-sum : (a b : ℤ) → unsigned_abs (a +ℤ b) ≤ unsigned_abs a + unsigned_abs b
abs-sum (pos a) (pos b) = omega arith
abs-sum (pos a) (negsuc b) = grind (arith, ints, nat_tests)
abs-sum (negsuc a) (pos b) = grind (arith, ints, nat_tests)
abs-sum (negsuc a) (negsuc b) = omega arith

-- a product of longwords fits a quadword, also with a longword added
pub product_fits : (x y : ℤ) → unsigned_abs x ≤ 2147483648 → unsigned_abs y ≤ 2147483648 → FitsSigned w64 (x *ℤ y)
product_fits x y hx hy = fits_signed_mul w64 x y 2147483648 2147483648 hx hy (lit< tt)

pub extended_product_fits : (x y z : ℤ) → unsigned_abs x ≤ 2147483648 → unsigned_abs y ≤ 2147483648 → unsigned_abs z ≤ 2147483648 → FitsSigned w64 (x *ℤ y +ℤ z)
extended_product_fits x y z hx hy hz =
    let size : unsigned_abs (x *ℤ y) ≤ 2147483648 * 2147483648 = rw unsigned_abs-mul (mul-le _ _ _ _ hx hy) in
    fits_signed_from_abs w64 _ (omega (arith, abs-sum (x *ℤ y) z))
