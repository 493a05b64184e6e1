use Rattle.std.proofs.Common.{◌≡◌, ◌/◌, ◌%◌, ◌<◌, ◌≤◌, ℕ, zero, suc, Bool, true, false, not, ◌||◌, if◌then◌else◌, refl, ◌∙◌, ap, sym, arith, nat_eq, ℤ, pos, negsuc, neg_ℤ, unsigned_abs, int_div, int_rem, lit≤, ◌≢◌, div-le_self, w64, FitsSigned, of_z}
use Rattle.std.proofs.lemmas.Int.{ints}
use Rattle.std.proofs.lemmas.Bool.Decides.{nat_tests}
use Rattle.vax_word.specs.declared.Size.{Size}
use Rattle.vax_word.specs.declared.Size.TheVariants.{B, W, L, Q}
use Rattle.vax_word.specs.declared.Codes.{Codes}
use Rattle.vax_word.specs.Arithmetic.{modulus, sign_bit, signed, low_bits, fits_signed, answer, signed_answer, quotient, extended_quotient}

abs-neg : (n : ℕ) → unsigned_abs (neg_ℤ (pos n)) ≡ n
abs-neg zero = refl
abs-neg (suc n) = refl

pub abs-int_div : (a d : ℤ) → unsigned_abs (int_div a d) ≤ unsigned_abs a
abs-int_div (pos a) (pos b) = omega (arith, div-le_self a b)
abs-int_div (pos a) (negsuc b) = omega (arith, abs-neg (a / suc b), div-le_self a (suc b))
abs-int_div (negsuc a) (pos b) = omega (arith, abs-neg (suc a / b), div-le_self (suc a) b)
abs-int_div (negsuc a) (negsuc b) = omega (arith, div-le_self (suc a) (suc b))

pub short_sign_bit : (s : Size) → s ≢ Q → sign_bit s ≤ 2147483648
short_sign_bit B h = lit≤ tt
short_sign_bit W h = lit≤ tt
short_sign_bit L h = lit≤ tt
short_sign_bit Q h = absurd (h refl)

pub signed_nonzero : (s : Size) (x : ℕ) → x < modulus s → nat_eq x 0 ≡ false → 0 < of_z w64 (signed s x)
unfolding signed
signed_nonzero B x h e = grind (arith, ints, nat_tests)
signed_nonzero W x h e = grind (arith, ints, nat_tests)
signed_nonzero L x h e = grind (arith, ints, nat_tests)
signed_nonzero Q x h e = grind (arith, ints, nat_tests)

-- a quotient that does not fit is that of the least dividend by -1, and its low bits are the dividend
overflow_low : (s : Size) (a : ℕ) (q : ℤ) → a < modulus s → unsigned_abs q ≤ unsigned_abs (signed s a) → fits_signed s q ≡ false → low_bits s q ≡ a
unfolding signed low_bits fits_signed
overflow_low B a (pos n) below h e = grind (arith, ints, nat_tests)
overflow_low B a (negsuc n) below h e = grind (arith, ints, nat_tests)
overflow_low W a (pos n) below h e = grind (arith, ints, nat_tests)
overflow_low W a (negsuc n) below h e = grind (arith, ints, nat_tests)
overflow_low L a (pos n) below h e = grind (arith, ints, nat_tests)
overflow_low L a (negsuc n) below h e = grind (arith, ints, nat_tests)
overflow_low Q a (pos n) below h e = grind (arith, ints, nat_tests)
overflow_low Q a (negsuc n) below h e = grind (arith, ints, nat_tests)

quotient_by_fit : (s : Size) (a : ℕ) (q : ℤ) (fits : Bool) → fits_signed s q ≡ fits → a < modulus s → unsigned_abs q ≤ unsigned_abs (signed s a) →
    signed_answer s q ≡ (if not fits then answer s a true false else signed_answer s q)
unfolding signed_answer
quotient_by_fit s a q true e below h = refl
quotient_by_fit s a q false e below h = ap (λ r. answer s r (not (fits_signed s q)) false) (overflow_low s a q below h e) ∙ ap (λ f. answer s a (not f) false) e

pub quotient_answer : (s : Size) (a b : ℕ) → a < modulus s → nat_eq b 0 ≡ false →
    signed_answer s (int_div (signed s a) (signed s b)) ≡ quotient s a b
unfolding quotient
quotient_answer s a b below e =
    let q : ℤ = int_div (signed s a) (signed s b) in
    quotient_by_fit s a q (fits_signed s q) refl below (abs-int_div (signed s a) (signed s b))
    ∙ ap (λ zero_divisor. if zero_divisor || not (fits_signed s q) then answer s a true false else signed_answer s q) (sym e)

-- ---- with a quadword dividend

fits_longword : (z : ℤ) → fits_signed L z ≡ true → FitsSigned w64 z
unfolding fits_signed
fits_longword (pos n) e = record { sfits = grind (arith, ints, nat_tests) }
fits_longword (negsuc n) e = record { sfits = grind (arith, ints, nat_tests) }

pub divisor_nonzero : (b : ℕ) → 0 < of_z w64 (signed L b) → nat_eq b 0 ≡ false
unfolding signed
divisor_nonzero b h = grind (arith, ints, nat_tests)

cannot_by_tests : (b : ℕ) (q : ℤ) (is_zero fits : Bool) → nat_eq b 0 ≡ is_zero → fits_signed L q ≡ fits → b < modulus L →
    ¬ ((0 < of_z w64 (signed L b)) × FitsSigned w64 q) → nat_eq b 0 || not (fits_signed L q) ≡ true
cannot_by_tests b q true fits z f below cannot = ap (λ t. t || not (fits_signed L q)) z
cannot_by_tests b q false false z f below cannot = ap (λ t. t || not (fits_signed L q)) z ∙ ap not f
cannot_by_tests b q false true z f below cannot = absurd (cannot (signed_nonzero L b below z, fits_longword q f))

pub cannot_divide : (b : ℕ) (q : ℤ) → b < modulus L → ¬ ((0 < of_z w64 (signed L b)) × FitsSigned w64 q) → nat_eq b 0 || not (fits_signed L q) ≡ true
cannot_divide b q below cannot = cannot_by_tests b q _ _ refl refl below cannot

-- where the quotient does not fit
pub extended_overflow : (b a : ℕ) → nat_eq b 0 || not (fits_signed L (int_div (signed Q a) (signed L b))) ≡ true →
    (r : ℕ × Codes) → r ≡ answer L (a % modulus L) true false → (r.0, 0, r.1) ≡ extended_quotient b a
unfolding extended_quotient
extended_overflow b a e r is =
    let q : ℤ = int_div (signed Q a) (signed L b) in
    let low : ℕ × Codes = answer L (a % modulus L) true false in
    let whole : ℕ × Codes = signed_answer L q in
    ap (λ (r : ℕ × Codes). (r.0, 0, r.1)) is
    ∙ ap (λ t. if t then (low.0, 0, low.1) else (whole.0, low_bits L (int_rem (signed Q a) (signed L b)), whole.1)) (sym e)

-- where it fits
pub extended_fit : (b a : ℕ) → nat_eq b 0 || not (fits_signed L (int_div (signed Q a) (signed L b))) ≡ false →
    (r : ℕ × Codes) (m : ℕ) → r ≡ signed_answer L (int_div (signed Q a) (signed L b)) → m ≡ low_bits L (int_rem (signed Q a) (signed L b)) → (r.0, m, r.1) ≡ extended_quotient b a
unfolding extended_quotient
extended_fit b a e r m is rest =
    let q : ℤ = int_div (signed Q a) (signed L b) in
    let low : ℕ × Codes = answer L (a % modulus L) true false in
    let whole : ℕ × Codes = signed_answer L q in
    ap (λ (r : ℕ × Codes). (r.0, m, r.1)) is ∙ ap (λ (k : ℕ). (whole.0, k, whole.1)) rest
    ∙ ap (λ t. if t then (low.0, 0, low.1) else (whole.0, low_bits L (int_rem (signed Q a) (signed L b)), whole.1)) (sym e)

pub or-of_not : (a b : Bool) → not b ≡ false → a || b ≡ true
or-of_not true b e = refl
or-of_not false true e = refl
or-of_not false false e = sym e

pub not-true : (b : Bool) → not b ≡ true → b ≡ false
not-true true e = sym e
not-true false e = refl
