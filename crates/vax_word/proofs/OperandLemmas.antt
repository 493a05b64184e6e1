use Rattle.std.proofs.Common.{◌≡◌, ◌+◌, ◌-◌, ◌*◌, ◌%◌, ◌^◌, ◌<◌, ℕ, suc, ◌⊎◌, inl, inr, Bool, true, false, if◌then◌else◌, refl, arith, nat_eq, ℤ, pos, negsuc, ◌-ℤ◌, lit≤, w64, FitsSigned, to_z, of_z}
use Rattle.std.proofs.lemmas.Int.{ints}
use Rattle.std.proofs.lemmas.Bool.Decides.{nat_tests}
use Rattle.std.specs.Int.Signed.{shr_z}
use Rattle.vax_word.specs.declared.Size.{Size}
use Rattle.vax_word.specs.declared.Size.TheVariants.{B, W, L, Q}
use Rattle.vax_word.specs.Arithmetic.{bytes_of, modulus, is_negative, signed, low_bits, fits_signed}

pub modulus_positive : (s : Size) → 0 < modulus s
modulus_positive B = lit≤ tt
modulus_positive W = lit≤ tt
modulus_positive L = lit≤ tt
modulus_positive Q = lit≤ tt

pub signed-zero : (s : Size) → signed s 0 ≡ pos 0
unfolding signed
signed-zero B = refl
signed-zero W = refl
signed-zero L = refl
signed-zero Q = refl

-- a signed operand by its sign
by_sign : (m x : ℕ) (b : Bool) → x < m →
    ((if b then pos x -ℤ pos m else pos x) ≡ pos x) ⊎ ((d : ℕ) × (x + suc d ≡ m) × ((if b then pos x -ℤ pos m else pos x) ≡ negsuc d))
by_sign m x true h = inr (m - suc x, omega arith, omega (arith, ints))
by_sign m x false h = inl refl

pub signed_cases : (s : Size) (x : ℕ) → x < modulus s →
    (signed s x ≡ pos x) ⊎ ((d : ℕ) × (x + suc d ≡ modulus s) × (signed s x ≡ negsuc d))
unfolding signed
signed_cases s x h = by_sign (modulus s) x (is_negative s x) h

-- what the code's two shifts make of an operand
pub shifts_extend : (s : Size) (x : ℕ) → x < modulus s →
    shr_z (to_z w64 (x * 2 ^ (64 - 8 * bytes_of s) % 18446744073709551616)) (2 ^ (64 - 8 * bytes_of s)) ≡ signed s x
unfolding signed
shifts_extend B x h = grind (arith, ints, nat_tests)
shifts_extend W x h = grind (arith, ints, nat_tests)
shifts_extend L x h = grind (arith, ints, nat_tests)
shifts_extend Q x h = grind (arith, ints, nat_tests)

pub low_of_cast : (s : Size) (z : ℤ) → FitsSigned w64 z → of_z w64 z % modulus s ≡ low_bits s z
unfolding low_bits
low_of_cast s (pos n) h = refl
low_of_cast B (negsuc n) h = omega (arith, h.sfits)
low_of_cast W (negsuc n) h = omega (arith, h.sfits)
low_of_cast L (negsuc n) h = omega (arith, h.sfits)
low_of_cast Q (negsuc n) h = omega (arith, h.sfits)

-- a result that fits is what its low bits stand for, and no other is
pub signed-low_bits : (s : Size) (z : ℤ) → fits_signed s z ≡ true → signed s (low_bits s z) ≡ z
unfolding signed low_bits fits_signed
signed-low_bits B (pos n) h = grind (arith, ints, nat_tests)
signed-low_bits B (negsuc n) h = grind (arith, ints, nat_tests)
signed-low_bits W (pos n) h = grind (arith, ints, nat_tests)
signed-low_bits W (negsuc n) h = grind (arith, ints, nat_tests)
signed-low_bits L (pos n) h = grind (arith, ints, nat_tests)
signed-low_bits L (negsuc n) h = grind (arith, ints, nat_tests)
signed-low_bits Q (pos n) h = grind (arith, ints, nat_tests)
signed-low_bits Q (negsuc n) h = grind (arith, ints, nat_tests)

pub signed_fits : (s : Size) (x : ℕ) → x < modulus s → fits_signed s (signed s x) ≡ true
unfolding signed fits_signed
signed_fits B x h = grind (arith, ints, nat_tests)
signed_fits W x h = grind (arith, ints, nat_tests)
signed_fits L x h = grind (arith, ints, nat_tests)
signed_fits Q x h = grind (arith, ints, nat_tests)

-- the code's test for overflow: the low bits stand for another number
pub overflow_seen : (s : Size) (z : ℤ) → FitsSigned w64 z → nat_eq (of_z w64 (signed s (low_bits s z))) (of_z w64 z) ≡ fits_signed s z
unfolding signed low_bits fits_signed
overflow_seen B (pos n) h = let f = h.sfits in grind (arith, ints, nat_tests)
overflow_seen B (negsuc n) h = let f = h.sfits in grind (arith, ints, nat_tests)
overflow_seen W (pos n) h = let f = h.sfits in grind (arith, ints, nat_tests)
overflow_seen W (negsuc n) h = let f = h.sfits in grind (arith, ints, nat_tests)
overflow_seen L (pos n) h = let f = h.sfits in grind (arith, ints, nat_tests)
overflow_seen L (negsuc n) h = let f = h.sfits in grind (arith, ints, nat_tests)
overflow_seen Q (pos n) h = let f = h.sfits in grind (arith, ints, nat_tests)
overflow_seen Q (negsuc n) h = let f = h.sfits in grind (arith, ints, nat_tests)
