use Rattle.std.proofs.Common.{◌≡◌, ◌+◌, ◌-◌, ◌*◌, ◌%◌, ◌<◌, ℕ, ◌⊎◌, inl, inr, Bool, true, false, not, ◌&&◌, ◌||◌, if◌then◌else◌, refl, ◌∙◌, ap, sym, arith, add_assoc, nat_eq, nat_lt, nat_le, ℤ, pos, ◌+ℤ◌, ◌-ℤ◌, neg_ℤ, int_le, int_lt}
use Rattle.std.proofs.lemmas.Int.{ints}
use Rattle.std.proofs.lemmas.Bool.Decides.{nat_tests}
use Rattle.std.specs.Int.{from_bool}
use Rattle.std.specs.Bool.{beq}
use Rattle.vax_word.specs.declared.Size.{Size}
use Rattle.vax_word.specs.declared.Size.TheVariants.{B, W, L, Q}
use Rattle.vax_word.specs.Arithmetic.{modulus, is_negative, signed, low_bits, fits_signed, fits_unsigned, answer, sum, difference}

-- V of a sum: both operands have one sign, and the result has the other
sum_fits : (h a b c r : ℕ) → a < 2 * h → b < 2 * h → c < 2 → (r ≡ a + b + c) ⊎ (r + 2 * h ≡ a + b + c) → r < 2 * h →
    let exact : ℤ = (if nat_le h a then pos a -ℤ pos (2 * h) else pos a) +ℤ (if nat_le h b then pos b -ℤ pos (2 * h) else pos b) +ℤ pos c in
    int_le (neg_ℤ (pos h)) exact && int_lt exact (pos h)
    ≡ (if nat_le h a then (if nat_le h b then nat_le h r else true) else (if nat_le h b then true else not (nat_le h r)))
sum_fits h a b c r ha hb hc hr r_below = grind (arith, ints, nat_tests)

sum_signs : (a b r : Bool) → beq a b && not (beq r a) ≡ not (if a then (if b then r else true) else (if b then true else not r))
sum_signs true true true = refl
sum_signs true true false = refl
sum_signs true false true = refl
sum_signs true false false = refl
sum_signs false true true = refl
sum_signs false true false = refl
sum_signs false false true = refl
sum_signs false false false = refl

pub sum_overflows : (s : Size) (a b c r : ℕ) → a < modulus s → b < modulus s → c < 2 → (r ≡ a + b + c) ⊎ (r + modulus s ≡ a + b + c) → r < modulus s →
    beq (is_negative s a) (is_negative s b) && not (beq (is_negative s r) (is_negative s a)) ≡ not (fits_signed s (signed s a +ℤ signed s b +ℤ pos c))
unfolding signed fits_signed
sum_overflows B a b c r ha hb hc hr below = sum_signs _ _ _ ∙ ap not (sym (sum_fits 128 a b c r ha hb hc hr below))
sum_overflows W a b c r ha hb hc hr below = sum_signs _ _ _ ∙ ap not (sym (sum_fits 32768 a b c r ha hb hc hr below))
sum_overflows L a b c r ha hb hc hr below = sum_signs _ _ _ ∙ ap not (sym (sum_fits 2147483648 a b c r ha hb hc hr below))
sum_overflows Q a b c r ha hb hc hr below = sum_signs _ _ _ ∙ ap not (sym (sum_fits 9223372036854775808 a b c r ha hb hc hr below))

-- C of a sum: the result is below an operand, or is that operand and a carry came in
sum_carries : (m a b r : ℕ) (carry : Bool) → a < m → b < m → (r ≡ a + b + from_bool carry) ⊎ (r + m ≡ a + b + from_bool carry) → r < m →
    nat_lt r a || (carry && nat_eq r a) ≡ not (int_le (pos 0) (pos (a + b + from_bool carry)) && int_lt (pos (a + b + from_bool carry)) (pos m))
sum_carries m a b r true ha hb hr r_below = grind (arith, ints, nat_tests)
sum_carries m a b r false ha hb hr r_below = grind (arith, ints, nat_tests)

-- V of a difference: the operands' signs differ, and the result's is not the first's
difference_fits_above : (h a b c r : ℕ) → a < 2 * h → b < 2 * h → c < 2 → r + b + c ≡ a →
    let exact : ℤ = (if nat_le h a then pos a -ℤ pos (2 * h) else pos a) -ℤ (if nat_le h b then pos b -ℤ pos (2 * h) else pos b) -ℤ pos c in
    int_le (neg_ℤ (pos h)) exact && int_lt exact (pos h)
    ≡ (if nat_le h a then (if nat_le h b then true else nat_le h r) else (if nat_le h b then not (nat_le h r) else true))
difference_fits_above h a b c r ha hb hc hr = grind (arith, ints, nat_tests)

difference_fits_below : (h a b c r : ℕ) → a < 2 * h → b < 2 * h → c < 2 → r + b + c ≡ a + 2 * h → r < 2 * h →
    let exact : ℤ = (if nat_le h a then pos a -ℤ pos (2 * h) else pos a) -ℤ (if nat_le h b then pos b -ℤ pos (2 * h) else pos b) -ℤ pos c in
    int_le (neg_ℤ (pos h)) exact && int_lt exact (pos h)
    ≡ (if nat_le h a then (if nat_le h b then true else nat_le h r) else (if nat_le h b then not (nat_le h r) else true))
difference_fits_below h a b c r ha hb hc hr r_below = grind (arith, ints, nat_tests)

difference_fits : (h a b c r : ℕ) → a < 2 * h → b < 2 * h → c < 2 → (r + b + c ≡ a) ⊎ (r + b + c ≡ a + 2 * h) → r < 2 * h →
    let exact : ℤ = (if nat_le h a then pos a -ℤ pos (2 * h) else pos a) -ℤ (if nat_le h b then pos b -ℤ pos (2 * h) else pos b) -ℤ pos c in
    int_le (neg_ℤ (pos h)) exact && int_lt exact (pos h)
    ≡ (if nat_le h a then (if nat_le h b then true else nat_le h r) else (if nat_le h b then not (nat_le h r) else true))
difference_fits h a b c r ha hb hc (inl e) r_below = difference_fits_above h a b c r ha hb hc e
difference_fits h a b c r ha hb hc (inr e) r_below = difference_fits_below h a b c r ha hb hc e r_below

difference_signs : (a b r : Bool) → not (beq a b) && not (beq r a) ≡ not (if a then (if b then true else r) else (if b then not r else true))
difference_signs true true true = refl
difference_signs true true false = refl
difference_signs true false true = refl
difference_signs true false false = refl
difference_signs false true true = refl
difference_signs false true false = refl
difference_signs false false true = refl
difference_signs false false false = refl

pub difference_overflows : (s : Size) (a b c r : ℕ) → a < modulus s → b < modulus s → c < 2 → (r + b + c ≡ a) ⊎ (r + b + c ≡ a + modulus s) → r < modulus s →
    not (beq (is_negative s a) (is_negative s b)) && not (beq (is_negative s r) (is_negative s a)) ≡ not (fits_signed s (signed s a -ℤ signed s b -ℤ pos c))
unfolding signed fits_signed
difference_overflows B a b c r ha hb hc hr below = difference_signs _ _ _ ∙ ap not (sym (difference_fits 128 a b c r ha hb hc hr below))
difference_overflows W a b c r ha hb hc hr below = difference_signs _ _ _ ∙ ap not (sym (difference_fits 32768 a b c r ha hb hc hr below))
difference_overflows L a b c r ha hb hc hr below = difference_signs _ _ _ ∙ ap not (sym (difference_fits 2147483648 a b c r ha hb hc hr below))
difference_overflows Q a b c r ha hb hc hr below = difference_signs _ _ _ ∙ ap not (sym (difference_fits 9223372036854775808 a b c r ha hb hc hr below))

-- C of a difference: the first operand is the lesser, or they are equal and a borrow came in
difference_borrows : (m a b : ℕ) (borrow : Bool) → a < m → b < m →
    let exact : ℤ = pos a -ℤ pos (b + from_bool borrow) in
    nat_lt a b || (borrow && nat_eq a b) ≡ not (int_le (pos 0) exact && int_lt exact (pos m))
difference_borrows m a b true ha hb = grind (arith, ints, nat_tests)
difference_borrows m a b false ha hb = grind (arith, ints, nat_tests)

-- what the code's wrapping sum and mask make
sum_low : (s : Size) (a b c : ℕ) → ((a + b) % 18446744073709551616 + c) % 18446744073709551616 % modulus s ≡ (a + b + c) % modulus s
sum_low B a b c = omega arith
sum_low W a b c = omega arith
sum_low L a b c = omega arith
sum_low Q a b c = omega arith

sum_low_cases : (s : Size) (a b c : ℕ) → a < modulus s → b < modulus s → c < 2 →
    ((a + b + c) % modulus s ≡ a + b + c) ⊎ ((a + b + c) % modulus s + modulus s ≡ a + b + c)
sum_low_cases B a b c ha hb hc = grind arith
sum_low_cases W a b c ha hb hc = grind arith
sum_low_cases L a b c ha hb hc = grind arith
sum_low_cases Q a b c ha hb hc = grind arith

difference_low : (s : Size) (a b c : ℕ) → a < modulus s → b < modulus s → c < 2 →
    let r : ℕ = ((a + (18446744073709551616 - b)) % 18446744073709551616 + (18446744073709551616 - c)) % 18446744073709551616 % modulus s in
    (r + b + c ≡ a) ⊎ (r + b + c ≡ a + modulus s)
difference_low B a b c ha hb hc = grind arith
difference_low W a b c ha hb hc = grind arith
difference_low L a b c ha hb hc = grind arith
difference_low Q a b c ha hb hc = grind arith

difference_low_bits : (s : Size) (a n r : ℕ) → r < modulus s → (r + n ≡ a) ⊎ (r + n ≡ a + modulus s) → r ≡ low_bits s (pos a -ℤ pos n)
unfolding low_bits
difference_low_bits B a n r below h = grind (arith, ints, nat_tests)
difference_low_bits W a n r below h = grind (arith, ints, nat_tests)
difference_low_bits L a n r below h = grind (arith, ints, nat_tests)
difference_low_bits Q a n r below h = grind (arith, ints, nat_tests)

from_bool_below : (b : Bool) → from_bool b < 2
from_bool_below true = omega arith
from_bool_below false = omega arith

-- the code's sum is the definition's
pub sum_answer : (s : Size) (a b : ℕ) (carry : Bool) (r : ℕ) → a < modulus s → b < modulus s → r < modulus s →
    r ≡ ((a + b) % 18446744073709551616 + from_bool carry) % 18446744073709551616 % modulus s →
    answer s r (beq (is_negative s a) (is_negative s b) && not (beq (is_negative s r) (is_negative s a))) (nat_lt r a || (carry && nat_eq r a)) ≡ sum s a b carry
unfolding sum low_bits fits_unsigned
sum_answer s a b carry r ha hb below made =
    let c : ℕ = from_bool carry in
    let low : r ≡ (a + b + c) % modulus s = made ∙ sum_low s a b c in
    let cases : (r ≡ a + b + c) ⊎ (r + modulus s ≡ a + b + c) = rw low (sum_low_cases s a b c ha hb (from_bool_below carry)) in
    let v = sum_overflows s a b c r ha hb (from_bool_below carry) cases below in
    let carried = sum_carries (modulus s) a b r carry ha hb cases below in
    cc

-- the code's difference is the definition's
pub difference_answer : (s : Size) (a b : ℕ) (borrow : Bool) (r : ℕ) → a < modulus s → b < modulus s → r < modulus s →
    r ≡ ((a + (18446744073709551616 - b)) % 18446744073709551616 + (18446744073709551616 - from_bool borrow)) % 18446744073709551616 % modulus s →
    answer s r (not (beq (is_negative s a) (is_negative s b)) && not (beq (is_negative s r) (is_negative s a))) (nat_lt a b || (borrow && nat_eq a b)) ≡ difference s a b borrow
unfolding difference fits_unsigned
difference_answer s a b borrow r ha hb below made =
    let c : ℕ = from_bool borrow in
    let cases : (r + b + c ≡ a) ⊎ (r + b + c ≡ a + modulus s) = rw made (difference_low s a b c ha hb (from_bool_below borrow)) in
    let grouped : (r + (b + c) ≡ a) ⊎ (r + (b + c) ≡ a + modulus s) = rw (← add_assoc) cases in
    let low = difference_low_bits s a (b + c) r below grouped in
    let v = difference_overflows s a b c r ha hb (from_bool_below borrow) cases below in
    let borrowed = difference_borrows (modulus s) a b borrow ha hb in
    cc
