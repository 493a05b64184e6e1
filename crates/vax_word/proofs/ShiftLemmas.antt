use Rattle.std.proofs.Common.{◌≡◌, ◌+◌, ◌-◌, ◌*◌, ◌/◌, ◌%◌, ◌^◌, ◌<◌, ◌≤◌, ℕ, suc, min, ◌⊎◌, inl, inr, Bool, true, false, not, refl, ◌∙◌, ap, sym, arith, eq-eqb, nat_eq, ℤ, pos, negsuc, ◌+ℤ◌, ◌*ℤ◌, neg_ℤ, unsigned_abs, int_lt, w64, FitsSigned, to_z, of_z}
use Rattle.std.proofs.Math.Nat.{div-eq_of_lt, mul-mod_left, add-zero, mul_assoc, zero-mul, zero-div}
use Rattle.std.proofs.Math.Pow.{pow_mono}
use Rattle.std.proofs.lemmas.Bool.{ne_eqb, true≢false, cases_lt}
use borrow.Author.Tests.{ltb-true}
use Rattle.std.proofs.lemmas.Int.{ints, to_z-of_z, int_rem_euclid_is}
use Rattle.std.proofs.lemmas.Nat.{pow_pos, pow-add, shl-shr, mod-pow-add, div-mul-add, mod_below}
use Rattle.std.specs.Int.Signed.{shr_z}
use Rattle.std.specs.Int.{int_rem_euclid, int_div_euclid}
use Rattle.vax_word.specs.declared.Size.{Size}
use Rattle.vax_word.specs.declared.Size.TheVariants.{B, W, L, Q}
use Rattle.vax_word.specs.Arithmetic.{modulus, signed, low_bits, fits_signed, answer, signed_answer, shifted}
use Rattle.vax_word.proofs.OperandLemmas.{modulus_positive, signed-zero, signed_cases, signed-low_bits, signed_fits}

-- ---- to the right

-- past 63 places nothing but the sign is left
far_quotient : (a n : ℕ) → a < 9223372036854775808 → a / 2 ^ min n 63 ≡ a / 2 ^ n
far_quotient a n h =
    elim (cases_lt n 64) [
      | inl near ↦ let least : min n 63 ≡ n = omega arith in ap (λ k. a / 2 ^ k) least
      | inr far ↦
          let least : min n 63 ≡ 63 = omega arith in
          let wide : 2 ^ 63 ≤ 2 ^ n = pow_mono {i = 63} {j = n} (omega arith) in
          ap (λ k. a / 2 ^ k) least ∙ div-eq_of_lt h ∙ sym (div-eq_of_lt (omega arith))
    ]

floor_by_shift : (z : ℤ) (n : ℕ) → FitsSigned w64 z → shr_z z (2 ^ min n 63) ≡ int_div_euclid z (pos (2 ^ n))
floor_by_shift (pos a) n h = ap pos (far_quotient a n h.sfits)
floor_by_shift (negsuc a) n h = ap negsuc (far_quotient a n h.sfits)

pub right_answer : (s : Size) (count : ℤ) (value : ℕ) → int_lt count (pos 0) ≡ true → FitsSigned w64 (signed s value) →
    signed_answer s (shr_z (signed s value) (2 ^ min (unsigned_abs count) 63)) ≡ shifted s count value
unfolding shifted
right_answer s (pos n) value left fits = absurd (omega (arith, ltb-true n 0 left))
right_answer s (negsuc n) value left fits = ap (signed_answer s) (floor_by_shift (signed s value) (suc n) fits)

-- ---- to the left

-- the low bits of a signed product are those of the unsigned one
low_of_product : (m x p : ℕ) (z : ℤ) → 0 < m → (z ≡ pos x) ⊎ ((d : ℕ) × (x + suc d ≡ m) × (z ≡ negsuc d)) →
    unsigned_abs (int_rem_euclid (z *ℤ pos p) (pos m)) ≡ x * p % m
low_of_product m x p z positive (inl e) = ap (λ z. unsigned_abs (int_rem_euclid (z *ℤ pos p) (pos m))) e
low_of_product m x p z positive (inr (d, whole, e)) =
    let product : x * p + suc d * p ≡ p * m = omega (arith, ap (λ y. y * p) whole) in
    let shifted_up : neg_ℤ (pos (suc d * p)) +ℤ pos (p * m) ≡ pos (x * p) = omega (arith, ints) in
    ap (λ z. unsigned_abs (int_rem_euclid (z *ℤ pos p) (pos m))) e
    ∙ ap unsigned_abs (int_rem_euclid_is _ (pos m) m p (x * p) positive refl shifted_up)

pub low_of_shift : (s : Size) (x p : ℕ) → x < modulus s → low_bits s (signed s x *ℤ pos p) ≡ x * p % modulus s
unfolding low_bits
low_of_shift s x p h = low_of_product (modulus s) x p (signed s x) (omega arith) (signed_cases s x h)

-- a shift to the left leaves a multiple, and a shift back loses nothing of it
back : (z : ℤ) (p : ℕ) → 0 < p → shr_z (z *ℤ pos p) p ≡ z
back (pos n) p h = ap pos (simp add-zero at (div-mul-add n p 0 h))
back (negsuc n) p h =
    let whole : suc n * p ≡ suc (n * p + (p - 1)) = omega arith in
    ap (λ w. shr_z (neg_ℤ (pos w)) p) whole ∙ ap negsuc (div-mul-add n p (p - 1) (omega arith))

multiple_near : (b k x : ℕ) → k ≤ b → x * 2 ^ k % 2 ^ b ≡ (x % 2 ^ (b - k)) * 2 ^ k
multiple_near b k x h =
    let whole : b ≡ (b - k) + k = omega arith in
    ap (λ n. x * 2 ^ k % 2 ^ n) whole ∙ mod-pow-add (x * 2 ^ k) (b - k) k ∙ rw (shl-shr, mul-mod_left, add-zero) refl

power_near : (b k : ℕ) → k ≤ b → 2 ^ b ≡ 2 ^ (b - k) * 2 ^ k
power_near b k h =
    let whole : b ≡ (b - k) + k = omega arith in
    ap (λ n. 2 ^ n) whole ∙ pow-add 2 (b - k) k

multiple_far : (b k x : ℕ) → b ≤ k → x * 2 ^ k % 2 ^ b ≡ 0
multiple_far b k x h =
    let whole : k ≡ (k - b) + b = omega arith in
    ap (λ n. x * 2 ^ n % 2 ^ b) whole ∙ rw (pow-add, ← mul_assoc, mul-mod_left) refl

-- the signed number of u units of p, where the modulus has v of them
units : (s : Size) (r u v p : ℕ) → r < modulus s → r ≡ u * p → modulus s ≡ v * p → u < v → (q : ℤ) × (signed s r ≡ q *ℤ pos p)
units s r u v p below r_is m_is less =
    elim (signed_cases s r below) [
      | inl e ↦ (pos u, e ∙ ap pos r_is)
      | inr (d, whole, e) ↦
          let spare : v ≡ u + suc (v - suc u) = omega arith in
          let product : v * p ≡ u * p + suc (v - suc u) * p = omega (arith, ap (λ y. y * p) spare) in
          let left : suc d ≡ suc (v - suc u) * p = omega (arith, whole, product) in
          (negsuc (v - suc u), e ∙ ap (λ w. neg_ℤ (pos w)) left)
    ]

multiple_at : (s : Size) (b x k : ℕ) → modulus s ≡ 2 ^ b → (q : ℤ) × (signed s (x * 2 ^ k % modulus s) ≡ q *ℤ pos (2 ^ k))
multiple_at s b x k bits =
    elim (cases_lt b k) [
      | inl far ↦
          let none : x * 2 ^ k % modulus s ≡ 0 = rw bits (multiple_far b k x (omega arith)) in
          (pos 0, ap (signed s) none ∙ signed-zero s ∙ ap pos (sym (zero-mul (2 ^ k))))
      | inr near ↦
          units s _ (x % 2 ^ (b - k)) (2 ^ (b - k)) (2 ^ k) (mod_below _ _ (modulus_positive s))
          (rw bits (multiple_near b k x near)) (bits ∙ power_near b k near) (mod_below _ _ (pow_pos (b - k)))
    ]

multiple : (s : Size) (x k : ℕ) → (q : ℤ) × (signed s (x * 2 ^ k % modulus s) ≡ q *ℤ pos (2 ^ k))
multiple B x k = multiple_at B 8 x k refl
multiple W x k = multiple_at W 16 x k refl
multiple L x k = multiple_at L 32 x k refl
multiple Q x k = multiple_at Q 64 x k refl

back_and_forth : (z q : ℤ) (k : ℕ) → z ≡ q *ℤ pos (2 ^ k) → shr_z z (2 ^ k) *ℤ pos (2 ^ k) ≡ z
back_and_forth z q k e =
    ap (λ y. shr_z y (2 ^ k) *ℤ pos (2 ^ k)) e ∙ ap (λ y. y *ℤ pos (2 ^ k)) (back q (2 ^ k) (pow_pos k)) ∙ sym e

-- the code's test, a shift back
left_test_by : (s : Size) (x k : ℕ) (fits : Bool) → x < modulus s → FitsSigned w64 (signed s x) →
    FitsSigned w64 (shr_z (signed s (x * 2 ^ k % modulus s)) (2 ^ k)) → fits_signed s (signed s x *ℤ pos (2 ^ k)) ≡ fits →
    nat_eq (of_z w64 (shr_z (signed s (x * 2 ^ k % modulus s)) (2 ^ k))) (of_z w64 (signed s x)) ≡ fits
left_test_by s x k true below x_fits back_fits e =
    let z : ℤ = signed s x in
    let same : signed s (x * 2 ^ k % modulus s) ≡ z *ℤ pos (2 ^ k) =
    ap (signed s) (sym (low_of_shift s x (2 ^ k) below)) ∙ signed-low_bits s (z *ℤ pos (2 ^ k)) e in
    eq-eqb _ _ (ap (λ y. of_z w64 (shr_z y (2 ^ k))) same ∙ ap (of_z w64) (back z (2 ^ k) (pow_pos k)))
left_test_by s x k false below x_fits back_fits e =
    let r : ℕ = x * 2 ^ k % modulus s in
    ne_eqb _ _ (λ same.
    let found = multiple s x k in
    let returned : shr_z (signed s r) (2 ^ k) ≡ signed s x =
    sym (to_z-of_z w64 _ back_fits) ∙ ap (to_z w64) same ∙ to_z-of_z w64 _ x_fits in
    let exact : signed s r ≡ signed s x *ℤ pos (2 ^ k) =
    sym (back_and_forth (signed s r) found.0 k found.1) ∙ ap (λ y. y *ℤ pos (2 ^ k)) returned in
    true≢false (sym (signed_fits s r (mod_below _ _ (modulus_positive s))) ∙ ap (fits_signed s) exact ∙ e))

left_test : (s : Size) (x k : ℕ) → x < modulus s → FitsSigned w64 (signed s x) →
    FitsSigned w64 (shr_z (signed s (x * 2 ^ k % modulus s)) (2 ^ k)) →
    nat_eq (of_z w64 (shr_z (signed s (x * 2 ^ k % modulus s)) (2 ^ k))) (of_z w64 (signed s x)) ≡ fits_signed s (signed s x *ℤ pos (2 ^ k))
left_test s x k below x_fits back_fits = left_test_by s x k _ below x_fits back_fits refl

-- 64 places or more leave nothing
low_far : (s : Size) (x k : ℕ) → 64 ≤ k → x * 2 ^ k % modulus s ≡ 0
low_far B x k h = multiple_far 8 k x (omega arith)
low_far W x k h = multiple_far 16 k x (omega arith)
low_far L x k h = multiple_far 32 k x (omega arith)
low_far Q x k h = multiple_far 64 k x h

far_test_by : (s : Size) (x k : ℕ) (fits : Bool) → x < modulus s → 64 ≤ k → fits_signed s (signed s x *ℤ pos (2 ^ k)) ≡ fits → nat_eq x 0 ≡ fits
far_test_by s x k true below far e =
    let z : ℤ = signed s x in
    let none : pos 0 ≡ z *ℤ pos (2 ^ k) =
    sym (signed-zero s) ∙ ap (signed s) (sym (low_of_shift s x (2 ^ k) below ∙ low_far s x k far)) ∙ signed-low_bits s (z *ℤ pos (2 ^ k)) e in
    let zero_value : z ≡ pos 0 = sym (back z (2 ^ k) (pow_pos k)) ∙ ap (λ y. shr_z y (2 ^ k)) (sym none) ∙ ap pos (zero-div (2 ^ k)) in
    elim (signed_cases s x below) [
      | inl positive ↦ let same : pos x ≡ pos 0 = sym positive ∙ zero_value in eq-eqb x 0 (omega (arith, ints))
      | inr (d, whole, negative) ↦ let same : negsuc d ≡ pos 0 = sym negative ∙ zero_value in absurd (omega (arith, ints))
    ]
far_test_by s x k false below far e =
    ne_eqb x 0 (λ zero_value.
    let nothing : signed s x *ℤ pos (2 ^ k) ≡ signed s 0 =
    ap (λ y. signed s y *ℤ pos (2 ^ k)) zero_value ∙ ap (λ y. y *ℤ pos (2 ^ k)) (signed-zero s) ∙ ap pos (zero-mul (2 ^ k)) ∙ sym (signed-zero s) in
    true≢false (sym (signed_fits s 0 (modulus_positive s)) ∙ ap (fits_signed s) (sym nothing) ∙ e))

pub low_of_whole : (s : Size) (n : ℕ) → n % 18446744073709551616 % modulus s ≡ n % modulus s
low_of_whole B n = omega arith
low_of_whole W n = omega arith
low_of_whole L n = omega arith
low_of_whole Q n = omega arith

pub left_answer : (s : Size) (count : ℤ) (x r : ℕ) → int_lt count (pos 0) ≡ false → x < modulus s → FitsSigned w64 (signed s x) →
    r ≡ x * 2 ^ unsigned_abs count % modulus s → FitsSigned w64 (shr_z (signed s r) (2 ^ unsigned_abs count)) →
    answer s r (not (nat_eq (of_z w64 (shr_z (signed s r) (2 ^ unsigned_abs count))) (of_z w64 (signed s x)))) false ≡ shifted s count x
unfolding shifted signed_answer
left_answer s (pos k) x r left below x_fits r_is back_fits =
    let low : r ≡ low_bits s (signed s x *ℤ pos (2 ^ k)) = r_is ∙ sym (low_of_shift s x (2 ^ k) below) in
    let back_fits' : FitsSigned w64 (shr_z (signed s (x * 2 ^ k % modulus s)) (2 ^ k)) = rw (← r_is) back_fits in
    let tested = left_test s x k below x_fits back_fits' in
    cc
left_answer s (negsuc k) x r left below x_fits r_is back_fits = absurd (true≢false left)

pub far_answer : (s : Size) (count : ℤ) (x : ℕ) → int_lt count (pos 0) ≡ false → 64 ≤ unsigned_abs count → x < modulus s →
    answer s 0 (not (nat_eq x 0)) false ≡ shifted s count x
unfolding shifted signed_answer
far_answer s (pos k) x left far below =
    let low : low_bits s (signed s x *ℤ pos (2 ^ k)) ≡ 0 = low_of_shift s x (2 ^ k) below ∙ low_far s x k far in
    let tested = far_test_by s x k _ below far refl in
    cc
far_answer s (negsuc k) x left far below = absurd (true≢false left)
