-- Numbers that `from_str_radix` reads, where no sign stands in front.
use Rattle.std.proofs.Common.{◌≡◌, ◌<◌, ◌≤◌, ◌^◌, ◌&&◌, ◌==◌, ℕ, Bool, true, false, None, Some, [], ◌∷◌, nat_le, nat_lt, arith, refl, slice_index}
use Rattle.std.proofs.lemmas.Bool.Decides.{nat_tests}
use Rattle.std.specs.Char.{digit_value}
use Rattle.std.specs.List.{list_all}
use Rattle.std.specs.Str.Parse.{AllDigits, IsNumeral, digits_value, without_leading_plus}
use Rattle.vax_cli.specs.Table.{Text}
use Rattle.vax_cli.specs.Values.{digits}

abbrev is_digit : ℕ → ℕ → Bool
is_digit radix d = nat_lt (digit_value d) radix

below : (n k : ℕ) → n < k → nat_lt n k ≡ true
below n k l = grind (arith, nat_tests)

is_below : (n k : ℕ) → nat_lt n k ≡ true → n < k
is_below n k e = grind (arith, nat_tests)

within : (n k : ℕ) → n ≤ k → nat_le n k ≡ true
within n k l = grind (arith, nat_tests)

is_within : (n k : ℕ) → nat_le n k ≡ true → n ≤ k
is_within n k e = grind (arith, nat_tests)

are_digits : (radix : ℕ) (w : Text) → AllDigits radix w → list_all (is_digit radix) w ≡ true
are_digits radix [] a = refl
are_digits radix (c ∷ cs) a = rw (below _ _ a.0) (are_digits radix cs a.1)

both : (a b : Bool) → (a && b) ≡ true → (a ≡ true) × (b ≡ true)
both true b e = (refl, e)
both false b e = absurd (cc e)

all_digits : (radix : ℕ) (w : Text) → list_all (is_digit radix) w ≡ true → AllDigits radix w
all_digits radix [] e = record {}
all_digits radix (c ∷ cs) e =
    let each = both (is_digit radix c) (list_all (is_digit radix) cs) e in
    (is_below _ _ each.0, all_digits radix cs each.1)

unsigned : (c : ℕ) (cs : Text) → (slice_index (c ∷ cs) 0 == 43) ≡ false → without_leading_plus (c ∷ cs) ≡ c ∷ cs
unsigned c cs s = rw s refl

either : (radix most c : ℕ) (cs : Text) (b : Bool) → (list_all (is_digit radix) (c ∷ cs) && nat_le (digits_value radix (c ∷ cs)) most) ≡ b → (b ≡ true → ⊥) → None ≡ digits radix most (c ∷ cs)
unfolding digits
either radix most c cs true e f = absurd (f refl)
either radix most c cs false e f = rw e refl

pub digits_found : (radix most n : ℕ) (w : Text) → (slice_index w 0 == 43) ≡ false → IsNumeral radix (without_leading_plus w) → n ≡ digits_value radix (without_leading_plus w) → n ≤ most → Some n ≡ digits radix most w
unfolding digits
digits_found radix most n [] s numeral value l = absurd (omega arith)
digits_found radix most n (c ∷ cs) s numeral value l =
    let here : IsNumeral radix (c ∷ cs) = rw (unsigned c cs s) at numeral in
    let is : n ≡ digits_value radix (c ∷ cs) = rw (unsigned c cs s) at value in
    let small : nat_le (digits_value radix (c ∷ cs)) most ≡ true = within _ _ (omega arith) in
    rw (are_digits radix (c ∷ cs) here.1, small, ← is) refl

pub digits_large : (radix most n : ℕ) (w : Text) → (slice_index w 0 == 43) ≡ false → n ≡ digits_value radix (without_leading_plus w) → most < n → None ≡ digits radix most w
unfolding digits
digits_large radix most n [] s value l = refl
digits_large radix most n (c ∷ cs) s value l =
    let is : n ≡ digits_value radix (c ∷ cs) = rw (unsigned c cs s) at value in
    either radix most c cs _ refl (λ e. let small : digits_value radix (c ∷ cs) ≤ most =
    is_within (digits_value radix (c ∷ cs)) most (both (list_all (is_digit radix) (c ∷ cs)) (nat_le (digits_value radix (c ∷ cs)) most) e).1 in omega arith)

pub digits_none : (radix most : ℕ) (w : Text) → (slice_index w 0 == 43) ≡ false → most < 2 ^ 64 → (IsNumeral radix (without_leading_plus w) × (digits_value radix (without_leading_plus w) < 2 ^ 64) → ⊥) → None ≡ digits radix most w
unfolding digits
digits_none radix most [] s few fails = refl
digits_none radix most (c ∷ cs) s few fails =
    let here : IsNumeral radix (c ∷ cs) × (digits_value radix (c ∷ cs) < 2 ^ 64) → ⊥ = rw (unsigned c cs s) at fails in
    either radix most c cs _ refl (λ e.
    let each = both _ _ e in
    let small : digits_value radix (c ∷ cs) ≤ most = is_within _ _ each.1 in
    here ((omega arith, all_digits radix (c ∷ cs) each.0), omega arith))

pub digits_signed : (radix most : ℕ) (w : Text) → (slice_index w 0 == 43) ≡ true → radix ≤ 36 → None ≡ digits radix most w
unfolding digits
digits_signed radix most [] s few = refl
digits_signed radix most (c ∷ cs) s few =
    let is : c ≡ 43 = grind (arith, nat_tests) in
    let other : nat_lt 36 radix ≡ false = grind (arith, nat_tests) in
    rw (is, other) refl
