-- A number that is too large in a front of its digits is too large.
use Rattle.std.proofs.Common.{◌≡◌, ◌<◌, ◌≤◌, ℕ, Bool, true, false, None, length, take, nat_le, arith, refl, List, get_or, drop, ◌+◌, add-one}
use Rattle.std.proofs.lemmas.Bool.Decides.{nat_tests}
use Rattle.std.specs.List.{list_all}
use Rattle.std.specs.Str.Parse.{digits_value}
use Rattle.std.proofs.lemmas.Str.Parse.{digits_value-take-le}
use Rattle.std.proofs.Math.Seq.{drop-cons}
use Rattle.vax_lines.specs.Numbers.{number_in, are_digits}

above : (n k : ℕ) → k < n → nat_le n k ≡ false
above n k l = grind (arith, nat_tests)

either_way : (b : Bool) (w : List ℕ) (radix most : ℕ) → are_digits radix w ≡ b → nat_le (digits_value radix w) most ≡ false → number_in radix most w ≡ None
either_way true w radix most e f = rw (e, f) refl
either_way false w radix most e f = rw e refl

pub too_large : (radix most : ℕ) (w : List ℕ) (i : ℕ) → 1 ≤ radix → most < digits_value radix (take i w) → number_in radix most w ≡ None
too_large radix most w i r l =
    let all : digits_value radix (take i w) ≤ digits_value radix w = digits_value-take-le radix w i r in
    either_way (are_digits radix w) w radix most refl (above _ _ (omega arith))

-- a byte that passes decides nothing
pub list_all-next : (p : ℕ → Bool) (xs : List ℕ) (i : ℕ) → i < length xs → p (get_or xs i 0) ≡ true → list_all p (drop (i + 1) xs) ≡ list_all p (drop i xs)
list_all-next p xs i l e = rw (add-one, drop-cons xs i 0 l, e) refl
