-- Lists that are read after others.
use Rattle.std.proofs.Common.{◌≡◌, ◌≤◌, ◌+◌, ℕ, true, false, nat_le, List, [], ◌∷◌, ◌++◌, length, Option, None, Some, refl, arith, length-append}
use Rattle.std.proofs.lemmas.List.{append-nil}
use Rattle.std.proofs.lemmas.Bool.Decides.{nat_tests}
use Rattle.std.specs.Option.{option_map, option_and_then}
use Rattle.vax_cli.specs.Values.{at_most}

-- a list, and behind it another, if there is one
abbrev pub behind : {A : Type 0} → List A → Option (List A) → Option (List A)
behind front rest = option_map (λ rest. front ++ rest) rest

-- how much is left of a text
abbrev pub size : Option (List ℕ) → ℕ
size None = 0
size (Some text) = length text + 1

below : (n k : ℕ) → n ≤ k → nat_le n k ≡ true
below n k l = grind (arith, nat_tests)

above : (n k : ℕ) → k + 1 ≤ n → nat_le n k ≡ false
above n k l = grind (arith, nat_tests)

-- a list that was read to its end, and is short enough
pub few : {A : Type 0} (most : ℕ) (front : List A) (whole : Option (List A)) → behind front (Some []) ≡ whole → length front ≤ most → Some front ≡ option_and_then (at_most most) whole
few most front whole e l =
    let short : nat_le (length front) most ≡ true = below _ _ l in
    rw (← e, append-nil, short) refl

-- one more item than there may be
pub too_many : {A : Type 0} (most : ℕ) (front : List A) (x : A) (rest whole : Option (List A)) → behind front (option_map (λ rest. x ∷ rest) rest) ≡ whole → length front ≡ most → None ≡ option_and_then (at_most most) whole
too_many most front x None whole e l = rw (← e) refl
too_many most front x (Some rest) whole e l =
    let long : nat_le (length (front ++ x ∷ rest)) most ≡ false = above _ _ (simp length-append (omega arith)) in
    rw (← e, long) refl

-- what is left can't be read
pub cut_off : {A : Type 0} (most : ℕ) (front : List A) (whole : Option (List A)) → behind front None ≡ whole → None ≡ option_and_then (at_most most) whole
cut_off most front whole e = rw (← e) refl
