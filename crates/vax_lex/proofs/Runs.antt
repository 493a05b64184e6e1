-- What more digits make of a number, and the lemmas of std on the longest front that passes a test.
use Rattle.std.proofs.Common.{◌≡◌, ◌<◌, ◌≤◌, ℕ, ◌+◌, ◌*◌, List, [], ◌∷◌, length, get_or, drop, ap, arith, refl}
use Rattle.std.specs.Char.{digit_value}
use Rattle.std.proofs.lemmas.List.{drop_more, drop_all}
use Rattle.std.proofs.lemmas.List.Sums.{prefix_len-drop_yes, prefix_len-drop_no, prefix_len-drop_all}
use Rattle.std.proofs.lemmas.Bool.Decides.{nat_tests}
use Rattle.vax_lex.specs.Characters.{number_after}
use Rattle.vax_lex.specs.Tokens.{digit_run}

pub ruleset runs = (prefix_len-drop_yes, prefix_len-drop_no, prefix_len-drop_all)

-- a digit more
pub number_more : (radix n : ℕ) (ds : List ℕ) (i : ℕ) → i < length ds
    → number_after radix n (drop i ds) ≡ number_after radix (n * radix + digit_value (get_or ds i 0)) (drop (i + 1) ds)
unfolding number_after
number_more radix n ds i h = ap (number_after radix n) (drop_more ds i 0 h)

-- no digit more
pub number_all : (radix n : ℕ) (ds : List ℕ) (i : ℕ) → length ds ≤ i → number_after radix n (drop i ds) ≡ n
unfolding number_after
number_all radix n ds i h = ap (number_after radix n) (drop_all i ds h)

grows_by : (n radix : ℕ) → 0 < radix → n ≤ n * radix
grows_by n radix h = grind arith

-- digits never make a number less
pub number_grows : (radix n : ℕ) (ds : List ℕ) → 0 < radix → n ≤ number_after radix n ds
unfolding number_after
number_grows radix n [] h = omega arith
number_grows radix n (d ∷ ds) h =
    let ih : n * radix + digit_value d ≤ number_after radix (n * radix + digit_value d) ds = number_grows radix (n * radix + digit_value d) ds h in
    let le : n ≤ n * radix = grows_by n radix h in
    omega arith

-- radix 0 has no digits
pub no_digits : (radix : ℕ) (xs : List ℕ) → radix ≡ 0 → digit_run radix xs ≡ 0
no_digits radix [] e = refl
no_digits radix (x ∷ xs) e = grind (arith, nat_tests)
