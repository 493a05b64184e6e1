-- The names that a scan finds have at most 31 characters, as they are kept.
use Rattle.std.proofs.Common.{◌≡◌, ◌<◌, ◌≤◌, ℕ, suc, ◌+◌, ◌*◌, Bool, true, false, cond, List, [], ◌∷◌, ◌++◌, length, get_or, set, take, drop, refl, ap, arith, ◌∙◌, sym, subst}
use Rattle.std.specs.Prelude.{map, ◌==◌}
use Rattle.std.specs.List.{prefix_len}
use Rattle.std.specs.Char.{digit_value, to_ascii_uppercase}
use Rattle.std.proofs.lemmas.List.{length-map, length-drop, length-take, length-append, take_more, take_more_set, take_all, map_more}
use Rattle.std.proofs.lemmas.Bool.Decides.{nat_tests}
use Rattle.vax_lex.specs.Characters.{canonical_name, is_zero, number_after, number_of}
use Rattle.vax_lex.proofs.Runs.{number_grows}

-- without the zeros before it
abbrev pub stripped : List ℕ → List ℕ
stripped text = drop (prefix_len is_zero text) text

pub canonical-length : (text : List ℕ) → length (canonical_name text) ≡ length (stripped text)
canonical-length text = length-map (stripped text) to_ascii_uppercase

pub canonical_short : (text : List ℕ) → length text ≤ 31 → length (canonical_name text) ≤ 31
canonical_short text h = omega (arith, canonical-length text, length-drop (prefix_len is_zero text) text)

-- a number from 1 on grows past 65535 with five digits more
few_digits : (v : ℕ) (ds : List ℕ) → 0 < v → number_after 10 v ds ≤ 65535 → length ds ≤ 4
unfolding number_after
few_digits v [] h b = omega arith
few_digits v (d1 ∷ []) h b = omega arith
few_digits v (d1 ∷ d2 ∷ []) h b = omega arith
few_digits v (d1 ∷ d2 ∷ d3 ∷ []) h b = omega arith
few_digits v (d1 ∷ d2 ∷ d3 ∷ d4 ∷ []) h b = omega arith
few_digits v (d1 ∷ d2 ∷ d3 ∷ d4 ∷ d5 ∷ ds) h b =
    absurd (omega (arith, number_grows 10 (((((v * 10 + digit_value d1) * 10 + digit_value d2) * 10 + digit_value d3) * 10 + digit_value d4) * 10 + digit_value d5) ds (omega arith)))

-- only `0` is worth 0
worth_nothing : (d : ℕ) → (d == 48) ≡ false → 0 < digit_value d
worth_nothing d h = grind (arith, nat_tests)

-- what is left of a label after its first zeros
strip_step : (d : ℕ) (xs : List ℕ) (t : Bool) → (d == 48) ≡ t → stripped (d ∷ xs) ≡ cond t (stripped xs) (d ∷ xs)
strip_step d xs true e = rw (e, stripped) (rw one_more refl)
  where
    one_more : 1 + prefix_len is_zero xs ≡ suc (prefix_len is_zero xs)
    one_more = omega arith
strip_step d xs false e = rw (e, stripped) refl

zero_digit : (d : ℕ) → (d == 48) ≡ true → digit_value d ≡ 0
zero_digit d h = grind (arith, nat_tests)

label_first : (d : ℕ) (ds : List ℕ) (t : Bool) → (d == 48) ≡ t → number_after 10 0 (d ∷ ds) ≤ 65535
    → (number_after 10 0 ds ≤ 65535 → length (stripped (ds ++ 36 ∷ [])) ≤ 6) → length (stripped (d ∷ (ds ++ 36 ∷ []))) ≤ 6
unfolding number_after
label_first d ds true e h ih =
    let nothing : 0 * 10 + digit_value d ≡ 0 = omega (arith, zero_digit d e) in
    let less : number_after 10 0 ds ≤ 65535 = subst (λ (v : ℕ). number_after 10 v ds ≤ 65535) nothing h in
    let is : length (stripped (d ∷ (ds ++ 36 ∷ []))) ≡ length (stripped (ds ++ 36 ∷ [])) = ap length (strip_step d (ds ++ 36 ∷ []) true e) in
    omega (arith, ih less, is)
label_first d ds false e h ih =
    let some : 0 < 0 * 10 + digit_value d = omega (arith, worth_nothing d e) in
    let few : length ds ≤ 4 = few_digits (0 * 10 + digit_value d) ds some h in
    let is : length (stripped (d ∷ (ds ++ 36 ∷ []))) ≡ suc (length (ds ++ 36 ∷ [])) = ap length (strip_step d (ds ++ 36 ∷ []) false e) in
    omega (arith, is, length-append ds (36 ∷ []))

label_stripped : (ds : List ℕ) → number_after 10 0 ds ≤ 65535 → length (stripped (ds ++ 36 ∷ [])) ≤ 6
label_stripped [] h = omega arith
label_stripped (d ∷ ds) h = label_first d ds (d == 48) refl h (label_stripped ds)

-- a local label is short without the zeros before it
pub label_short : (bytes : List ℕ) (k : ℕ) → k < length bytes → get_or bytes k 0 ≡ 36 → number_of 10 (take k bytes) ≤ 65535
    → length (canonical_name (take (k + 1) bytes)) ≤ 31
label_short bytes k h e n =
    let is : take (k + 1) bytes ≡ take k bytes ++ 36 ∷ [] = take_more bytes k 0 h ∙ ap (λ (b : ℕ). take k bytes ++ b ∷ []) e in
    let short : length (stripped (take (k + 1) bytes)) ≤ 6 = subst (λ (text : List ℕ). length (stripped text) ≤ 6) (sym is) (label_stripped (take k bytes) n) in
    omega (arith, canonical-length (take (k + 1) bytes), short)

-- a name that is cut at 31 characters
pub name_short : (bytes : List ℕ) (n : ℕ) → n ≤ 31 → length (canonical_name (take n bytes)) ≤ 31
name_short bytes n h = canonical_short (take n bytes) (omega (arith, length-take n bytes))

-- one character more in capitals
pub capital_more : (bytes text : List ℕ) (i : ℕ) → length bytes ≡ 31 → i < length text → length text ≤ 31 → take i bytes ≡ map to_ascii_uppercase (take i text)
    → take (i + 1) (set bytes i (to_ascii_uppercase (get_or text i 0))) ≡ map to_ascii_uppercase (take (i + 1) text)
capital_more bytes text i n h k e =
    let room : i < length bytes = omega arith in
    let new = take_more_set bytes i (to_ascii_uppercase (get_or text i 0)) room in
    let old = map_more to_ascii_uppercase text i 0 h in
    cc (new, old, e)

-- all of them
pub capital_all : (bytes text : List ℕ) (i : ℕ) → length text ≤ i → i ≤ length text → take i bytes ≡ map to_ascii_uppercase (take i text)
    → take (length text) bytes ≡ map to_ascii_uppercase text
capital_all bytes text i h k e =
    let here : i ≡ length text = omega arith in
    let whole : take i text ≡ text = take_all i text h in
    ap (λ (n : ℕ). take n bytes) (sym here) ∙ e ∙ ap (map to_ascii_uppercase) whole
