-- Marks in blocks, and marks that a test makes.
use Rattle.std.proofs.Common.{◌≡◌, ◌<◌, ◌≤◌, ℕ, ◌+◌, ◌*◌, ◌==◌, nat_lt, Bool, true, false, not, cond, eqb, List, [], ◌∷◌, ◌++◌, map, length, take, drop, get_or, zero, suc, Option, Some, None, refl, sym, ap, ap₂, ◌∙◌, arith}
use Rattle.std.proofs.lemmas.Simd.{chunk-drop, length-chunk, leading_from_mask_l, trailing_mask_l}
use Rattle.std.proofs.lemmas.List.{length-drop, length-map, take-map, drop-map, get_or-map}
use Rattle.std.proofs.lemmas.List.Folds.{prefix_len-append}
use Rattle.std.proofs.lemmas.List.Sums.{prefix_len-le-length}
use Rattle.std.proofs.lemmas.Bool.{eq-eqb, ne_eqb}
use Rattle.std.specs.List.{position, position_or_len, zip}
use Rattle.std.proofs.lemmas.Bool.Decides.{nat_tests}
use Rattle.std.specs.Prelude.{unwrap_or}
use Rattle.vax_strpart.specs.Kernels.{is_escape, translated, translated_until}
use lib.Lanes.{chunk, mask_l}
use lib.Count.{count_trailing_zeros}

-- the first mark, or the number of places
abbrev pub first_of : List Bool → ℕ
first_of ms = position_or_len (λ b. b) ms

same_marks : (ms : List Bool) → map (λ b. b) ms ≡ ms
same_marks [] = refl
same_marks (m ∷ ms) = ap (λ l. m ∷ l) (same_marks ms)

pub first_within : (ms : List Bool) (i : ℕ) → i ≤ length ms → i + first_of (drop i ms) ≤ length ms
first_within ms i l = omega (arith, prefix_len-le-length (λ b. not b) (drop i ms), length-drop i ms)

none_marked : (b : Bool) (n l m : ℕ) → n ≤ l → cond (not b) (1 + n) 0 ≡ 1 + l → (n ≡ l → m ≡ 0) → cond b 1 0 + 2 * m ≡ 0
none_marked true n l m le e ih = let no : ⊥ = omega arith in absurd no
none_marked false n l m le e ih = let z = ih (omega arith) in omega arith

unmarked : (ms : List Bool) → first_of ms ≡ length ms → mask_l ms ≡ 0
unmarked [] e = refl
unmarked (m ∷ ms) e = none_marked m _ (length ms) _ (prefix_len-le-length (λ b. not b) ms) (omega arith) (unmarked ms)

-- the first mark from a place on, by the block that stands there
by_block : (ms : List Bool) (i n : ℕ) → first_of (drop i ms) ≡ cond (eqb (first_of (chunk i n ms)) (length (chunk i n ms))) (length (chunk i n ms) + first_of (drop (i + n) ms)) (first_of (chunk i n ms))
by_block ms i n = ap first_of (chunk-drop i n ms) ∙ prefix_len-append (λ b. not b) (chunk i n ms) (drop (i + n) ms)

-- a block without a mark
pub block_none : (ms : List Bool) (i : ℕ) → i + 32 ≤ length ms → mask_l (take 32 (drop i ms)) ≡ 0 → first_of (drop i ms) ≡ 32 + first_of (drop (i + 32) ms)
block_none ms i room none =
    let c = chunk i 32 ms in
    let all : first_of c ≡ length c = leading_from_mask_l (λ b. b) c (ap mask_l (same_marks c) ∙ none) in
    by_block ms i 32 ∙ ap (λ b. cond b (length c + first_of (drop (i + 32) ms)) (first_of c)) (eq-eqb _ _ all)
    ∙ ap (λ k. k + first_of (drop (i + 32) ms)) (length-chunk i 32 ms room)

-- a block with a mark
pub block_some : (ms : List Bool) (i : ℕ) → i + 32 ≤ length ms → 0 < mask_l (take 32 (drop i ms)) → first_of (drop i ms) ≡ count_trailing_zeros 64 (mask_l (take 32 (drop i ms)))
block_some ms i room some =
    let c = chunk i 32 ms in
    let short : length c ≤ 64 = omega (arith, length-chunk i 32 ms room) in
    let same : mask_l (map (λ b. b) c) ≡ mask_l c = ap mask_l (same_marks c) in
    let first : count_trailing_zeros 64 (mask_l (map (λ b. b) c)) ≡ first_of c = trailing_mask_l (λ b. b) 64 c short (omega (arith, same)) in
    by_block ms i 32 ∙ ap (λ b. cond b (length c + first_of (drop (i + 32) ms)) (first_of c)) (ne_eqb _ _ (λ (e : first_of c ≡ length c). omega (arith, unmarked c e)))
    ∙ sym first ∙ ap (count_trailing_zeros 64) same

-- the first element that a test marks
first_of-map : {A : Type 0} (p : A → Bool) (xs : List A) → first_of (map p xs) ≡ position_or_len p xs
first_of-map p [] = refl
first_of-map p (x ∷ xs) = ap (λ n. cond (not (p x)) (1 + n) 0) (first_of-map p xs)

pub position-map : {A : Type 0} (p : A → Bool) (xs : List A) → position (λ b. b) (map p xs) ≡ position p xs
position-map p xs = ap₂ (λ n l. cond (nat_lt n l) (Some n) None) (first_of-map p xs) (length-map xs p)

-- a block of what a test marks
pub block-map : {A : Type 0} (p : A → Bool) (xs : List A) (i n : ℕ) → map p (take n (drop i xs)) ≡ take n (drop i (map p xs))
block-map p xs i n = sym (ap (take n) (drop-map p i xs) ∙ take-map p n (drop i xs))

some : {A : Type 0} (x : A) (xs : List A) → length (x ∷ xs) ≡ suc (length xs)
some x xs = grind arith

pub length-zip : {A : Type 0} (xs ys : List A) → length xs ≡ length ys → length (zip xs ys) ≡ length xs
length-zip [] ys e = refl
length-zip (x ∷ xs) [] e = absurd (omega (arith, some x xs))
length-zip (x ∷ xs) (y ∷ ys) e = some (x, y) (zip xs ys) ∙ ap suc (length-zip xs ys (omega (arith, some x xs, some y ys))) ∙ sym (some x xs)

drop_nothing : {A : Type 0} (xs ys : List A) → ys ≡ [] → zip xs ys ≡ []
drop_nothing [] ys e = refl
drop_nothing (x ∷ xs) [] e = refl
drop_nothing (x ∷ xs) (y ∷ ys) e = absurd (cc)

drop-zip : {A : Type 0} (i : ℕ) (xs ys : List A) → drop i (zip xs ys) ≡ zip (drop i xs) (drop i ys)
drop-zip zero xs ys = refl
drop-zip (suc i) [] ys = refl
drop-zip (suc i) (x ∷ xs) [] = sym (drop_nothing (drop i xs) [] refl)
drop-zip (suc i) (x ∷ xs) (y ∷ ys) = drop-zip i xs ys

take-zip : {A : Type 0} (n : ℕ) (xs ys : List A) → take n (zip xs ys) ≡ zip (take n xs) (take n ys)
take-zip zero xs ys = refl
take-zip (suc n) [] ys = refl
take-zip (suc n) (x ∷ xs) [] = refl
take-zip (suc n) (x ∷ xs) (y ∷ ys) = ap (λ l. (x, y) ∷ l) (take-zip n xs ys)

-- a block of two lists
pub block-zip : {A : Type 0} (xs ys : List A) (i n : ℕ) → take n (drop i (zip xs ys)) ≡ zip (take n (drop i xs)) (take n (drop i ys))
block-zip xs ys i n = ap (take n) (drop-zip i xs ys) ∙ take-zip n (drop i xs) (drop i ys)

pub get_or-zip : {A : Type 0} (xs ys : List A) (i : ℕ) (d e : A) → i < length xs → i < length ys → get_or (zip xs ys) i (d, e) ≡ (get_or xs i d, get_or ys i e)
get_or-zip [] ys i d e l m = absurd (omega arith)
get_or-zip (x ∷ xs) [] i d e l m = absurd (omega arith)
get_or-zip (x ∷ xs) (y ∷ ys) zero d e l m = refl
get_or-zip (x ∷ xs) (y ∷ ys) (suc i) d e l m = get_or-zip xs ys i d e (omega (arith, some x xs)) (omega (arith, some y ys))

-- at which places two lists differ
abbrev pub differ : List ℕ → List ℕ → List Bool
differ xs ys = map (λ p. not (p.0 == p.1)) (zip xs ys)

pub length-differ : (xs ys : List ℕ) → length xs ≡ length ys → length (differ xs ys) ≡ length xs
length-differ xs ys e = length-map (zip xs ys) (λ p. not (p.0 == p.1)) ∙ length-zip xs ys e

pub differ-at : (xs ys : List ℕ) (i : ℕ) → length xs ≡ length ys → i < length xs → not (get_or xs i 0 == get_or ys i 0) ≡ get_or (differ xs ys) i false
differ-at xs ys i e l =
    let test : ℕ × ℕ → Bool = λ p. not (p.0 == p.1) in
    sym (get_or-map test (zip xs ys) i (0, 0) false (omega (arith, length-zip xs ys e)) ∙ ap test (get_or-zip xs ys i 0 0 l (omega arith)))

pub differ-block : (xs ys : List ℕ) (i : ℕ) → map (λ p. not (p.0 == p.1)) (zip (take 32 (drop i xs)) (take 32 (drop i ys))) ≡ take 32 (drop i (differ xs ys))
differ-block xs ys i =
    let test : ℕ × ℕ → Bool = λ p. not (p.0 == p.1) in
    ap (map test) (sym (block-zip xs ys i 32)) ∙ block-map test (zip xs ys) i 32

by_less : (n len : ℕ) (b : Bool) → nat_lt n len ≡ b → n ≤ len → unwrap_or (cond b (Some n) None) len ≡ n
by_less n len true e l = refl
by_less n len false e l = let from : len ≤ n = grind (arith, nat_tests) in omega arith

-- the first index, or the length
pub end_of : (p : ℕ → Bool) (xs : List ℕ) (found : Option ℕ) → found ≡ position p xs → unwrap_or found (length xs) ≡ position_or_len p xs
end_of p xs found e =
    ap (λ o. unwrap_or o (length xs)) e
    ∙ by_less (position_or_len p xs) (length xs) (nat_lt (position_or_len p xs) (length xs)) refl (prefix_len-le-length (λ x. not (p x)) xs)

pub moved : (table : List ℕ) (escape end : ℕ) (s new : List ℕ) → end ≡ position_or_len (is_escape table escape) s → new ≡ translated table (take end s) → new ++ drop end s ≡ translated_until table escape s
moved table escape end s new e n =
    ap (λ l. l ++ drop end s) n ∙ ap (λ k. translated table (take k s) ++ drop k s) e
