-- What the lanes of a vector answer.
use Rattle.std.proofs.Common.{◌≡◌, ◌<◌, ℕ, ◌+◌, ◌%◌, ◌^◌, Bool, cond, List, [], ◌∷◌, ◌++◌, map, length, take, drop, get_or, slice_set, refl, sym, ap, ◌∙◌, arith, add-one, append_assoc, w8, lit≤}
use Rattle.std.specs.Prelude.{bit_and, slice_index, replicate}
use Rattle.std.specs.List.{zip}
use Rattle.std.proofs.lemmas.Simd.{bitmask_splat, tops_compared, zip2_splat, length-zip2, mask_l-mod, map-map}
use Rattle.std.proofs.lemmas.List.{take_more, take_all, length-map, length-take-le, map-append, get_or-drop}
use Rattle.std.proofs.Math.Seq.{take-suc-set, set-append_seam, drop-cons}
use Rattle.std.proofs.lemmas.List.{length-drop}
use lib.Lanes.{zip2, mask_l, top}
use Rattle.vax_strpart.specs.Kernels.{translated}

zip2_is_map : (t : ℕ → ℕ → Bool) (xs ys : List ℕ) → zip2 t xs ys ≡ map (λ p. t p.0 p.1) (zip xs ys)
zip2_is_map t [] ys = refl
zip2_is_map t (x ∷ xs) [] = refl
zip2_is_map t (x ∷ xs) (y ∷ ys) = ap (λ l. t x y ∷ l) (zip2_is_map t xs ys)

-- two vectors compared
pub compared_lanes : (t : ℕ → ℕ → Bool) (xs ys : List ℕ) → length xs ≡ 32 → length ys ≡ 32 → mask_l (map (top 7) (zip2 (λ a b. cond (t a b) 255 0) xs ys)) % 2 ^ 64 ≡ mask_l (map (λ p. t p.0 p.1) (zip xs ys))
compared_lanes t xs ys a b =
    ap (λ l. mask_l l % 2 ^ 64) (tops_compared w8 t xs ys)
    ∙ mask_l-mod (zip2 t xs ys) 64 (omega (arith, length-zip2 t xs ys (a ∙ sym b)))
    ∙ ap mask_l (zip2_is_map t xs ys)

-- a vector compared with one byte
pub same_lanes : (t : ℕ → ℕ → Bool) (xs : List ℕ) (y : ℕ) → length xs ≡ 32 → mask_l (map (top 7) (zip2 (λ a b. cond (t a b) 255 0) xs (replicate 32 y))) % 2 ^ 64 ≡ mask_l (map (λ x. t x y) xs)
same_lanes t xs y long = bitmask_splat w8 t xs 32 y long (lit≤ tt)

-- looked up, and compared with one byte
pub found_lanes : (t : ℕ → ℕ → Bool) (table chunk found : List ℕ) (y : ℕ) → found ≡ translated table chunk → length chunk ≡ 32 → mask_l (map (top 7) (zip2 (λ a b. cond (t a b) 255 0) found (replicate 32 y))) % 2 ^ 64 ≡ mask_l (map (λ x. t (slice_index table x) y) chunk)
found_lanes t table chunk found y e long =
    ap (λ f. mask_l (map (top 7) (zip2 (λ a b. cond (t a b) 255 0) f (replicate 32 y))) % 2 ^ 64) e
    ∙ same_lanes t (translated table chunk) y (length-map chunk (λ x. slice_index table x) ∙ long)
    ∙ ap mask_l (map-map (λ x. t x y) (λ x. slice_index table x) chunk)

-- looked up, masked, and compared with 0
pub masked_lanes : (t : ℕ → ℕ → Bool) (table chunk found : List ℕ) (mask : ℕ) → found ≡ translated table chunk → length chunk ≡ 32 → mask_l (map (top 7) (zip2 (λ a b. cond (t a b) 255 0) (zip2 bit_and found (replicate 32 mask)) (replicate 32 0))) % 2 ^ 64 ≡ mask_l (map (λ x. t (bit_and (slice_index table x) mask) 0) chunk)
masked_lanes t table chunk found mask e long =
    let long_found : length (translated table chunk) ≡ 32 = length-map chunk (λ x. slice_index table x) ∙ long in
    let both : zip2 bit_and found (replicate 32 mask) ≡ map (λ x. bit_and (slice_index table x) mask) chunk =
    ap (λ f. zip2 bit_and f (replicate 32 mask)) e
    ∙ zip2_splat bit_and (translated table chunk) 32 mask long_found
    ∙ map-map (λ x. bit_and x mask) (λ x. slice_index table x) chunk in
    let long_both : length (map (λ x. bit_and (slice_index table x) mask) chunk) ≡ 32 = length-map chunk (λ x. bit_and (slice_index table x) mask) ∙ long in
    ap (λ f. mask_l (map (top 7) (zip2 (λ a b. cond (t a b) 255 0) f (replicate 32 0))) % 2 ^ 64) both
    ∙ same_lanes t (map (λ x. bit_and (slice_index table x) mask) chunk) 0 long_both
    ∙ ap mask_l (map-map (λ x. t x 0) (λ x. bit_and (slice_index table x) mask) chunk)

-- one more byte is looked up
pub lookup_more : (found bytes table : List ℕ) (at k v : ℕ) → k < length found → at + k < length bytes → v ≡ slice_index table (get_or bytes (at + k) 0) → take k found ≡ translated table (take k (drop at bytes)) → take (k + 1) (slice_set found k v) ≡ translated table (take (k + 1) (drop at bytes))
lookup_more found bytes table at k v l m is e =
    let left : take (k + 1) (slice_set found k v) ≡ take k found ++ v ∷ [] = ap (λ n. take n (slice_set found k v)) (add-one k) ∙ take-suc-set found k v l in
    let here : get_or (drop at bytes) k 0 ≡ get_or bytes (at + k) 0 = get_or-drop at bytes k 0 in
    let right : take (k + 1) (drop at bytes) ≡ take k (drop at bytes) ++ get_or (drop at bytes) k 0 ∷ [] = take_more (drop at bytes) k 0 (omega (arith, length-drop at bytes)) in
    let value : v ≡ slice_index table (get_or (drop at bytes) k 0) = is ∙ ap (slice_index table) (sym here) in
    left ∙ ap (λ xs. xs ++ v ∷ []) e ∙ ap (λ w. translated table (take k (drop at bytes)) ++ w ∷ []) value
    ∙ sym (map-append (λ x. slice_index table x) (take k (drop at bytes)) (get_or (drop at bytes) k 0 ∷ [])) ∙ ap (translated table) (sym right)

pub whole : (found xs : List ℕ) → length found ≡ 32 → take 32 found ≡ xs → found ≡ xs
whole found xs long e = sym (take_all 32 found (omega arith)) ∙ e

at_seam : (xs : List ℕ) (y : ℕ) (ys : List ℕ) → get_or (xs ++ y ∷ ys) (length xs) 0 ≡ y
at_seam [] y ys = refl
at_seam (x ∷ xs) y ys = at_seam xs y ys

-- one more byte is translated in its place
pub translate_more : (table old s : List ℕ) (i : ℕ) → i < length old → s ≡ translated table (take i old) ++ drop i old → slice_set s i (slice_index table (get_or s i 0)) ≡ translated table (take (i + 1) old) ++ drop (i + 1) old
translate_more table old s i l e =
    let done = translated table (take i old) in
    let x = get_or old i 0 in
    let rest = drop (i + 1) old in
    let split : drop i old ≡ x ∷ rest = drop-cons old i 0 l ∙ ap (λ n. x ∷ drop n old) (sym (add-one i)) in
    let is : s ≡ done ++ x ∷ rest = e ∙ ap (λ r. done ++ r) split in
    let at : length done ≡ i = length-map (take i old) (λ x. slice_index table x) ∙ length-take-le i old (omega arith) in
    let here : get_or s i 0 ≡ x = ap (λ l. get_or l i 0) is ∙ ap (λ n. get_or (done ++ x ∷ rest) n 0) (sym at) ∙ at_seam done x rest in
    let set_is : slice_set s i (slice_index table (get_or s i 0)) ≡ done ++ slice_index table x ∷ rest =
    ap (λ v. slice_set s i (slice_index table v)) here
    ∙ ap (λ l. slice_set l i (slice_index table x)) is
    ∙ ap (λ n. slice_set (done ++ x ∷ rest) n (slice_index table x)) (sym at)
    ∙ set-append_seam done x rest (slice_index table x) in
    let more : translated table (take (i + 1) old) ≡ done ++ slice_index table x ∷ [] =
    ap (translated table) (take_more old i 0 l) ∙ map-append (λ x. slice_index table x) (take i old) (x ∷ []) in
    set_is ∙ sym (append_assoc done (slice_index table x ∷ []) rest) ∙ ap (λ l. l ++ rest) (sym more)
