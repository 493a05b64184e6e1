-- The bytes before one that escapes.
use Rattle.std.proofs.Common.{ℕ, zero, suc, ◌≡◌, ◌≤◌, List, [], ◌∷◌, ◌++◌, length, map, take, drop, slice_index, refl, ap, ◌∙◌, arith}
use Rattle.std.proofs.lemmas.List.Sums.{prefix_len-le-length}
use Rattle.std.specs.List.{position_or_len}
use Rattle.std.specs.Prelude.{not}
use Rattle.vax_strpart.specs.Kernels.{translated, translated_until, is_escape}

part_mapped : (f : ℕ → ℕ) (count end : ℕ) (xs rest : List ℕ) → count ≤ end → end ≤ length xs → take count (map f (take end xs) ++ rest) ≡ map f (take count xs)
part_mapped f zero end xs rest few within = refl
part_mapped f (suc count) zero xs rest few within = absurd (omega arith)
part_mapped f (suc count) (suc end) [] rest few within = absurd (omega arith)
part_mapped f (suc count) (suc end) (x ∷ xs) rest few within = ap (λ ys. f x ∷ ys) (part_mapped f count end xs rest (omega arith) (omega (arith, some_more x xs)))
  where
    some_more : (y : ℕ) (ys : List ℕ) → length (y ∷ ys) ≡ suc (length ys)
    some_more y ys = grind arith

pub part_translated : (table : List ℕ) (escape count : ℕ) (xs ys : List ℕ) → ys ≡ translated_until table escape xs → count ≤ position_or_len (is_escape table escape) xs → take count ys ≡ translated table (take count xs)
part_translated table escape count xs ys is few =
    let end = position_or_len (is_escape table escape) xs in
    ap (take count) is ∙ part_mapped (λ x. slice_index table x) count end xs (drop end xs) few (prefix_len-le-length (λ x. not (is_escape table escape x)) xs)
