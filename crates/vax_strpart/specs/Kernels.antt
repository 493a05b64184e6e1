-- What the kernels look for.
use Rattle.std.specs.Prelude.{ℕ, ◌==◌, Bool, not, List, ◌++◌, map, drop, slice_index, bit_and, Option}
use Rattle.std.specs.List.{before_first, position, position_or_len, zip}

-- the first index at which two lists differ
abbrev pub first_difference : List ℕ → List ℕ → Option ℕ
first_difference xs ys = position (λ p. not (p.0 == p.1)) (zip xs ys)

-- the table's byte has a bit of the mask
abbrev pub is_hit : List ℕ → ℕ → ℕ → Bool
is_hit table mask x = not (bit_and (slice_index table x) mask == 0)

-- the table's byte has no bit of the mask
abbrev pub is_miss : List ℕ → ℕ → ℕ → Bool
is_miss table mask x = bit_and (slice_index table x) mask == 0

abbrev pub translated : List ℕ → List ℕ → List ℕ
translated table xs = map (λ x. slice_index table x) xs

-- the table's byte is the escape
abbrev pub is_escape : List ℕ → ℕ → ℕ → Bool
is_escape table escape x = slice_index table x == escape

-- the bytes before the first that escapes are translated, and the others are as before
abbrev pub translated_until : List ℕ → ℕ → List ℕ → List ℕ
translated_until table escape xs =
    translated table (before_first (is_escape table escape) xs) ++ drop (position_or_len (is_escape table escape) xs) xs
