-- The numbers of names.
use Rattle.std.specs.Prelude.{ℕ, ◌+◌, List, [], ◌∷◌, Option, Some, None, if◌then◌else◌}
use Rattle.std.specs.Str.{bytes_eq}

-- the number of the first of these names that is this one, where the first name has number i
abbrev pub placed : ℕ → List ℕ → List (List ℕ) → Option ℕ
placed i name [] = None
placed i name (n ∷ names) = if bytes_eq n name then Some i else placed (i + 1) name names
