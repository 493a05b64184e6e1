-- Marks of numbers.
use Rattle.std.specs.Prelude.{ℕ, ◌/◌, ◌%◌, ◌^◌, ◌==◌, Bool, false, List, slice_index}

-- a number is marked, with 64 marks in a word
unfoldable pub has_mark : List ℕ → ℕ → Bool
has_mark words number = slice_index words (number / 64) / 2 ^ (number % 64) % 2 == 1

abbrev pub no_mark : ℕ → Bool
no_mark number = false
