-- The words of a line.
use Rattle.std.specs.Prelude.{ℕ, ◌==◌, ◌-◌, Bool, false, not, ◌&&◌, List, [], ◌∷◌, if◌then◌else◌, length, slice_index}
use Rattle.vax_lines.specs.Lines.{Text}

abbrev pub is_word_byte : ℕ → Bool
is_word_byte c = not (c == 32)

abbrev pub begins_word : Text → Bool
begins_word [] = false
begins_word (c ∷ cs) = is_word_byte c

-- one more byte at the front of the first word
abbrev pub longer : ℕ → List Text → List Text
longer c [] = (c ∷ []) ∷ []
longer c (w ∷ rest) = (c ∷ w) ∷ rest

-- Spaces separate words, and a word is as long as it can be.
abbrev pub words : Text → List Text
words [] = []
words (c ∷ cs) =
    if c == 32 then words cs
    else if begins_word cs then longer c (words cs)
    else (c ∷ []) ∷ words cs

-- it begins and ends with a byte that is no space
abbrev pub is_trimmed : Text → Bool
is_trimmed line = not (slice_index line 0 == 32) && not (slice_index line (length line - 1) == 32)
