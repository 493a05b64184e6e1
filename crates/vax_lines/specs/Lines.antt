-- The lines of a text.
use Rattle.std.specs.Prelude.{ℕ, ◌==◌, Bool, false, ◌&&◌, List, [], ◌∷◌, if◌then◌else◌}

abbrev pub Text : Type 0
Text = List ℕ

abbrev pub begins_with : ℕ → Text → Bool
begins_with b [] = false
begins_with b (c ∷ cs) = c == b

-- one more byte at the front of the first line
abbrev pub begun : ℕ → List Text → List Text
begun c [] = (c ∷ []) ∷ []
begun c (line ∷ rest) = (c ∷ line) ∷ rest

-- A line ends with LF, and one CR right before it is dropped. The last LF may be missing, and nothing behind the last LF is no line.
abbrev pub lines : Text → List Text
lines [] = []
lines (c ∷ cs) =
    if c == 10 then [] ∷ lines cs
    else if c == 13 && begins_with 10 cs then lines cs
    else begun c (lines cs)

-- a line without the CR at its end, if it has one
abbrev pub without_return : Text → Text
without_return [] = []
without_return (c ∷ []) = if c == 13 then [] else c ∷ []
without_return (c ∷ d ∷ cs) = c ∷ without_return (d ∷ cs)
