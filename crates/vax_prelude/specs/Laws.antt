-- Lines by their numbers.
use Rattle.std.specs.Prelude.{◌≡◌, true, ℕ, zero, suc, ◌==◌, if◌then◌else◌, List, [], ◌∷◌}
use Rattle.vax_lines.specs.Lines.{Text, lines}
use Rattle.vax_prelude.specs.Preludes.{InPrelude, InSource, Place, Prelude, ends}

-- the line with a number from 1 on, and the empty one where there is none
abbrev pub line_of : ℕ → List Text → Text
line_of n [] = []
line_of zero (line ∷ more) = []
line_of (suc n) (line ∷ more) = if n == 0 then line else line_of n more

-- the text of the prelude with a number, where the first of these has that one
abbrev pub text_from : (first number : ℕ) → List Prelude → Text
text_from first number [] = []
text_from first number (p ∷ preludes) = if first == number then p.text else text_from (suc first) number preludes

-- the line of the file that a place names
abbrev pub line_at : List Prelude → (source : Text) → Place → Text
line_at preludes source (InPrelude number name line) = line_of line (lines (text_from 1 number preludes))
line_at preludes source (InSource line) = line_of line (lines source)

-- the last line of each of them ends
abbrev pub AreEnded : List Prelude → Type 0
AreEnded [] = Unit {0}
AreEnded (p ∷ preludes) = (ends p.text ≡ true) × AreEnded preludes
