-- What stands before each source of a program: preludes, which have macros that several files share.
use Rattle.std.specs.Prelude.{ℕ, suc, ◌-◌, ◌==◌, nat_le, Bool, true, if◌then◌else◌, List, [], ◌∷◌, ◌++◌, length, map}
use Rattle.std.specs.List.{flat_map}
use Rattle.vax_lines.specs.Lines.{Text, lines}

-- a file that stands before each source, by its name and its text
pub record Prelude : Type 0 where
  pub name : Text
  pub text : Text

-- its last line ends, or it has none
unfoldable pub ends : Text → Bool
ends [] = true
ends (c ∷ []) = c == 10
ends (c ∷ d ∷ cs) = ends (d ∷ cs)

-- a text whose last line ends too
abbrev pub ended : Text → Text
ended text = if ends text then text else text ++ 10 ∷ []

-- the preludes of files with these names
abbrev pub preludes_of : (names texts : List Text) → List Prelude
preludes_of (name ∷ names) (text ∷ texts) = record { name = name; text = ended text } ∷ preludes_of names texts
preludes_of _ _ = []

-- The text that is assembled for a source: those of the preludes in their order, and then its own.
abbrev pub joined : List Prelude → Text → Text
joined preludes text = flat_map (λ p. p.text) preludes ++ text

-- whose line a line of it is, and which one there: one of the prelude with a number from 1 on and a name, or one of the source
pub data Place : Type 0 where
  InPrelude : (number : ℕ) → (name : Text) → (line : ℕ) → Place
  InSource : (line : ℕ) → Place

-- the same where the first of these preludes has this number
abbrev pub told_from : (number : ℕ) → List Prelude → (line : ℕ) → Place
told_from number [] line = InSource line
told_from number (p ∷ preludes) line =
    if nat_le line (length (lines p.text)) then InPrelude number p.name line else told_from (suc number) preludes (line - length (lines p.text))

unfoldable pub told_at : List Prelude → (line : ℕ) → Place
told_at preludes line = told_from 1 preludes line

-- the name of the file whose line it is, where the source has this name, and its number there
abbrev pub name_in : (name : Text) → Place → Text
name_in name (InPrelude number other line) = other
name_in name (InSource line) = name

abbrev pub line_in : Place → ℕ
line_in (InPrelude number other line) = line
line_in (InSource line) = line

-- the name of a source, and what stands before it
pub record Title : Type 0 where
  pub preludes : List Prelude
  pub name : Text

-- the name of the file whose line a line is, and its number there
abbrev pub name_at : Title → (line : ℕ) → Text
name_at title line = name_in title.name (told_at title.preludes line)

abbrev pub number_at : Title → (line : ℕ) → ℕ
number_at title line = line_in (told_at title.preludes line)

-- the titles of sources with these names
abbrev pub titles_of : List Prelude → (names : List Text) → List Title
titles_of preludes names = map (λ name. record { preludes = preludes; name = name }) names
