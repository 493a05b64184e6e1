-- What the code's names mean.
use Rattle.std.specs.Prelude.{Bool, true, false, List, [], ◌∷◌, ◌++◌, map}
use Rattle.std.specs.Borrow.{Bor}
use Rattle.vax_asm_errors.specs.declared.errors.Source.{Source}
use Rattle.vax_check.specs.Linking.{File}
use Rattle.vax_lines.specs.Lines.{Text}
use Rattle.vax_prelude.specs.Preludes as specs
use Rattle.vax_prelude.specs.Preludes.{Prelude, Title}
use Rattle.vax_prelude.specs.View.{title_seen}

abbrev pub names_of : List (Bor Text) → List Text
names_of names = map (λ name. name.now) names

-- the titles of files with these names, before which these preludes stand
abbrev pub titles_of : List Prelude → List (Bor Text) → List Title
titles_of preludes names = specs.titles_of preludes (names_of names)

abbrev pub file_seen : Source → File
file_seen source = record { title = title_seen source.title; text = source.text.now }

abbrev pub files_seen : List Source → List File
files_seen sources = map file_seen sources

-- a list with one more at its end, if that is wanted
abbrev pub with_if : Bool → Source → List Source → List Source
with_if true source sources = sources ++ source ∷ []
with_if false source sources = sources
