-- The definitions that are kept.
use Rattle.std.specs.Prelude.{◌≡◌, List, Option, Some}
use Rattle.vax_asm_values.specs.Values.{Source}
use Rattle.vax_asm_values.specs.View.{sources_in}
use Rattle.vax_asm_values.specs.Marks.{marked_in}
use Rattle.vax_asm_values.specs.declared.definitions.Definitions.{Definitions}

abbrev pub sources_of : Definitions → List Source
sources_of d = sources_in d.board.sources

-- what they were at the mark, if there is one
unfoldable pub marked_sources : Definitions → Option (List Source)
marked_sources d = marked_in d.board

-- a mark afterwards is the one before
abbrev pub KeepsMark : Definitions → Definitions → Type 0
KeepsMark old new = (m : List Source) → marked_sources new ≡ Some m → marked_sources old ≡ Some m
