-- What memory there is room for, and what is read of it.
use Rattle.std.specs.Prelude.{ℕ, ◌+◌, List, [], ◌∷◌, length, map, Option}
use Rattle.vax_outside.specs.Blocks.{BlockFile}
use Rattle.vax_pager.specs.Poking.{OnlyRead, ReadsAtMost}
use Rattle.vax_machine.specs.Console.{pages_in}
use Rattle.vax_cli.specs.declared.command.DumpItem.{DumpItem}
use Rattle.vax_command.specs.declared.dump.Blank.{Blank}

-- the bytes from an address on, as many as there are cells
abbrev pub item_of : Blank → DumpItem
item_of blank = record { address = blank.address; count = length blank.cells.items }

abbrev pub items_of : List Blank → List DumpItem
items_of blanks = map item_of blanks

-- so many pages have the memory that these items ask for
unfoldable pub pages_shown : List DumpItem → ℕ
pages_shown [] = 0
pages_shown (item ∷ items) = pages_in item.address item.count + pages_shown items

-- blocks were read for these items, at most one for each page of each, and none was written
pub record ReadsFor (items : List DumpItem) (before after : Option BlockFile) : Type 0 where
  pub only : OnlyRead before after
  pub once : ReadsAtMost (pages_shown items) before after
