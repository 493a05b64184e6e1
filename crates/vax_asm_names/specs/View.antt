-- What the table means.
use Rattle.std.specs.Prelude.{◌≡◌, ℕ, List, Option, Some, Result, Ok, Err}
pub use Rattle.vax_asm_names.specs.Content.{name_of}
use Rattle.vax_asm_names.specs.Content.{names_in}
use Rattle.vax_asm_names.specs.Journal.{marked_in}
use Rattle.vax_asm_names.specs.Names as specs
use Rattle.vax_asm_names.specs.declared.types.Duplicate.{Duplicate}
use Rattle.vax_asm_names.specs.declared.types.LabelError.{LabelError}
use Rattle.vax_asm_names.specs.declared.types.LabelError.TheVariants as errors
use Rattle.vax_asm_names.specs.declared.types.Local.{Local}
use Rattle.vax_asm_names.specs.declared.types.NameTable.{NameTable}

abbrev pub names_of : NameTable → specs.Names
names_of t = names_in t.content

-- what the names were at the mark, if there is one
abbrev pub marked_names : NameTable → Option specs.Names
marked_names t = marked_in t.journal (names_of t)

-- The mark, if there still is one, is the same as before.
abbrev pub KeepsMark : (old new : NameTable) → Type 0
KeepsMark old new = (m : specs.Names) → marked_names new ≡ Some m → marked_names old ≡ Some m

-- a name becomes another, or is as before
abbrev pub Becomes : Result Unit Duplicate → specs.Name → specs.Name → Result specs.Name Duplicate → Type 0
Becomes (Ok done) before after r = r ≡ Ok after
Becomes (Err e) before after r = (r ≡ Err e) × (after ≡ before)

-- the names are these, or as before
abbrev pub Leaves : Result Unit Duplicate → specs.Names → specs.Names → Result specs.Names Duplicate → Type 0
Leaves (Ok done) before after r = r ≡ Ok after
Leaves (Err e) before after r = (r ≡ Err e) × (after ≡ before)

-- a call changes the names so, or leaves them as before
abbrev pub Alters : (specs.Names → Result specs.Names Duplicate) → Result Unit Duplicate → (old new : NameTable) → Type 0
Alters meant result old new = Leaves result (names_of old) (names_of new) (meant (names_of old))

-- the local label is this one; or it is a second one, and the names are as before
abbrev pub Labels : Result Local LabelError → List ℕ → specs.Names → specs.Names → Result Local Duplicate → Type 0
Labels (Ok l) text before after r = (r ≡ Ok l) × (after ≡ specs.with_local text l before)
Labels (Err errors.Duplicate) text before after r = (r ≡ Err (record {})) × (after ≡ before)
Labels (Err errors.NoMemory) text before after r = Unit {0}
