-- What the code's types mean.
use Rattle.std.specs.Prelude.{◌≡◌, map, Option, Some, Result, Ok, Err}
use Rattle.vax_asm_sections.specs.Journal.{marked_in}
use Rattle.vax_asm_sections.specs.declared.types.Piece.{Piece}
use Rattle.vax_asm_sections.specs.declared.types.Piece.TheVariants as piece
use Rattle.vax_asm_sections.specs.declared.types.Building.{Building}
use Rattle.vax_asm_sections.specs.declared.types.Layout.{Layout}
use Rattle.vax_asm_sections.specs.declared.types.Refusal.{Refusal}
use Rattle.vax_asm_sections.specs.declared.types.Refusal.TheVariants.{NoMemory}
use Rattle.vax_asm_sections.specs.Layout.{Part, Zeros, Bytes, Field, Section, Sections}

abbrev pub part_of : {F : Type 0} → Piece F → Part F
part_of (piece.Zeros n) = Zeros n
part_of (piece.Bytes v) = Bytes v.items
part_of (piece.Field f) = Field f

abbrev pub section_of : {F : Type 0} → Building F → Section F
section_of b = record { name = b.name.items; declared = b.declared; write = b.write; align = b.align; size = b.size; parts = map part_of b.pieces.items; counter = b.counter; overlaid = b.overlaid }

abbrev pub sections_of : {F : Type 0} → Layout F → Sections F
sections_of l = record { all = map section_of l.sections.items; current = l.current; total = l.total }

-- what the sections were at the mark, if there is one
abbrev pub marked_sections : {F : Type 0} → Layout F → Option (Sections F)
marked_sections l = marked_in l.journal (sections_of l)

-- The mark, if there still is one, is the same as before.
abbrev pub KeepsMark : {F : Type 0} → (old new : Layout F) → Type 0
KeepsMark {F} old new = (m : Sections F) → marked_sections new ≡ Some m → marked_sections old ≡ Some m

-- what is left, or why it is as before; memory may be refused at any time
abbrev pub Leaves : {F : Type 0} → Result Unit Refusal → Layout F → Layout F → Result (Sections F) Refusal → Type 0
Leaves (Ok u) before after r = r ≡ Ok (sections_of after)
Leaves (Err NoMemory) before after r = Unit {0}
Leaves (Err refusal) before after r = (r ≡ Err refusal) × (sections_of after ≡ sections_of before)
