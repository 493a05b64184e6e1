-- What was put since the mark, and the sections before it.
use Rattle.std.specs.Prelude.{◌≡◌, ◌-◌, ℕ, List, [], ◌∷◌, ◌++◌, length, take, slice_set, true, Option, Some, None, if◌then◌else◌}
use Rattle.vax_asm_sections.specs.Layout.{Part, Section, Sections, current_of}
use Rattle.vax_asm_sections.specs.declared.journal.Journal.{Journal}
use Rattle.vax_asm_sections.specs.declared.journal.Put.{Put}

-- what is left of the parts, where a section only counts, and where it doesn't
abbrev pub parts_before : {F : Type 0} → Option ℕ → List (Part F) → List (Part F)
parts_before (Some at) parts = parts
parts_before None parts = take (length parts - 1) parts

-- a section before something was put
abbrev pub shorter : {F : Type 0} → Put → Section F → Section F
shorter put s = record s { size = put.size; parts = parts_before put.counter s.parts; counter = put.counter }

-- the sections before something was put
abbrev pub undo : {F : Type 0} → Put → Sections F → Sections F
undo put s = record s { all = slice_set s.all s.current (shorter put (current_of s)); total = put.total }

-- the sections before all this was put, the last of which is undone first
unfoldable pub undone : {F : Type 0} → List Put → Sections F → Sections F
undone [] s = s
undone (put ∷ puts) s = undo put (undone puts s)

-- the sections at the mark, if there is one
abbrev pub marked_in : {F : Type 0} → Journal → Sections F → Option (Sections F)
marked_in j s = if j.marked then Some (undone j.puts.items s) else None

-- This was put last since the mark, where that is kept.
abbrev pub Notes : Put → (old new : Journal) → Type 0
Notes put old new = new.marked ≡ true → (old.marked ≡ true) × (new.puts.items ≡ old.puts.items ++ put ∷ [])

-- Since the mark something was put last into this section, where all had this size, if that is kept.
abbrev pub NotesIn : {F : Type 0} → Section F → (total : ℕ) → (old new : Journal) → Type 0
NotesIn s total old new = (new.marked ≡ true) → (put : Put) × (put.size ≡ s.size) × (put.counter ≡ s.counter) × (put.total ≡ total) × Notes put old new
