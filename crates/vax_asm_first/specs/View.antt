-- What the code's types mean.
use Rattle.std.specs.Prelude.{◌≡◌, ℕ, map, Option, Some, None, option_map, Result, Ok, Err, IfOk}
use Rattle.vax_asm_sections.specs.Layout.{Part, Zeros, Bytes, Field, Section, Sections}
use Rattle.vax_asm_sections.specs.View.{sections_of, marked_sections}
use Rattle.vax_asm_sections.specs.declared.types.Layout.{Layout}
use Rattle.vax_macro.specs.declared.error.FaultKind.{FaultKind}
use Rattle.vax_asm_first.specs.Fixups as specs
use Rattle.vax_asm_first.specs.Progress as progress
use Rattle.vax_asm_first.specs.Standing as standing
use Rattle.vax_asm_first.specs.declared.types.Filling.{Filling}
use Rattle.vax_asm_first.specs.declared.types.Filling.TheVariants as code
use Rattle.vax_asm_first.specs.declared.types.Fixup.{Fixup}
use Rattle.vax_asm_first.specs.declared.site.Site.{Site}
use Rattle.vax_asm_first.specs.declared.types.Assignment.{Assignment}
use Rattle.vax_asm_first.specs.declared.types.Refused.{Refused}
use Rattle.vax_asm_first.specs.declared.types.Refused.TheVariants.{Fault, NoMemory}
use Rattle.vax_asm_first.specs.declared.types.Saved.{Saved}
use Rattle.vax_asm_first.specs.declared.types.Standing.{Standing}
use Rattle.vax_asm_first.specs.declared.types.Told.{Told}
use Rattle.vax_asm_first.specs.declared.types.Transfer.{Transfer}
use Rattle.vax_asm_scope.specs.Kept.{scope_of, marked_scope}
use Rattle.vax_asm_scope.specs.Scope.{Scope}
use Rattle.vax_asm_values.specs.View.{written_of}

abbrev pub filling_of : Filling → specs.Filling
filling_of (code.Known v) = specs.Known v
filling_of (code.Later e) = specs.Later (written_of e)

abbrev pub fixup_of : Fixup → specs.Fixup
fixup_of f = record { origin = f.origin; at = f.at; content = f.content; filling = filling_of f.filling }

abbrev pub part_seen : Part Fixup → Part specs.Fixup
part_seen (Zeros n) = Zeros n
part_seen (Bytes bytes) = Bytes bytes
part_seen (Field f) = Field (fixup_of f)

abbrev pub section_seen : Section Fixup → Section specs.Fixup
section_seen s = record { name = s.name; declared = s.declared; write = s.write; align = s.align; size = s.size; parts = map part_seen s.parts; counter = s.counter; overlaid = s.overlaid }

abbrev pub sections_seen : Sections Fixup → Sections specs.Fixup
sections_seen s = record { all = map section_seen s.all; current = s.current; total = s.total }

abbrev pub sections_in : Layout Fixup → Sections specs.Fixup
sections_in l = sections_seen (sections_of l)

abbrev pub assignment_of : Assignment → specs.Assignment
assignment_of a = record { origin = a.origin; definition = a.definition; written = written_of a.expression }

abbrev pub transfer_of : Transfer → specs.Transfer
transfer_of t = record { name = t.name.items; definition = t.definition }

abbrev pub saved_of : Saved → standing.Saved
saved_of c = record { section = c.section.items; block = c.block }

abbrev pub standing_of : Standing → standing.Standing
standing_of s = record {
  dialect = s.dialect;
  scope = scope_of s.scope;
  keeps_block = s.keeps_block;
  absolute = s.absolute;
  displacement = s.displacement;
  sections = sections_in s.layout;
  saved = map saved_of s.saved.items;
  transfer = option_map transfer_of s.transfer;
}

-- what stood at the mark, where the names and the sections have one: all else is as it was there
abbrev pub marked_by : Standing → Option Scope → Option (Sections Fixup) → Option standing.Standing
marked_by s None sections = None
marked_by s (Some scope) None = None
marked_by s (Some scope) (Some sections) = Some (record (standing_of s) { scope = scope; sections = sections_seen sections })

unfoldable pub marked_standing : Standing → Option standing.Standing
marked_standing s = marked_by s (marked_scope s.scope) (marked_sections s.layout)

-- The mark, if there still is one, is the same as before.
abbrev pub KeepsMark : (old new : Standing) → Type 0
KeepsMark old new = (m : standing.Standing) → marked_standing new ≡ Some m → marked_standing old ≡ Some m

abbrev pub told_of : Told → Scope → standing.Told
told_of t scope = record { written = written_of t.expression; value = t.value; settled = t.settled; scope = scope }

-- what a statement leaves, or its fault; memory may be refused at any time
abbrev pub Stands : Result Unit Refused → standing.Standing → Result standing.Standing FaultKind → Type 0
Stands (Ok done) after r = r ≡ Ok after
Stands (Err (Fault kind)) after r = r ≡ Err kind
Stands (Err NoMemory) after r = Unit {0}

-- what a change leaves, or its fault, where all is as before; memory may be refused at any time
abbrev pub Changes : Result Unit Refused → standing.Standing → standing.Standing → Result standing.Standing FaultKind → Type 0
Changes (Ok done) before after r = r ≡ Ok after
Changes (Err (Fault kind)) before after r = (r ≡ Err kind) × (after ≡ before)
Changes (Err NoMemory) before after r = Unit {0}

-- The call leaves what a statement states from what stood before, or has its fault.
abbrev pub States : (standing.Standing → Result standing.Standing FaultKind) → Result Unit Refused → (old new : Standing) → Type 0
States meant result old new = Stands result (standing_of new) (meant (standing_of old))

-- The call leaves what stood before with a change, or has its fault, and then all is as before.
abbrev pub Alters : (standing.Standing → Result standing.Standing FaultKind) → Result Unit Refused → (old new : Standing) → Type 0
Alters meant result old new = Changes result (standing_of old) (standing_of new) (meant (standing_of old))

-- nothing but the scope changes
abbrev pub ChangesScope : (old new : Standing) → Type 0
ChangesScope old new = standing_of new ≡ standing.with_scope (scope_of new.scope) (standing_of old)

abbrev pub site_seen : Site → progress.Site
site_seen s = record { dialect = s.dialect; origin = s.origin; line = s.line.now.value.items; here = s.here }

abbrev pub progress_of : Option FaultKind → Standing → progress.Progress
progress_of fault s = record { fault = fault; standing = standing_of s }

-- The call leaves what a part of a statement adds to what stood before, up to a fault; memory may be refused at any time.
abbrev pub Advances : {E : Type 0} → (standing.Standing → progress.Progress) → Result (Option FaultKind) E → (old new : Standing) → Type 0
Advances meant result old new = IfOk result (λ f. progress_of f new ≡ meant (standing_of old))

abbrev pub counted_of : Result ℕ FaultKind → Scope → progress.Counted
counted_of n s = record { number = n; scope = s }
