-- What the code's types mean, and what a call gives.
use Rattle.std.specs.Prelude.{◌≡◌, List, map, Option, Some, None, Result, Ok, Err}
use Rattle.vax_module.specs.declared.Module.{Module}
use Rattle.vax_asm_first.specs.Fixups as fixups
use Rattle.vax_asm_first.specs.View.{part_seen, section_seen}
use Rattle.vax_asm_first.specs.declared.types.Fixup.{Fixup}
use Rattle.vax_asm_scope.specs.Kept.{scope_of}
use Rattle.vax_asm_sections.specs.Layout.{Part, Section}
use Rattle.vax_asm_sections.specs.View.{part_of, section_of}
use Rattle.vax_asm_sections.specs.declared.types.Building.{Building}
use Rattle.vax_asm_sections.specs.declared.types.Piece.{Piece}
use Rattle.vax_asm_second.specs.Laid as specs
use Rattle.vax_asm_second.specs.declared.types.Fault.{Fault}
use Rattle.vax_asm_second.specs.declared.types.FillError.{FillError}
use Rattle.vax_asm_second.specs.declared.types.FillError.TheVariants as errors
use Rattle.vax_asm_second.specs.declared.types.Known.{Known}
use Rattle.vax_asm_second.specs.declared.types.Laid.{Laid}

abbrev pub known_of : Known → specs.Known
known_of k = record { sources = (scope_of k.scope.now).sources; sections = k.sections; externals = k.externals }

-- the parts and the sections that the code keeps
abbrev pub seen_part : Piece Fixup → Part fixups.Fixup
seen_part p = part_seen (part_of p)

abbrev pub seen_parts : List (Piece Fixup) → List (Part fixups.Fixup)
seen_parts pieces = map part_seen (map part_of pieces)

abbrev pub seen_section : Building Fixup → Section fixups.Fixup
seen_section b = section_seen (section_of b)

abbrev pub seen_sections : List (Building Fixup) → List (Section fixups.Fixup)
seen_sections sections = map section_seen (map section_of sections)

-- sections without a fault, or the first; memory may be refused at any time
abbrev pub Lays : Result Laid FillError → specs.Laid → Option Fault → Type 0
Lays (Ok l) all fault = (l.sections.items ≡ all.sections) × (l.relocs.items ≡ all.relocs) × (fault ≡ None)
Lays (Err (errors.Fault f)) all fault = fault ≡ Some f
Lays (Err errors.NoMemory) all fault = Unit {0}

-- the module, or the fault; memory may be refused at any time
abbrev pub Fills : Result Module FillError → Result Module Fault → Type 0
Fills (Ok m) r = r ≡ Ok m
Fills (Err (errors.Fault f)) r = r ≡ Err f
Fills (Err errors.NoMemory) r = Unit {0}
