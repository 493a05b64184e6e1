-- What the parts of sections come to in the module: their bytes, and the fields in them that the linker fills in (VAX MACRO and Instruction
-- Set Reference Manual, "Location counter"; VAX Architecture Reference Manual, operand specifier addressing mode formats).
use Rattle.std.specs.Prelude.{◌≡◌, ◌⊎◌, ◌≤◌, ℕ, ◌+◌, All, Contains, List, ◌∷◌, ◌++◌, length}
use Rattle.vax_asm_first.specs.Contents.{IsSound}
use Rattle.vax_asm_first.specs.Fixups.{Fixup}
use Rattle.vax_asm_sections.specs.Layout.{Bytes, Field, Part, Section as Building, Sections, Zeros}
use Rattle.vax_asm_second.specs.Laid.{Known, output}
use Rattle.vax_module.specs.Formed.{end_of as end_of_field}
use Rattle.vax_module.specs.declared.Reloc.{Reloc}
use Rattle.vax_module.specs.declared.Section.{Section}
use Rattle.vax_asm_laws.specs.Counted.{end_of, part_length, section_at}

-- What is filled in later is data, or an operand that may stand where it is.
abbrev pub MayStand : Part Fixup → Type 0
MayStand (Zeros n) = Unit {0}
MayStand (Bytes bytes) = Unit {0}
MayStand (Field f) = IsSound f.content

abbrev pub AllStand : Building Fixup → Type 0
AllStand s = All MayStand s.parts

abbrev pub MayAllStand : Sections Fixup → Type 0
MayAllStand s = All AllStand s.all

-- the field has none of so many bytes from a place on
abbrev pub IsBeside : (at count : ℕ) → Reloc → Type 0
IsBeside at count r = (end_of_field r ≤ at) ⊎ (at + count ≤ r.offset)

-- a field of the section is one of these, or has none of so many bytes from a place on
abbrev pub IsOneOr : (i at count : ℕ) → (these : List Reloc) → Reloc → Type 0
IsOneOr i at count these r = r.section ≡ i → Contains these r ⊎ IsBeside at count r

-- At a place of a section stands what a part comes to. The linker fills in the fields that it leaves there, and no other field has one of its
-- bytes.
pub record StandsAt (k : Known) (i at : ℕ) (p : Part Fixup) (section : Section) (relocs : List Reloc) : Type 0 where
  pub front : List ℕ
  pub back : List ℕ
  pub bytes : section.bytes ≡ front ++ ((output k i at p).bytes ++ back)
  pub place : length front ≡ at
  pub fields : All (Contains relocs) (output k i at p).relocs
  pub beside : All (IsOneOr i at (part_length p) (output k i at p).relocs) relocs

-- A part of a section, and those before and behind it.
pub record Held : Type 0 where
  pub before : List (Part Fixup)
  pub part : Part Fixup
  pub after : List (Part Fixup)

-- the section has these parts
abbrev pub IsIn : (i : ℕ) → Sections Fixup → Held → Type 0
IsIn i s h = (section_at i s).parts ≡ h.before ++ h.part ∷ h.after

-- where the part begins
abbrev pub place_of : Held → ℕ
place_of h = end_of 0 h.before
