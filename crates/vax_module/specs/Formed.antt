-- A module whose numbers, alignments and relocated fields make sense.
use Rattle.std.specs.Prelude.{◌≡◌, ℕ, ◌+◌, ◌^◌, ◌<◌, ◌≤◌, ◌⊎◌, ◌≢◌, List, length, All, AllPairs, IfSome, slice_get}
use Rattle.vax_lex.specs.declared.value.Value.{Value}
use Rattle.vax_lex.specs.declared.value.Value.TheVariants.{Absolute, Section as InSection, External}
use Rattle.vax_module.specs.declared.RelocKind.{RelocKind}
use Rattle.vax_module.specs.declared.RelocKind.TheVariants.{Byte, Word, Long, RelByte, RelWord, RelLong}
use Rattle.vax_module.specs.declared.Reloc.{Reloc}
use Rattle.vax_module.specs.declared.Section.{Section}
use Rattle.vax_module.specs.declared.Module.{Module}

-- the bytes of a field
abbrev pub width_of : RelocKind → ℕ
width_of Byte = 1
width_of Word = 2
width_of Long = 4
width_of RelByte = 1
width_of RelWord = 2
width_of RelLong = 4

-- a value's section is one of so many, and so is its external
abbrev pub IsKnown : (sections externals : ℕ) → Value → Type 0
IsKnown sections externals (Absolute n) = Unit {0}
IsKnown sections externals (InSection section offset) = section < sections
IsKnown sections externals (External index offset) = index < externals

-- a power of two from 1 to 512
abbrev pub IsAlignment : ℕ → Type 0
IsAlignment align = (k : ℕ) × (k ≤ 9) × (align ≡ 2 ^ k)

-- the end of a field in its section
abbrev pub end_of : Reloc → ℕ
end_of r = r.offset + width_of r.kind

-- the field lies within the bytes of a section
abbrev pub IsFieldOf : List Section → Reloc → Type 0
IsFieldOf sections r = (r.section < length sections) × IfSome (slice_get sections r.section) (λ s. end_of r ≤ length s.bytes)

-- the two fields have no byte in common
abbrev pub AreApart : Reloc → Reloc → Type 0
AreApart r s = (r.section ≢ s.section) ⊎ ((end_of r ≤ s.offset) ⊎ (end_of s ≤ r.offset))

-- the first field stands before the second, by section and by offset
abbrev pub Precedes : Reloc → Reloc → Type 0
Precedes r s = (r.section < s.section) ⊎ ((r.section ≡ s.section) × (end_of r ≤ s.offset))

-- Every section's number and every external's index is in range, each alignment is a power of two from 1 to 512, and
-- each relocated field lies in its section's bytes and overlaps no other.
pub record Formed (m : Module) : Type 0 where
  pub aligned : All (λ s. IsAlignment s.align) m.sections
  pub globals : All (λ g. IsKnown (length m.sections) (length m.externals) g.value) m.globals
  pub transfer : IfSome m.transfer (λ t. IsKnown (length m.sections) (length m.externals) t.value)
  pub fields : All (IsFieldOf m.sections) m.relocs
  pub targets : All (λ r. IsKnown (length m.sections) (length m.externals) r.target) m.relocs
  pub apart : AllPairs AreApart m.relocs
