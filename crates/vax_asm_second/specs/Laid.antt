-- The sections of a module with all fields filled in (VAX MACRO and Instruction Set Reference Manual, "VAX MACRO assembler
-- directives" and "Addressing modes").
use Rattle.std.specs.Prelude.{ℕ, suc, ◌+◌, ◌^◌, Bool, true, nat_lt, if◌then◌else◌, List, [], ◌∷◌, ◌++◌, length, replicate, Option, Some, None, Result, Ok, Err}
use Rattle.vax_asm_encode.specs.Fields.{filled}
use Rattle.vax_asm_encode.specs.declared.filling.Filled.{Filled}
use Rattle.vax_asm_encode.specs.declared.filling.FieldFault.{FieldFault}
use Rattle.vax_asm_encode.specs.declared.operand.Field.{Field}
use Rattle.vax_asm_sections.specs.Layout.{Part, Zeros, Bytes, Field as Filled_later, Section as Building, place_in}
use Rattle.vax_lex.specs.declared.value.Value.{Value}
use Rattle.vax_lex.specs.declared.value.Value.TheVariants as value
use Rattle.vax_macro.specs.declared.error.FaultKind.{FaultKind}
use Rattle.vax_module.specs.declared.Reloc.{Reloc}
use Rattle.vax_module.specs.declared.RelocKind.{RelocKind}
use Rattle.vax_module.specs.declared.Section.{Section}
use Rattle.vax_asm_first.specs.Faults.{fault_of_filled}
use Rattle.vax_asm_first.specs.Fixups.{Fixup}
use Rattle.vax_asm_first.specs.declared.types.Content.{Content}
use Rattle.vax_asm_values.specs.Values.{Source}
use Rattle.vax_asm_second.specs.Contents.{field_in, before_field, bytes_in, relocs_in}
use Rattle.vax_asm_second.specs.Faults.{fault_at, value_filled}
use Rattle.vax_asm_second.specs.declared.types.Fault.{Fault}
use Rattle.vax_asm_second.specs.declared.types.Held.{Held}
use Rattle.vax_asm_second.specs.declared.types.Link.{Link}

-- the definitions, and how many sections and externals the module has
pub record Known : Type 0 where
  pub sources : List Source
  pub sections : ℕ
  pub externals : ℕ

-- the section of a value is one of the module's, and so is its external
abbrev pub is_known : Known → Value → Bool
is_known k (value.Absolute n) = true
is_known k (value.Section s offset) = nat_lt s k.sections
is_known k (value.External i offset) = nat_lt i k.externals

-- what holds no value
abbrev pub nothing : Held
nothing = record { number = 0; link = None }

abbrev pub link_to : Value → Option RelocKind → Option Link
link_to v (Some kind) = Some (record { kind = kind; target = v })
link_to v None = None

abbrev pub holding : Value → Result Filled FieldFault → Result Held (Option FaultKind)
holding v (Ok f) = Ok (record { number = f.number; link = link_to v f.reloc })
holding v (Err e) = Err (fault_of_filled (Err e))

-- what a field at a place of a section holds of a value, or the fault
abbrev pub held : Option Field → (section at : ℕ) → Result Value (Option FaultKind) → Result Held (Option FaultKind)
held None section at v = Ok nothing
held (Some f) section at (Ok v) = holding v (filled f section at v)
held (Some f) section at (Err kind) = Err kind

-- what a part of a section comes to: bytes, the relocations of fields in them, and a fault if it has one
pub record Output : Type 0 where
  pub bytes : List ℕ
  pub relocs : List Reloc
  pub faults : List Fault

abbrev pub empty : Output
empty = record { bytes = []; relocs = []; faults = [] }

abbrev pub joined : Output → Output → Output
joined a b = record { bytes = a.bytes ++ b.bytes; relocs = a.relocs ++ b.relocs; faults = a.faults ++ b.faults }

abbrev pub linked : Known → Content → (section at : ℕ) → Option Link → List Reloc
linked k content section at None = []
linked k content section at (Some l) =
    if is_known k l.target
    then relocs_in content (record { section = section; offset = at + before_field content; kind = l.kind; target = l.target })
    else []

-- A field that holds nothing for a fault is there with zeros.
abbrev pub written : Known → (section at : ℕ) → Fixup → Result Held (Option FaultKind) → Output
written k section at f (Ok h) = record { bytes = bytes_in f.content h.number; relocs = linked k f.content section at h.link; faults = [] }
written k section at f (Err kind) = record { bytes = bytes_in f.content 0; relocs = []; faults = fault_at f.origin kind }

abbrev pub fixed : Known → (section at : ℕ) → Fixup → Output
fixed k section at f = written k section at f (held (field_in f.content) section (at + before_field f.content) (value_filled k.sources f.filling))

-- a part that begins at a place
abbrev pub output : Known → (section at : ℕ) → Part Fixup → Output
output k section at (Zeros n) = record { bytes = replicate n 0; relocs = []; faults = [] }
output k section at (Bytes bytes) = record { bytes = bytes; relocs = []; faults = [] }
output k section at (Filled_later f) = fixed k section at f

-- parts, each behind the bytes of those before it
unfoldable pub outputs : Known → (section at : ℕ) → List (Part Fixup) → Output
outputs k section at [] = empty
outputs k section at (p ∷ parts) = joined (output k section at p) (outputs k section (at + length (output k section at p).bytes) parts)

-- sections, the relocations in them, and their faults
pub record Laid : Type 0 where
  pub sections : List Section
  pub relocs : List Reloc
  pub faults : List Fault

-- how many bytes a section lays over others of its name
abbrev pub storage_of : Building Fixup → ℕ
storage_of s = if s.overlaid then place_in s else 0

abbrev pub section_of : Building Fixup → List ℕ → Section
section_of s bytes = record { name = s.name; align = 2 ^ s.align; write = s.write; bytes = bytes; storage = storage_of s }

abbrev pub laid_behind : Building Fixup → Output → Laid → Laid
laid_behind s o l = record { sections = section_of s o.bytes ∷ l.sections; relocs = o.relocs ++ l.relocs; faults = o.faults ++ l.faults }

-- sections, the first of which has this number
unfoldable pub laid : Known → ℕ → List (Building Fixup) → Laid
laid k number [] = record { sections = []; relocs = []; faults = [] }
laid k number (s ∷ sections) = laid_behind s (outputs k number 0 s.parts) (laid k (suc number) sections)
