-- The symbols and the source lines of a program's files: what the names of its sources stand for in the program that they are linked to, and where their
-- statements lie there.
use Rattle.std.specs.Prelude.{◌≡◌, ◌⊎◌, ℕ, ◌+◌, ◌-◌, ◌%◌, ◌^◌, ◌==◌, nat_le, nat_lt, Bool, true, false, not, ◌&&◌, if◌then◌else◌, List, [], ◌∷◌, ◌++◌, length, take, drop, slice_get, slice_index, Option, None, Some}
use Rattle.std.specs.Int.{w64, cast_unsigned}
use Rattle.std.specs.List.{flat_map}
use Rattle.vax_dialect.specs.declared.Dialect.{Dialect}
use Rattle.vax_lex.specs.declared.value.Value.{Value}
use Rattle.vax_lex.specs.declared.value.Value.TheVariants as value
use Rattle.vax_module.specs.declared.Module.{Module}
use Rattle.vax_module.specs.declared.Section.{Section}
use Rattle.vax_image.specs.declared.Base.{Base}
use Rattle.vax_link.specs.Layout.{addresses, is_too_large, pieces_of}
use Rattle.vax_link.specs.Names.{low_longword, plus}
use Rattle.vax_macro.specs.declared.error.FaultKind.{FaultKind}
use Rattle.vax_program.specs.Program.{is_linked}
use Rattle.vax_asm_listing.specs.Listed.{AreTraced, IsFaulty}
use Rattle.vax_asm_listing.specs.declared.types.Label.{Label}
use Rattle.vax_asm_listing.specs.declared.types.Notes.{Notes}
use Rattle.vax_asm_listing.specs.declared.types.Row.{Row}
use Rattle.vax_debug_names.specs.declared.SourceLine.{SourceLine}
use Rattle.vax_debug_names.specs.declared.Symbol.{Symbol}
use Rattle.vax_debug_symbols.specs.Fixtures.{fixtures, symbols_of as fixture_symbols}
use Rattle.vax_debug_symbols.specs.declared.Meaning.{Meaning}
use Rattle.vax_debug_symbols.specs.declared.Table.{Table}

-- how many bytes a module gives to a section: its own, or those that it lays over others
abbrev pub size_of : Section → ℕ
size_of section = if section.storage == 0 then length section.bytes else section.storage

abbrev pub size_in : Option Section → ℕ
size_in None = 0
size_in (Some section) = size_of section

-- how many bytes stand from an offset on, where it is one of a byte; no more than 32 bits count
abbrev pub bytes_from : (size offset : ℕ) → ℕ
bytes_from size offset = if nat_le size offset then 0 else (size - offset) % 2 ^ 32

-- a value of a module whose sections have these places: a number, an address, or what another module says
abbrev pub meaning_of : (places : List ℕ) → List Section → Option Value → Option Meaning
meaning_of places sections None = None
meaning_of places sections (Some (value.External index offset)) = None
meaning_of places sections (Some (value.Absolute n)) =
    Some (record { value = low_longword n; is_place = false; reach = 0 })
meaning_of places sections (Some (value.Section section offset)) =
    Some (record {
      value = plus (slice_index places section) (low_longword offset);
      is_place = true;
      reach = bytes_from (size_in (slice_get sections section)) (cast_unsigned w64 offset);
    })

abbrev pub symbol_of : (name : List ℕ) → Meaning → Symbol
symbol_of name meaning =
    record { name = name; value = meaning.value; is_place = meaning.is_place; reach = meaning.reach }

-- a name is a symbol where it stands for something
abbrev pub symbols_by : (name : List ℕ) → Option Meaning → List Symbol
symbols_by name None = []
symbols_by name (Some meaning) = symbol_of name meaning ∷ []

unfoldable pub symbols_of : (places : List ℕ) → List Section → Label → List Symbol
symbols_of places sections label = symbols_by label.name (meaning_of places sections label.value)

-- the names of a module with these sections
abbrev pub symbols_in : (places : List ℕ) → List Section → List Label → List Symbol
symbols_in places sections labels = flat_map (symbols_of places sections) labels

-- those of modules with what these left; the first places are those of the first one's sections
unfoldable pub symbols_from : (places : List ℕ) → List Module → List Notes → List Symbol
symbols_from places (m ∷ modules) (n ∷ notes) =
    symbols_in (take (length m.sections) places) m.sections n.labels.items ++ symbols_from (drop (length m.sections) places) modules notes
symbols_from places _ _ = []

-- a statement of a file, with the address of its first byte
abbrev pub line_of : (places : List ℕ) → (file : ℕ) → Row → SourceLine
line_of places file row = record {
  address = plus (slice_index places row.section) row.begin;
  file = file;
  number = row.origin.line;
  text = row.text;
}

-- one without bytes is no line; so is none in a section that only counts
unfoldable pub lines_of : (places : List ℕ) → (file : ℕ) → Row → List SourceLine
lines_of places file row = if not row.counts && nat_lt row.begin row.end then line_of places file row ∷ [] else []

-- the statements of a module, as its listing has them
abbrev pub lines_in : (places : List ℕ) → (file : ℕ) → List Row → List SourceLine
lines_in places file rows = flat_map (lines_of places file) rows

-- those of modules with what these left, of which the first is this file; the first places are those of the first one's sections
unfoldable pub lines_from : (places : List ℕ) → (file : ℕ) → List Module → List Notes → List SourceLine
lines_from places file (m ∷ modules) (n ∷ notes) =
    lines_in (take (length m.sections) places) file n.rows.items ++ lines_from (drop (length m.sections) places) (file + 1) modules notes
lines_from places file _ _ = []

-- the symbols of what lies beside each program
abbrev pub beside : Base → List Symbol
beside region = fixture_symbols (fixtures region)

-- a table without symbols of sources, and without lines
pub record HasNone (region : Base) (table : Table) : Type 0 where
  pub symbols : table.symbols.items ≡ beside region
  pub lines : table.lines.items ≡ []

-- the linker has no room for modules
pub record HaveNoRoom (region : Base) (modules : List Module) (table : Table) : Type 0 where
  pub room : is_too_large region (pieces_of modules) ≡ true
  pub none : HasNone region table

-- the symbols and the lines of modules whose sections lie at these places, and after them the symbols of what lies beside each program
pub record ArePlaced (region : Base) (places : List ℕ) (modules : List Module) (notes : List Notes) (table : Table) : Type 0 where
  pub symbols : table.symbols.items ≡ symbols_from places modules notes ++ beside region
  pub lines : table.lines.items ≡ lines_from places 0 modules notes

-- those of modules where the linker lays their sections, if it has room for these
abbrev pub IsLinked : Base → List Module → List Notes → Table → Type 0
IsLinked region modules notes table =
    HaveNoRoom region modules table ⊎ ArePlaced region (addresses region (pieces_of modules)) modules notes table

-- an image or an executable, which stands alone
abbrev pub is_linked_alone : List (List ℕ) → Bool
is_linked_alone (text ∷ []) = is_linked text
is_linked_alone _ = false

-- the first source with a fault in a dialect, and that fault
pub record HasFault (dialect : Dialect) (sources : List (List ℕ)) : Type 0 where
  pub file : ℕ
  pub line : ℕ
  pub kind : FaultKind
  pub faulty : IsFaulty dialect sources file line kind

-- files that have no symbols and no lines: a linked program, or sources with a fault
pub record HaveNone (dialect : Dialect) (region : Base) (files : List (List ℕ)) (table : Table) : Type 0 where
  pub why : (is_linked_alone files ≡ true) ⊎ HasFault dialect files
  pub none : HasNone region table

-- sources of a dialect, of which each is a module and leaves its names and its statements
pub record AreNamed (dialect : Dialect) (region : Base) (sources : List (List ℕ)) (table : Table) : Type 0 where
  pub modules : List Module
  pub notes : List Notes
  pub traced : AreTraced dialect sources modules notes
  pub linked : IsLinked region modules notes table

-- the symbols and the lines of files, whose sources are of a dialect
abbrev pub IsTable : Dialect → Base → (files : List (List ℕ)) → Table → Type 0
IsTable dialect region files table =
    HaveNone dialect region files table ⊎ AreNamed dialect region files table
