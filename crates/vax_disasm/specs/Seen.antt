-- What the code's types mean.
use Rattle.std.specs.Prelude.{◌≡◌, ◌⊎◌, ◌+◌, ◌<◌, ◌≤◌, ℕ, nat_le, if◌then◌else◌, List, length, take, Option, Some, None}
use Rattle.vax_isa.specs.declared.Letter.{Letter}
use Rattle.vax_isa.specs.declared.actions.Narrow.{Narrow}
use Rattle.vax_isa.specs.declared.actions.Narrow.TheVariants as narrow
use Rattle.vax_flat.specs.Grammar as grammar
use Rattle.vax_flat.specs.Grammar.{Reading, Reads, Reserved, value_of_bytes, is_read}
use Rattle.vax_flat.specs.declared.Form.{Form}
use Rattle.vax_flat.specs.declared.Form.TheVariants as form
use Rattle.vax_disasm.specs.declared.specifier.Place.{Place}
use Rattle.vax_disasm.specs.declared.specifier.Place.TheVariants as place
use Rattle.vax_disasm.specs.declared.specifier.Specifier.{Specifier}
use Rattle.vax_disasm.specs.declared.specifier.Specifier.TheVariants as specifier
use Rattle.vax_disasm.specs.declared.reading.Read.{Read}
use Rattle.vax_disasm.specs.declared.Decoded.{Decoded}
use Rattle.vax_disasm.specs.Listed.{Listing}

abbrev pub width_of : Narrow → ℕ
width_of narrow.B = 1
width_of narrow.W = 2
width_of narrow.L = 4

unfoldable pub place_seen : Place → grammar.Place
place_seen (place.Deferred n) = grammar.Deferred n
place_seen (place.Decrement n) = grammar.Decrement n
place_seen (place.Increment n) = grammar.Increment n
place_seen (place.IncrementDeferred n) = grammar.IncrementDeferred n
place_seen (place.Absolute addr) = grammar.Absolute addr
place_seen (place.Displaced size displacement n) = grammar.Displaced (width_of size) displacement n
place_seen (place.DisplacedDeferred size displacement n) = grammar.DisplacedDeferred (width_of size) displacement n

unfoldable pub specifier_seen : Specifier → grammar.Specifier
specifier_seen (specifier.Literal value) = grammar.Literal value
specifier_seen (specifier.Register n) = grammar.Register n
specifier_seen (specifier.Immediate value) = grammar.Immediate value
specifier_seen (specifier.InMemory p) = grammar.InMemory (place_seen p)
specifier_seen (specifier.Indexed p x) = grammar.Indexed (place_seen p) x
specifier_seen (specifier.BranchBy displacement) = grammar.BranchBy displacement

-- an operand that was read, and how many bytes it has
pub record Found : Type 0 where
  pub specifier : grammar.Specifier
  pub count : ℕ

abbrev pub read_seen : Read → Found
read_seen r = record { specifier = specifier_seen r.specifier; count = r.count }

-- what a reading finds: nothing where it is none, or a reserved addressing mode
abbrev pub found : Option Reading → Option Found
found None = None
found (Some (Reserved count)) = None
found (Some (Reads s count)) = Some (record { specifier = s; count = count })

-- the number that so many bytes are, if there are so many
abbrev pub number_at : ℕ → List ℕ → Option ℕ
number_at width bytes = if nat_le width (length bytes) then Some (value_of_bytes (take width bytes)) else None

-- a place in memory, with the register of its index
abbrev pub placed_by : Option ℕ → grammar.Place → grammar.Specifier
placed_by None p = grammar.InMemory p
placed_by (Some x) p = grammar.Indexed p x

abbrev pub decoded_seen : Decoded → Listing
decoded_seen d = record { length = d.length; text = d.text.bytes }

-- an index is a byte before the specifier byte
abbrev pub bytes_before : Option ℕ → ℕ
bytes_before None = 1
bytes_before (Some x) = 2

-- registers are numbered from 0 to 15
abbrev pub HasPlaceRegisters : Place → Type 0
HasPlaceRegisters (place.Deferred n) = n < 16
HasPlaceRegisters (place.Decrement n) = n < 16
HasPlaceRegisters (place.Increment n) = n < 16
HasPlaceRegisters (place.IncrementDeferred n) = n < 16
HasPlaceRegisters (place.Absolute addr) = Unit {0}
HasPlaceRegisters (place.Displaced size displacement n) = n < 16
HasPlaceRegisters (place.DisplacedDeferred size displacement n) = n < 16

abbrev pub HasRegisters : Specifier → Type 0
HasRegisters (specifier.Literal value) = Unit {0}
HasRegisters (specifier.Register n) = n < 16
HasRegisters (specifier.Immediate value) = Unit {0}
HasRegisters (specifier.InMemory p) = HasPlaceRegisters p
HasRegisters (specifier.Indexed p x) = HasPlaceRegisters p × (x < 16)
HasRegisters (specifier.BranchBy displacement) = Unit {0}

pub record IsSound (r : Read) : Type 0 where
  pub registers : HasRegisters r.specifier
  pub few : r.count ≤ 9

-- a place, where so many bytes follow its specifier byte
abbrev pub at_place : Option ℕ → grammar.Place → ℕ → Found
at_place index p more = record { specifier = placed_by index p; count = bytes_before index + more }

-- a literal by its letter
abbrev pub literal_reading : Letter → ℕ → Option Reading
literal_reading letter value = if is_read letter then Some (Reads (grammar.Literal value) 1) else Some (Reserved 1)
