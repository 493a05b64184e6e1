-- How many units a string instruction has, or has left (VAX MACRO and Instruction Set Reference Manual, character string instructions). A unit is
-- one byte moved, filled or translated, or that escapes; one pair compared; one byte tested; and of MATCHC one byte of the object compared.
use Rattle.std.specs.Prelude.{◌≡◌, ◌≤◌, ℕ, suc, zero, ◌+◌, ◌-◌, Bool, true, false, ◌==◌, ◌||◌, max, if◌then◌else◌, List, [], ◌∷◌}
use Rattle.vax_space.specs.declared.Area.{Area}
use Rattle.vax_strpart.specs.declared.packing.Progress.{Progress}
use Rattle.vax_strpart.specs.Packing.{unpacked}
use Rattle.vax_strpart.specs.Kernels.{is_escape}
use Rattle.vax_flat.specs.declared.Rest.{Rest}
use Rattle.vax_flat.specs.Memory.{after, byte_at, bytes_from}
use Rattle.vax_flat.specs.State.{State}
use Rattle.vax_flat.specs.declared.Flow.TheVariants as flow
use Rattle.vax_flat.specs.Accesses.{Leaf, Went, Found}
use Rattle.vax_flat.specs.Outcome.{Outcome, Ends, Raised}
use Rattle.vax_flat.specs.Operand.{plus}
use Rattle.vax_flat.specs.String.{low_registers}
use Rattle.vax_flat.specs.StringSearch.{is_sought, is_masked}
use Rattle.vax_flat.specs.StringCompare.{behind, first_of, second_of, pairs_of}
use Rattle.vax_flat.specs.StringMove.{moved_count}
use Rattle.vax_flat.specs.StringMatch.{at_next_place, places_of}

-- bytes are tested one after another, up to the first that is found
unfoldable pub to_first : (ℕ → Bool) → List ℕ → ℕ
to_first found [] = 0
to_first found (byte ∷ bytes) = if found byte then 1 else suc (to_first found bytes)

-- LOCC, SKPC
unfoldable pub search_units : Bool → Progress → List Area → ℕ
search_units equal p memory = to_first (is_sought equal p.byte) (bytes_from (byte_at memory) p.addr1 p.len1)

-- the table's byte for a byte is what is looked for
abbrev pub is_marked : Bool → Progress → List Area → ℕ → Bool
is_marked some p memory byte = is_masked some p.byte (byte_at memory (plus p.table byte))

-- SCANC, SPANC
unfoldable pub scan_units : Bool → Progress → List Area → ℕ
scan_units some p memory = to_first (is_marked some p memory) (bytes_from (byte_at memory) p.addr1 p.len1)

-- the first byte of what is left of a string, or the fill
abbrev pub byte_of : (ℕ → ℕ) → ℕ → Rest → ℕ
byte_of byte fill r = if r.len == 0 then fill else byte r.addr

-- so many pairs are compared one after another, up to the first that differ
unfoldable pub pair_units : (ℕ → ℕ) → ℕ → ℕ → Rest → Rest → ℕ
pair_units byte fill zero a b = 0
pair_units byte fill (suc pairs) a b =
    if byte_of byte fill a == byte_of byte fill b then suc (pair_units byte fill pairs (behind 1 a) (behind 1 b)) else 1

-- CMPC3, CMPC5
unfoldable pub compare_units : Progress → List Area → ℕ
compare_units p memory =
    pair_units (byte_at memory) p.byte (pairs_of p - p.done) (behind p.done (first_of p)) (behind p.done (second_of p))

-- MOVC3, MOVC5, MOVTC: the bytes that are still to be moved, and those that are still to be filled
unfoldable pub move_units : Progress → List Area → ℕ
move_units p memory = (moved_count p - p.done) + (p.len2 - max p.done (moved_count p))

-- MOVTUC: the bytes that are still to be moved are translated one after another, up to the first that escapes
unfoldable pub escape_units : Progress → List Area → ℕ
escape_units p memory =
    to_first (is_escape (bytes_from (byte_at memory) p.table 256) p.byte)
    (bytes_from (byte_at memory) (plus p.addr1 p.done) (moved_count p - p.done))

-- so many bytes of the object are compared with those of the string at one place, up to the first that differ
unfoldable pub place_units : (ℕ → ℕ) → ℕ → ℕ → ℕ → ℕ
place_units byte zero object place = 0
place_units byte (suc count) object place =
    if byte object == byte place then suc (place_units byte count (after object) (after place)) else 1

-- they all agree
unfoldable pub stands_at : (ℕ → ℕ) → ℕ → ℕ → ℕ → Bool
stands_at byte zero object place = true
stands_at byte (suc count) object place =
    if byte object == byte place then stands_at byte count (after object) (after place) else false

-- the object is looked for at so many places, one after another; at the first so many of its bytes are known to agree
unfoldable pub places_units : (ℕ → ℕ) → ℕ → Progress → ℕ
places_units byte zero p = 0
places_units byte (suc places) p =
    place_units byte (p.len1 - p.done) (plus p.addr1 p.done) (plus p.addr2 p.done)
    + (if stands_at byte (p.len1 - p.done) (plus p.addr1 p.done) (plus p.addr2 p.done) then 0 else places_units byte places (at_next_place p))

-- MATCHC
unfoldable pub match_units : Progress → List Area → ℕ
match_units p memory = places_units (byte_at memory) (places_of p) p

-- how many units are left of the string instruction with this opcode, by its progress
unfoldable pub units_left : ℕ → Progress → List Area → ℕ
units_left opcode p memory =
    if opcode == 0x28 || opcode == 0x2C then move_units p memory
    else if opcode == 0x2E then move_units p memory
    else if opcode == 0x2F then escape_units p memory
    else if opcode == 0x3A then search_units true p memory
    else if opcode == 0x3B then search_units false p memory
    else if opcode == 0x2A then scan_units true p memory
    else if opcode == 0x2B then scan_units false p memory
    else if opcode == 0x39 then match_units p memory
    else compare_units p memory

-- the same by the registers between two parts
abbrev pub units_in : ℕ → State → List Area → ℕ
units_in opcode s memory = units_left opcode (unpacked opcode (low_registers s)) memory

-- A part made one unit or more of all that there were, and the others, one or more, are left by the registers and the memory as they are now.
pub record IsMade (units : Progress → List Area → ℕ) (opcode all : ℕ) (left_by made : ℕ) (s : State) (memory : List Area) : Type 0 where
  pub same : left_by ≡ opcode
  pub some : 1 ≤ made
  pub rest : 1 ≤ units (unpacked opcode (low_registers s)) memory
  pub sum : all ≡ made + units (unpacked opcode (low_registers s)) memory

-- what a part came to counts right: where it left something, it made as many units as there are fewer now
abbrev pub Counts : (Progress → List Area → ℕ) → ℕ → ℕ → Outcome Leaf → Type 0
Counts units opcode all (Ends (Went flow.Done s) memory) = Unit {0}
Counts units opcode all (Ends (Went flow.Clocked s) memory) = Unit {0}
Counts units opcode all (Ends (Went (flow.Trap kind) s) memory) = Unit {0}
Counts units opcode all (Ends (Went (flow.More left_by made) s) memory) = IsMade units opcode all left_by made s memory
Counts units opcode all (Ends (Went (flow.Ended e) s) memory) = Unit {0}
Counts units opcode all (Ends (Found operand s) memory) = Unit {0}
Counts units opcode all (Raised e) = Unit {0}
