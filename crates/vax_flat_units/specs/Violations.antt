-- At which of its units a string instruction violates, and how many it reaches: up to the first that does (VAX Architecture Reference Manual,
-- memory management: access control). A move checks its strings and its table before its first unit, so of its units none does.
use Rattle.std.specs.Prelude.{ℕ, suc, zero, ◌+◌, Bool, true, false, not, ◌==◌, ◌&&◌, ◌||◌, nat_lt, if◌then◌else◌, Option, List}
use Rattle.vax_space.specs.declared.Access.TheVariants.{Read, Write}
use Rattle.vax_space.specs.declared.Area.{Area}
use Rattle.vax_space.specs.declared.Violation.{Violation}
use Rattle.vax_space.specs.Reference.{may_access, page_of, violation}
use Rattle.vax_strpart.specs.declared.packing.Progress.{Progress}
use Rattle.vax_flat.specs.declared.Rest.{Rest}
use Rattle.vax_flat.specs.Memory.{byte_at}
use Rattle.vax_flat.specs.Operand.{plus}
use Rattle.vax_flat.specs.Outcome.{is_allowed}
use Rattle.vax_flat.specs.StringCompare.{first_of, second_of}
use Rattle.vax_flat.specs.StringMove.{by_table, is_reserved, moved_count}
use Rattle.vax_flat.specs.StringEscape.{is_escape_reserved}
use Rattle.vax_flat.specs.StringMatch.{at_next_place}
use Rattle.vax_flat_units.specs.Units.{units_left}

-- an access mode may not read the byte at an address
abbrev pub is_barred : List Area → ℕ → ℕ → Bool
is_barred memory mode addr = not (may_access memory (page_of addr) mode Read)

-- Which units violate, counted from the next one on.
-- LOCC, SKPC: the byte that is tested may not be read
abbrev pub search_violates : Progress → ℕ → List Area → ℕ → Bool
search_violates p mode memory i = is_barred memory mode (plus p.addr1 i)

-- SCANC, SPANC: or its table byte
abbrev pub scan_violates : Progress → ℕ → List Area → ℕ → Bool
scan_violates p mode memory i =
    is_barred memory mode (plus p.addr1 i) || is_barred memory mode (plus p.table (byte_at memory (plus p.addr1 i)))

-- a string has a byte there, which may not be read
abbrev pub string_violates : Rest → ℕ → List Area → ℕ → Bool
string_violates r mode memory i = nat_lt i r.len && is_barred memory mode (plus r.addr i)

-- CMPC3, CMPC5: one of both bytes may not be read
abbrev pub compare_violates : Progress → ℕ → List Area → ℕ → Bool
compare_violates p mode memory i =
    string_violates (first_of p) mode memory (p.done + i) || string_violates (second_of p) mode memory (p.done + i)

-- MATCHC: what remains behind one unit, and behind so many
abbrev pub match_next : (ℕ → ℕ) → Progress → Progress
match_next byte p =
    if byte (plus p.addr1 p.done) == byte (plus p.addr2 p.done) then record p { done = p.done + 1 } else at_next_place p

unfoldable pub match_later : (ℕ → ℕ) → ℕ → Progress → Progress
match_later byte zero p = p
match_later byte (suc i) p = match_later byte i (match_next byte p)

-- the byte of the object or that of the string may not be read
abbrev pub next_violates : ℕ → List Area → Progress → Bool
next_violates mode memory p =
    is_barred memory mode (plus p.addr1 p.done) || is_barred memory mode (plus p.addr2 p.done)

abbrev pub match_violates : Progress → ℕ → List Area → ℕ → Bool
match_violates p mode memory i = next_violates mode memory (match_later (byte_at memory) i p)

-- the unit so many behind the next one violates
unfoldable pub unit_violates : ℕ → Progress → ℕ → List Area → ℕ → Bool
unit_violates opcode p mode memory i =
    if opcode == 0x28 || opcode == 0x2C then false
    else if opcode == 0x2E || opcode == 0x2F then false
    else if opcode == 0x3A || opcode == 0x3B then search_violates p mode memory i
    else if opcode == 0x2A || opcode == 0x2B then scan_violates p mode memory i
    else if opcode == 0x39 then match_violates p mode memory i
    else compare_violates p mode memory i

-- so many units, but none behind the first that violates
unfoldable pub to_violation : (ℕ → Bool) → ℕ → ℕ
to_violation violates zero = 0
to_violation violates (suc count) =
    if violates 0 then 1 else suc (to_violation (λ i. violates (suc i)) count)

-- how many units are left of the string instruction with this opcode, by its progress, the access mode and the memory
abbrev pub units_reached : ℕ → Progress → ℕ → List Area → ℕ
units_reached opcode p mode memory =
    to_violation (unit_violates opcode p mode memory) (units_left opcode p memory)

-- a range may not be accessed
abbrev pub is_violated : Option Violation → Bool
is_violated v = not (is_allowed v)

-- a check of a move, of which so many bytes are written, raises a violation before its first unit
abbrev pub is_checked_out : Bool → Progress → ℕ → ℕ → List Area → Bool
is_checked_out translate p written mode memory =
    is_violated (violation memory p.addr1 (moved_count p) mode Read)
    || ((by_table translate p && is_violated (violation memory p.table 256 mode Read))
    || is_violated (violation memory p.addr2 written mode Write))

-- MOVTC and MOVTUC raise a reserved operand
abbrev pub is_reserved_by : ℕ → Progress → Bool
is_reserved_by opcode p =
    if opcode == 0x2E then is_reserved true p
    else if opcode == 0x2F then is_escape_reserved p
    else false

-- a move's checks raise a violation
abbrev pub is_violated_by : ℕ → Progress → ℕ → List Area → Bool
is_violated_by opcode p mode memory =
    if opcode == 0x28 || opcode == 0x2C then is_checked_out false p p.len2 mode memory
    else if opcode == 0x2E then is_checked_out true p p.len2 mode memory
    else if opcode == 0x2F then is_checked_out true p (moved_count p) mode memory
    else false
