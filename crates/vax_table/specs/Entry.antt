-- A page table entry (VAX Architecture Reference Manual, memory management, page table entry): a longword with the
-- valid bit 31, the protection code in bits 30:27, the modify bit 26 and the page frame number in bits 20:0.
use Rattle.std.specs.Prelude.{ℕ, ◌+◌, ◌*◌, ◌/◌, ◌%◌, ◌^◌, Bool, true, false, ◌==◌, if◌then◌else◌, Option, Some, None, List, drop}
use Rattle.byteorder.specs.Endian.{little_number}
use Rattle.vax_table.specs.declared.Walk.{Walk}
use Rattle.vax_table.specs.declared.Walk.TheVariants.{Resident, Absent, Outside}

abbrev pub is_valid : ℕ → Bool
is_valid entry = entry / 2 ^ 31 % 2 == 1

abbrev pub prot_in : ℕ → ℕ
prot_in entry = entry / 2 ^ 27 % 16

abbrev pub is_modified : ℕ → Bool
is_modified entry = entry / 2 ^ 26 % 2 == 1

abbrev pub frame_in : ℕ → ℕ
frame_in entry = entry % 2 ^ 21

-- what an entry says of its page; the reserved protection code 1 stands in the entries of pages in no area
unfoldable pub said_by : ℕ → Walk
said_by entry =
    if prot_in entry == 1 then Outside false
    else (if is_valid entry then Resident (frame_in entry) (prot_in entry) (is_modified entry) else Absent (prot_in entry))

-- the frame that the entry of an absent page remembers: nothing else reads bits 26:0 of an entry that isn't valid, and
-- bit 26 is set there where bits 20:0 have a frame
unfoldable pub kept_by : ℕ → Option ℕ
kept_by entry = if is_valid entry then None else (if is_modified entry then Some (frame_in entry) else None)

abbrev pub bit : Bool → ℕ
bit true = 1
bit false = 0

unfoldable pub entry_with : Bool → ℕ → Bool → ℕ → ℕ
entry_with valid prot modified frame = bit valid * 2 ^ 31 + prot * 2 ^ 27 + bit modified * 2 ^ 26 + frame

-- the entry at a place of a table, counted in longwords
unfoldable pub entry_at : List ℕ → ℕ → ℕ
entry_at bytes place = little_number 4 (drop (4 * place) bytes)
