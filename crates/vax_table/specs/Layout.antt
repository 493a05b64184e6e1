-- The page tables in physical memory, and the translation through them
-- (VAX Architecture Reference Manual, memory management, address translation).
use Rattle.std.specs.Prelude.{◌≡◌, ℕ, ◌+◌, ◌-◌, ◌*◌, ◌/◌, ◌%◌, ◌^◌, ◌<◌, ◌≤◌, true, false, if◌then◌else◌, nat_lt, nat_le, Option, Some, None, option_and_then, unwrap_or, List, length}
use Rattle.vax_space.specs.declared.Area.{Area}
use Rattle.vax_space.specs.Areas.{prot_of}
use Rattle.vax_table.specs.declared.Walk.{Walk}
use Rattle.vax_table.specs.declared.Walk.TheVariants.{Outside}
use Rattle.vax_table.specs.declared.memory.Memory.{Memory}
use Rattle.vax_table.specs.Entry.{entry_at, entry_with, frame_in, said_by, kept_by}

-- the first frame of the wired memory, which begins with the system page table: its base register has 01000000
abbrev pub wired_frame : ℕ
wired_frame = 0x8000

-- the system virtual address of P0's page table: its base register
abbrev pub p0_base : ℕ
p0_base = 0x80200000

-- P1's table has its pages 1F8000 to 1FFFFF from 80220000 on, so its base register lies 4 * 1F8000 below
abbrev pub p1_base : ℕ
p1_base = 0x7FA40000

-- the physical address of a system virtual address, by the system page table
abbrev pub physical : List ℕ → ℕ → ℕ
physical bytes address = 512 * frame_in (entry_at bytes ((address - 2 ^ 31) / 512)) + address % 512

-- the entry at a system virtual address
abbrev pub process_entry : List ℕ → ℕ → ℕ
process_entry bytes address = entry_at bytes ((physical bytes address - 512 * wired_frame) / 4)

-- a page's entry, none where the page lies past the length of its region's table
unfoldable pub entry_of : Memory → ℕ → Option ℕ
entry_of memory page =
    if nat_lt page 0x200000
    then (if nat_lt page memory.p0_end then Some (process_entry memory.bytes.items (p0_base + 4 * page)) else None)
    else (if nat_lt page 0x400000
    then (if nat_le memory.p1_start page then Some (process_entry memory.bytes.items (p1_base + 4 * (page - 0x200000))) else None)
    else (if nat_lt page 0x401200 then Some (entry_at memory.bytes.items (page - 0x400000)) else None))

abbrev pub said_or_past : Option ℕ → Walk
said_or_past None = Outside true
said_or_past (Some entry) = said_by entry

-- what a walk of the tables says of a page
unfoldable pub walked_in : Memory → ℕ → Walk
walked_in memory page = said_or_past (entry_of memory page)

-- the frame that an absent page's entry remembers
unfoldable pub kept_in : Memory → ℕ → Option ℕ
kept_in memory page = option_and_then kept_by (entry_of memory page)

-- how many pages P0's table takes
abbrev pub p0_tables : ℕ → ℕ
p0_tables p0_end = (p0_end + 127) / 128

-- the first page whose entry P1's table has: a table page holds 128 entries
abbrev pub p1_first : ℕ → ℕ
p1_first p1_start = p1_start - p1_start % 128

-- the place of P1's first entry in the wired memory, counted in longwords
abbrev pub p1_place : ℕ → ℕ
p1_place p0_end = 4608 + 128 * p0_tables p0_end

abbrev pub total : ℕ → ℕ → ℕ
total p0_end p1_start = p1_place p0_end + (0x400000 - p1_first p1_start)

-- the place of a page's entry in the wired memory, counted in longwords
unfoldable pub place_of : ℕ → ℕ → ℕ → Option ℕ
place_of p0_end p1_start page =
    if nat_lt page 0x200000 then (if nat_lt page p0_end then Some (4608 + page) else None)
    else (if nat_lt page 0x400000
    then (if nat_le p1_start page then Some (p1_place p0_end + (page - p1_first p1_start)) else None)
    else (if nat_lt page 0x401200 then Some (page - 0x400000) else None))

-- the frame of the wired memory in which an entry stands
abbrev pub frame_at : ℕ → ℕ
frame_at place = wired_frame + place / 128

-- the system's entry for a page of the tables: no mode may reach it
abbrev pub table_entry : ℕ → ℕ
table_entry frame = entry_with true 1 false frame

-- the system's entry for the page of P0's or P1's table at 80200000 + 512 * n
unfoldable pub table_page : ℕ → ℕ → ℕ → ℕ
table_page p0_end p1_start n =
    if nat_lt n 256
    then (if nat_lt n (p0_tables p0_end) then table_entry (frame_at (4608 + 128 * n)) else entry_with false 1 false 0)
    else (if nat_le (p1_first p1_start) (0x3F8000 + 128 * (n - 256))
    then table_entry (frame_at (p1_place p0_end + (0x3F8000 + 128 * (n - 256) - p1_first p1_start))) else entry_with false 1 false 0)

-- the entry of a page that is absent
abbrev pub absent_entry : List Area → ℕ → ℕ
absent_entry areas page = entry_with false (unwrap_or (prot_of areas page) 1) false 0

-- what stands at each place of new tables
unfoldable pub first_entry : List Area → ℕ → ℕ → ℕ → ℕ
first_entry areas p0_end p1_start place =
    if nat_lt place 4096 then absent_entry areas (0x400000 + place)
    else (if nat_lt place 4608 then table_page p0_end p1_start (place - 4096)
    else (if nat_lt place (p1_place p0_end) then absent_entry areas (place - 4608)
    else absent_entry areas (p1_first p1_start + (place - p1_place p0_end))))

-- the bytes hold the first entries of new tables, as far as a place
pub record IsFilled (areas : List Area) (p0_end p1_start upto : ℕ) (bytes : List ℕ) : Type 0 where
  pub size : length bytes ≡ 4 * total p0_end p1_start
  pub entries : (n : ℕ) → n < upto → entry_at bytes n ≡ first_entry areas p0_end p1_start n

-- the tables are whole, and the system's entries for their own pages stand
pub record IsSound (memory : Memory) : Type 0 where
  pub p0_high : memory.p0_end ≤ 0x8000
  pub p1_low : 0x3F8000 ≤ memory.p1_start
  pub p1_high : memory.p1_start ≤ 0x400000
  pub size : length memory.bytes.items ≡ 4 * total memory.p0_end memory.p1_start
  pub tables : (n : ℕ) → n < 512 → entry_at memory.bytes.items (4096 + n) ≡ table_page memory.p0_end memory.p1_start n
