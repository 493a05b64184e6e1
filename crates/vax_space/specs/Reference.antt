-- A reference to a range of bytes, and the access control violation that it meets
-- (VAX Architecture Reference Manual, memory management: access control, length violations).
use Rattle.std.specs.Prelude.{◌≡◌, ℕ, zero, suc, ◌+◌, ◌/◌, ◌%◌, ◌^◌, ◌<◌, Bool, true, false, ◌&&◌, if◌then◌else◌, nat_lt, nat_le, Option, Some, None, List, [], ◌∷◌, max, min}
use Rattle.vax_space.specs.declared.Access.{Access}
use Rattle.vax_space.specs.declared.Access.TheVariants.{Read, Write}
use Rattle.vax_space.specs.declared.Area.{Area}
use Rattle.vax_space.specs.declared.Violation.{Violation}
use Rattle.vax_space.specs.Protection.{allows}
use Rattle.vax_space.specs.Areas.{end_of, prot_of}

abbrev pub page_of : ℕ → ℕ
page_of addr = addr / 512

-- the byte so many after another; the last address is followed by 0
abbrev pub byte_after : ℕ → ℕ → ℕ
byte_after addr count = (addr + count) % 2 ^ 32

abbrev pub is_write : Access → Bool
is_write Read = false
is_write Write = true

abbrev pub permitted : Option ℕ → ℕ → Access → Bool
permitted None mode access = false
permitted (Some code) mode access = allows code mode access

-- a mode may access a page: it lies in an area whose protection allows the access
unfoldable pub may_access : List Area → ℕ → ℕ → Access → Bool
may_access areas page mode access = permitted (prot_of areas page) mode access

-- the range lies within one page, which the mode may access
unfoldable pub is_free_page : List Area → ℕ → ℕ → ℕ → Access → Bool
is_free_page areas addr len mode access = nat_le (addr % 512 + len) 512 && may_access areas (page_of addr) mode access

-- where an area of the program region ends
abbrev pub end_in_program : Area → ℕ
end_in_program area = if nat_lt area.first 0x200000 then end_of area else 0

-- the page after the last that an area of the program region has
unfoldable pub program_end : List Area → ℕ
program_end [] = 0
program_end (area ∷ areas) = max (end_in_program area) (program_end areas)

-- where an area of the control region begins
abbrev pub start_in_control : Area → ℕ
start_in_control area = if nat_le 0x200000 area.first && nat_lt area.first 0x400000 then area.first else 0x400000

-- the first page that an area of the control region has, or the region's end
unfoldable pub control_start : List Area → ℕ
control_start [] = 0x400000
control_start (area ∷ areas) = min (start_in_control area) (control_start areas)

-- the page lies past the length of its region: behind the last of P0, before the first of P1, behind the system
-- page table's 1200 (hexadecimal) entries, or in the fourth region
unfoldable pub is_past_region : List Area → ℕ → Bool
is_past_region areas page =
    if nat_lt page 0x200000 then nat_le (program_end areas) page
    else (if nat_lt page 0x400000 then nat_lt page (control_start areas)
    else nat_le 0x401200 page)

-- every byte of the range may be accessed
pub record IsAccessible (areas : List Area) (addr len mode : ℕ) (access : Access) : Type 0 where
  pub bytes : (k : ℕ) → k < len → may_access areas (page_of (byte_after addr k)) mode access ≡ true

abbrev pub violation_at : List Area → ℕ → Access → Violation
violation_at areas addr access =
    record { addr = addr; length = is_past_region areas (page_of addr); write = is_write access }

-- the violation of a reference: at the first byte of the range that may not be accessed
unfoldable pub violation : List Area → ℕ → ℕ → ℕ → Access → Option Violation
violation areas addr zero mode access = None
violation areas addr (suc len) mode access =
    if may_access areas (page_of addr) mode access then violation areas (byte_after addr 1) len mode access
    else Some (violation_at areas addr access)

-- a violation is that of the first byte that may not be accessed
pub record IsFirstViolation (areas : List Area) (addr len mode : ℕ) (access : Access) (found : Violation) : Type 0 where
  pub count : ℕ
  pub within : count < len
  pub is : found ≡ violation_at areas (byte_after addr count) access
  pub here : may_access areas (page_of (byte_after addr count)) mode access ≡ false
  pub before : (k : ℕ) → k < count → may_access areas (page_of (byte_after addr k)) mode access ≡ true

-- what may be written may be read
abbrev pub WritableIsReadable : List Area → Type 0
WritableIsReadable areas =
    (addr len mode : ℕ) → violation areas addr len mode Write ≡ None → violation areas addr len mode Read ≡ None
