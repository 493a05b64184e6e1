-- The whole memory of the flat machine: a list of areas, each with all its bytes. Addresses have 32 bits, and pages 512 bytes.
use Rattle.std.specs.Prelude.{◌≡◌, ℕ, suc, zero, ◌+◌, ◌-◌, ◌*◌, ◌/◌, ◌%◌, Bool, true, false, if◌then◌else◌, List, [], ◌∷◌, length, slice_index, slice_set}
use Rattle.vax_space.specs.declared.Area.{Area}
use Rattle.vax_space.specs.Areas.{has_page}
use Rattle.vax_space.specs.Reference.{page_of, byte_after}

-- the address behind
abbrev pub after : ℕ → ℕ
after addr = byte_after addr 1

-- the byte at an address, and 0 where no area has it
unfoldable pub byte_at : List Area → ℕ → ℕ
byte_at [] addr = 0
byte_at (area ∷ areas) addr =
    if has_page area (page_of addr) then slice_index area.bytes (addr - 512 * area.first) else byte_at areas addr

-- one byte changed
unfoldable pub with_byte : List Area → ℕ → ℕ → List Area
with_byte [] addr byte = []
with_byte (area ∷ areas) addr byte =
    if has_page area (page_of addr)
    then record area { bytes = slice_set area.bytes (addr - 512 * area.first) byte } ∷ areas
    else area ∷ with_byte areas addr byte

-- the number that n bytes are, the lowest first
unfoldable pub number : (ℕ → ℕ) → ℕ → ℕ → ℕ
number byte addr zero = 0
number byte addr (suc n) = byte addr + 256 * number byte (after addr) n

-- n bytes in order
unfoldable pub bytes_from : (ℕ → ℕ) → ℕ → ℕ → List ℕ
bytes_from byte addr zero = []
bytes_from byte addr (suc n) = byte addr ∷ bytes_from byte (after addr) n

-- a number of n bytes written at an address
unfoldable pub written : List Area → ℕ → ℕ → ℕ → List Area
written memory addr zero value = memory
written memory addr (suc n) value = with_byte (written memory (after addr) n (value / 256)) addr (value % 256)

-- a run of bytes written at an address
unfoldable pub written_run : List Area → ℕ → List ℕ → List Area
written_run memory addr [] = memory
written_run memory addr (byte ∷ bytes) = with_byte (written_run memory (after addr) bytes) addr byte

-- each area has all its bytes
unfoldable pub IsWhole : List Area → Type 0
IsWhole [] = Unit {0}
IsWhole (area ∷ areas) = (length area.bytes ≡ 512 * area.pages) × IsWhole areas

-- some area has the page
unfoldable pub is_mapped : List Area → ℕ → Bool
is_mapped [] page = false
is_mapped (area ∷ areas) page = if has_page area page then true else is_mapped areas page

-- every page that an area has is resident
abbrev pub AllResident : (ℕ → Bool) → List Area → Type 0
AllResident resident areas = (page : ℕ) → is_mapped areas page ≡ true → resident page ≡ true
