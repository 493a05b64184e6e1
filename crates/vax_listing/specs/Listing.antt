-- What areas are listed as: a line for each instruction.
use Rattle.std.specs.Prelude.{ℕ, zero, suc, ◌+◌, ◌-◌, ◌*◌, ◌%◌, ◌^◌, List, [], ◌∷◌, ◌++◌, codes, Option, Some, None}
use Rattle.std.specs.List.{flat_map}
use Rattle.vax_space.specs.declared.Area.{Area}
use Rattle.vax_outside.specs.Hex.{hex}
use Rattle.vax_disasm.specs.Listed.{Listing, listed}

-- an address in eight digits, a space and a text
unfoldable pub line : (addr : ℕ) → (text : List ℕ) → List ℕ
line addr text = hex 8 addr ++ 32 ∷ text ++ 10 ∷ []

-- the text of an instruction, or of a byte with which none begins
abbrev pub text_of : (byte : ℕ) → Option Listing → List ℕ
text_of byte None = codes ".BYTE ^X" ++ hex 2 byte
text_of byte (Some l) = l.text

-- how many bytes this text is for
abbrev pub length_of : Option Listing → ℕ
length_of None = 1
length_of (Some l) = l.length

-- The lines of the bytes that lie from an address on, of which the first few belong to the instruction before. Each other byte begins an instruction,
-- or has a line of its own. Addresses wrap at 32 bits.
unfoldable pub lines_from : (before addr : ℕ) → List ℕ → List ℕ
lines_from before addr [] = []
lines_from zero addr (byte ∷ bytes) =
    let here : Option Listing = listed (byte ∷ bytes) addr in
    line addr (text_of byte here) ++ lines_from (length_of here - 1) ((addr + 1) % 2 ^ 32) bytes
lines_from (suc before) addr (byte ∷ bytes) = lines_from before ((addr + 1) % 2 ^ 32) bytes

-- the address of an area's first byte
abbrev pub address_of : Area → ℕ
address_of area = 512 * area.first % 2 ^ 32

-- an area, from its first byte to the end of its bytes
unfoldable pub area_lines : Area → List ℕ
area_lines area = lines_from 0 (address_of area) area.bytes

unfoldable pub listing : List Area → List ℕ
listing areas = flat_map area_lines areas
