-- The lines of instructions.
use Rattle.std.specs.Prelude.{ℕ, List, [], ◌∷◌, ◌++◌, codes, Option, None, Some}
use Rattle.vax_outside.specs.Hex.{hex}
use Rattle.vax_disasm.specs.Listed.{Listing, listed}
use Rattle.vax_debug_names.specs.declared.Legend.{Legend}
use Rattle.vax_debug_replies.specs.Sources.{source_line}
use Rattle.vax_debug_replies.specs.Values.{head}

-- the bytes up to the first that isn't there
abbrev pub and_then : Option ℕ → List ℕ → List ℕ
and_then None more = []
and_then (Some byte) more = byte ∷ more

unfoldable pub bytes_of : List (Option ℕ) → List ℕ
bytes_of [] = []
bytes_of (cell ∷ cells) = and_then cell (bytes_of cells)

-- the instruction that these cells begin with, which lie at an address
abbrev pub instruction_at : (address : ℕ) → List (Option ℕ) → Option Listing
instruction_at address cells = listed (bytes_of cells) address

-- how many bytes it has: one, where there is none
abbrev pub length_of : Option Listing → ℕ
length_of None = 1
length_of (Some l) = l.length

-- what stands in its place where there is none: the byte, or dashes
abbrev pub unlisted : List (Option ℕ) → List ℕ
unlisted [] = codes "--"
unlisted (None ∷ cells) = codes "--"
unlisted (Some byte ∷ cells) = codes ".BYTE ^X" ++ hex 2 byte

abbrev pub text_of : Option Listing → List (Option ℕ) → List ℕ
text_of None cells = unlisted cells
text_of (Some l) cells = l.text

-- the line of the instruction that these cells begin with
unfoldable pub instruction_line : Legend → (address : ℕ) → List (Option ℕ) → List ℕ
instruction_line legend address cells = head legend address ++ text_of (instruction_at address cells) cells ++ 10 ∷ []

-- as it is listed: where it begins a statement, that stands before it
unfoldable pub listed_instruction : Legend → (address : ℕ) → List (Option ℕ) → List ℕ
listed_instruction legend address cells = source_line legend address ++ instruction_line legend address cells
