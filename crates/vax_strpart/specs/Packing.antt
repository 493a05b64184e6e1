-- Registers R0 to R5 between the parts of a string instruction. (What the VAX Architecture Reference Manual leaves to the processor,
-- string instructions, is fixed here.)
use Rattle.std.specs.Prelude.{ℕ, ◌≡◌, ◌+◌, ◌*◌, ◌/◌, ◌%◌, ◌<◌, Bool, true, false, ◌||◌, if◌then◌else◌, ◌==◌, List, [], ◌∷◌, slice_index}
use Rattle.vax_strpart.specs.declared.packing.Progress.{Progress}
use Rattle.vax_strpart.specs.declared.packing.Layout.{Layout}
use Rattle.vax_strpart.specs.declared.packing.Layout.TheVariants.{Moves, Compares, Searches, Scans, Translates}

-- the layout of a string instruction's opcode: MOVC3 and MOVC5; MOVTC and MOVTUC; LOCC and SKPC; SCANC and SPANC; CMPC3, CMPC5 and MATCHC
unfoldable pub layout_of : ℕ → Layout
layout_of op =
    if op == 0x28 || op == 0x2C then Moves
    else if op == 0x2E || op == 0x2F then Translates
    else if op == 0x3A || op == 0x3B then Searches
    else if op == 0x2A || op == 0x2B then Scans
    else Compares

-- a length, a byte and the instruction's length
abbrev pub first_word : Progress → ℕ
first_word p = p.len1 + 0x10000 * p.byte + 0x1000000 * p.delta

-- the second length, and how much is done
abbrev pub third_word : Progress → ℕ
third_word p = p.len2 + 0x10000 * p.done

abbrev pub packed_as : Layout → Progress → List ℕ → List ℕ
packed_as Moves p old = first_word p ∷ p.addr1 ∷ third_word p ∷ p.addr2 ∷ 0 ∷ 0 ∷ []
packed_as Compares p old = first_word p ∷ p.addr1 ∷ third_word p ∷ p.addr2 ∷ slice_index old 4 ∷ slice_index old 5 ∷ []
packed_as Searches p old = first_word p ∷ p.addr1 ∷ slice_index old 2 ∷ slice_index old 3 ∷ slice_index old 4 ∷ slice_index old 5 ∷ []
packed_as Scans p old = first_word p ∷ p.addr1 ∷ 0 ∷ p.table ∷ slice_index old 4 ∷ slice_index old 5 ∷ []
packed_as Translates p old = first_word p ∷ p.addr1 ∷ third_word p ∷ p.table ∷ 0 ∷ p.addr2 ∷ []

-- R0 to R5 that hold a progress, by what they held before
unfoldable pub packed : Progress → List ℕ → List ℕ
packed p old = packed_as (layout_of p.op) p old

-- two lengths and two addresses are kept
abbrev pub has_second : Layout → Bool
has_second Moves = true
has_second Compares = true
has_second Searches = false
has_second Scans = false
has_second Translates = true

-- the register of the second address
abbrev pub second_address : Layout → List ℕ → ℕ
second_address Moves regs = slice_index regs 3
second_address Compares regs = slice_index regs 3
second_address Searches regs = 0
second_address Scans regs = 0
second_address Translates regs = slice_index regs 5

-- the register of the table's address
abbrev pub table_address : Layout → List ℕ → ℕ
table_address Moves regs = 0
table_address Compares regs = 0
table_address Searches regs = 0
table_address Scans regs = slice_index regs 3
table_address Translates regs = slice_index regs 3

-- the register of the second length and of what is done
abbrev pub counts : Layout → List ℕ → ℕ
counts layout regs = if has_second layout then slice_index regs 2 else 0

abbrev pub unpacked_as : Layout → ℕ → List ℕ → Progress
unpacked_as layout op regs = record {
  op = op;
  len1 = slice_index regs 0 % 0x10000;
  addr1 = slice_index regs 1;
  byte = (slice_index regs 0 / 0x10000) % 0x100;
  len2 = counts layout regs % 0x10000;
  addr2 = second_address layout regs;
  table = table_address layout regs;
  done = counts layout regs / 0x10000;
  delta = slice_index regs 0 / 0x1000000;
}

-- the progress that R0 to R5 hold
unfoldable pub unpacked : ℕ → List ℕ → Progress
unpacked op regs = unpacked_as (layout_of op) op regs

-- the fields that a layout doesn't keep are 0
pub record IsUnused (len2 addr2 table done : ℕ) : Type 0 where
  pub len2_is : len2 ≡ 0
  pub addr2_is : addr2 ≡ 0
  pub table_is : table ≡ 0
  pub done_is : done ≡ 0

abbrev pub AreUnusedZero : Layout → Progress → Type 0
AreUnusedZero Moves p = p.table ≡ 0
AreUnusedZero Compares p = p.table ≡ 0
AreUnusedZero Searches p = IsUnused p.len2 p.addr2 p.table p.done
AreUnusedZero Scans p = IsUnused p.len2 p.addr2 0 p.done
AreUnusedZero Translates p = Unit {0}

-- a progress whose numbers fit, and whose unused fields are 0
pub record IsProper (p : Progress) : Type 0 where
  pub len1 : p.len1 < 0x10000
  pub byte : p.byte < 0x100
  pub len2 : p.len2 < 0x10000
  pub unused : AreUnusedZero (layout_of p.op) p
