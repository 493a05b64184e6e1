-- Units at worked rows, as the manual says of each instruction what it does byte by byte.
use Rattle.std.proofs.Common.{◌≡◌, Bool, true, false, None, ℕ, ◌++◌, List, [], ◌∷◌, replicate, refl}
use Rattle.vax_space.specs.declared.Area.{Area}
use Rattle.vax_space.specs.Areas.{area_of, has_page, prot_of}
use Rattle.vax_space.specs.Protection.{allows, right_of}
use Rattle.vax_word.specs.Status.{mode_of, ipl_of}
use Rattle.vax_flat.specs.Memory.{byte_at, bytes_from, number}
use Rattle.vax_flat.specs.Operand.{next_operand, specified, fetched, read_at, formed, in_memory, in_register, addressed, at_address, literal, is_reserved, form_of}
use Rattle.vax_flat.specs.Outcome.{outcome_of}
use Rattle.vax_flat.specs.Rows.{read_value, address_value, value_of, address_in}
use Rattle.vax_flat.specs.Step.{Flat, level, highest}
use Rattle.vax_flat.specs.StringOperands.{search_operands, equal_operands, filled_operands, match_operands, next_word, next_byte, next_longword, sixteen}
use Rattle.vax_space.specs.Reference.{violation, may_access}
use Rattle.vax_isa.specs.Rows.{action_of, with_opcode}
use Rattle.vax_isa.specs.Instructions.{instructions}
use Rattle.vax_flat_units.specs.Places.{units_of, instruction_units, text_operands}
use Rattle.vax_flat_units.specs.Violations.{is_reserved_by, match_later, to_violation, unit_violates, units_reached}
use Rattle.vax_flat.specs.StringMatch.{places_of}
use Rattle.vax_flat_units.specs.Units.{to_first, search_units, scan_units, pair_units, compare_units, move_units, escape_units, place_units, stands_at, places_units, match_units, units_left}

-- page 0 begins with AAABAB, and page 1 is a table that has 7 for B and 0 for A
abbrev rows : List Area
rows =
    record { first = 0; pages = 1; prot = 4; bytes = 65 ∷ 65 ∷ 65 ∷ 66 ∷ 65 ∷ 66 ∷ [] }
    ∷ record { first = 1; pages = 1; prot = 4; bytes = replicate 66 0 ++ 7 ∷ [] }
    ∷ []

-- an instruction with these lengths, addresses and byte, of which so much is done
abbrev row : ℕ → ℕ → ℕ → ℕ → ℕ → ℕ → ℕ → ℕ
row opcode len1 addr1 byte len2 addr2 done = units_left opcode (record { op = opcode; len1 = len1; addr1 = addr1; byte = byte; len2 = len2; addr2 = addr2; table = 512; done = done; delta = 6 }) rows

-- LOCC: B is the fourth byte of AAAB; C is none of them, so all four are tested; no byte of an empty string is. SKPC: the first that isn't A is
-- the fourth, and that isn't B the first.
searched : (row 0x3A 4 0 66 0 0 0 ≡ 4) × (row 0x3A 4 0 67 0 0 0 ≡ 4) × (row 0x3A 0 0 66 0 0 0 ≡ 0) × (row 0x3B 4 0 65 0 0 0 ≡ 4) × (row 0x3B 4 0 66 0 0 0 ≡ 1)
unfolding units_left search_units to_first byte_at bytes_from has_page
searched = (refl, refl, refl, refl, refl)

-- SCANC by the mask 2: B is the first whose entry has the bit, and by the mask 8 there is none. SPANC: in BAB the first whose entry hasn't is A.
scanned : (row 0x2A 4 0 2 0 0 0 ≡ 4) × (row 0x2A 6 0 8 0 0 0 ≡ 6) × (row 0x2B 3 3 2 0 0 0 ≡ 2) × (row 0x2B 4 0 2 0 0 0 ≡ 1)
unfolding units_left scan_units to_first byte_at bytes_from has_page
scanned = (refl, refl, refl, refl)

-- CMPC3: AA and AB differ in the second pair; AB and AB are equal over both. CMPC5: A and AB, filled with B, are equal over two pairs, and AAB and
-- the empty string, filled with A, differ in the third.
compared : (row 0x29 2 0 0 2 4 0 ≡ 2) × (row 0x29 2 2 0 2 4 0 ≡ 2) × (row 0x29 3 0 0 3 3 0 ≡ 1) × (row 0x2D 1 0 66 2 4 0 ≡ 2) × (row 0x2D 3 1 65 0 4 0 ≡ 3) × (row 0x2D 3 1 65 0 4 2 ≡ 1)
unfolding units_left compare_units pair_units byte_at has_page
compared = (refl, refl, refl, refl, refl, refl)

-- MOVC3 of 7 bytes; MOVC5 of 3 bytes to 8, of which 5 are filled, and of 8 to 3; MOVTC the same. With 4 done of 8 there are 4 left.
moved : (row 0x28 7 0 0 7 64 0 ≡ 7) × (row 0x2C 3 0 0 8 64 0 ≡ 8) × (row 0x2C 8 0 0 3 64 0 ≡ 3) × (row 0x2E 3 0 0 8 64 0 ≡ 8) × (row 0x2C 3 0 0 8 64 4 ≡ 4) × (row 0x2C 8 0 0 8 64 4 ≡ 4)
unfolding units_left move_units
moved = (refl, refl, refl, refl, refl, refl)

-- MOVTUC of AAAB up to 7: three bytes are moved, and B escapes. Where the destination has three bytes, none does; up to 9 none does either.
escaped : (row 0x2F 4 0 7 9 64 0 ≡ 4) × (row 0x2F 4 0 7 3 64 0 ≡ 3) × (row 0x2F 4 0 9 9 64 0 ≡ 4) × (row 0x2F 6 0 7 9 64 0 ≡ 4) × (row 0x2F 4 0 7 9 64 3 ≡ 1)
unfolding units_left escape_units to_first byte_at bytes_from has_page
escaped = (refl, refl, refl, refl, refl)

-- MATCHC of AB in AAAB: A, B against A, A at the first two places, and at the third both agree. In AA it is nowhere. B in AAAB takes one byte a place.
-- An object that is longer than the string, or empty, takes none. With its first byte known to agree, AB takes one byte less.
matched : (row 0x39 2 4 0 4 0 0 ≡ 6) × (row 0x39 2 4 0 2 0 0 ≡ 2) × (row 0x39 1 5 0 4 0 0 ≡ 4) × (row 0x39 2 4 0 1 0 0 ≡ 0) × (row 0x39 0 4 0 4 0 0 ≡ 0) × (row 0x39 2 4 0 4 0 1 ≡ 5)
unfolding units_left match_units places_units place_units stands_at places_of byte_at has_page
matched = (refl, refl, refl, refl, refl, refl)

-- the machine with these bytes at PC, R1 at page 0 and R3 at AB
abbrev at_pc : List ℕ → Flat
at_pc bytes = record {
  core = record {
    regs = 0 ∷ 0 ∷ 64 ∷ 4 ∷ 0 ∷ 0 ∷ 0 ∷ 0 ∷ 0 ∷ 0 ∷ 0 ∷ 0 ∷ 0 ∷ 0 ∷ 0 ∷ 1024 ∷ [];
    psl = record { 0 = 0 };
    stacks = 0 ∷ 0 ∷ 0 ∷ 0 ∷ 0 ∷ [];
    sisr = 0;
    iccs = 0;
    clock = 0;
  };
  memory =
      record { first = 0; pages = 1; prot = 4; bytes = 65 ∷ 65 ∷ 65 ∷ 66 ∷ 65 ∷ 66 ∷ [] }
      ∷ record { first = 2; pages = 1; prot = 4; bytes = bytes }
      ∷ [];
  input = [];
  taken = 0;
  output = [];
  ending = None;
}

-- LOCC #^A/B/,#4,(R1) on AAAB; CMPC3 #2,(R1),(R3) on AA and AB; MOVC5 #3,(R1),#0,#8,(R2); MATCHC #2,(R3),#4,(R1) of AB in AAAB; NOP, which isn't a
-- string instruction; and LOCC #^A/B/,#4,R1, whose third operand has a reserved addressing mode
at_start : (units_of (at_pc (0x3A ∷ 0x8F ∷ 0x42 ∷ 0x04 ∷ 0x61 ∷ [])) ≡ 4)
    × (units_of (at_pc (0x29 ∷ 0x02 ∷ 0x61 ∷ 0x63 ∷ [])) ≡ 2)
    × (units_of (at_pc (0x2C ∷ 0x03 ∷ 0x61 ∷ 0x00 ∷ 0x08 ∷ 0x62 ∷ [])) ≡ 8)
    × (units_of (at_pc (0x39 ∷ 0x02 ∷ 0x63 ∷ 0x04 ∷ 0x61 ∷ [])) ≡ 6)
    × (units_of (at_pc (0x01 ∷ [])) ≡ 0)
    × (units_of (at_pc (0x3A ∷ 0x8F ∷ 0x42 ∷ 0x04 ∷ 0x51 ∷ [])) ≡ 0)
unfolding units_of instruction_units level highest ipl_of text_operands outcome_of search_operands equal_operands filled_operands match_operands next_word next_byte next_longword read_value address_value value_of address_in next_operand specified fetched read_at formed in_memory in_register addressed at_address literal is_reserved form_of action_of with_opcode instructions sixteen units_left search_units compare_units pair_units move_units match_units places_units place_units stands_at places_of to_first to_violation unit_violates match_later byte_at bytes_from has_page number violation may_access prot_of area_of allows right_of mode_of
at_start = (refl, refl, refl, refl, refl, refl)

-- MOVTC to a destination in which its table begins, and MOVTUC to one that begins in its source, raise a reserved operand; to one that is their
-- source, or that has no bytes, neither does
abbrev reserved : ℕ → ℕ → ℕ → ℕ → ℕ → Bool
reserved opcode len1 addr1 len2 addr2 = is_reserved_by opcode (record { op = opcode; len1 = len1; addr1 = addr1; byte = 0; len2 = len2; addr2 = addr2; table = 512; done = 0; delta = 6 })

overlapping : (reserved 0x2E 4 0 4 510 ≡ true) × (reserved 0x2E 4 0 2 510 ≡ false) × (reserved 0x2E 0 0 4 510 ≡ false) × (reserved 0x2F 4 0 4 2 ≡ true) × (reserved 0x2F 4 0 4 0 ≡ false) × (reserved 0x2C 4 0 4 510 ≡ false)
overlapping = (refl, refl, refl, refl, refl, refl)

-- Units end with the first that violates. LOCC #^A/C/,#4 from 510 on comes to page 1, where user mode may read nothing; CMPC3 #4 of AAAB and what
-- stands at 510; SCANC #4 by a table in page 1; MATCHC #1 of A, from 511 on; and MOVC3 counts on, as its checks come before its first unit
abbrev guarded : List Area
guarded =
    record { first = 0; pages = 1; prot = 4; bytes = 65 ∷ 65 ∷ 65 ∷ 66 ∷ [] }
    ∷ record { first = 1; pages = 1; prot = 2; bytes = [] }
    ∷ []

abbrev reached : ℕ → ℕ → ℕ → ℕ → ℕ → ℕ
reached in_mode opcode len1 addr1 addr2 = units_reached opcode (record { op = opcode; len1 = len1; addr1 = addr1; byte = 67; len2 = 4; addr2 = addr2; table = 512; done = 0; delta = 6 }) in_mode guarded

violating : (reached 3 0x3A 4 510 0 ≡ 3)
    × (reached 0 0x3A 4 510 0 ≡ 4)
    × (reached 3 0x29 4 100 510 ≡ 3)
    × (reached 0 0x29 4 100 510 ≡ 4)
    × (reached 3 0x2A 4 0 0 ≡ 1)
    × (reached 0 0x2A 4 0 0 ≡ 4)
    × (reached 3 0x39 1 0 511 ≡ 2)
    × (reached 0 0x39 1 0 511 ≡ 4)
    × (reached 3 0x28 4 0 510 ≡ 4)
unfolding units_left search_units compare_units pair_units move_units scan_units match_units places_units place_units stands_at places_of to_first to_violation unit_violates match_later byte_at bytes_from has_page may_access prot_of area_of allows right_of
violating = (refl, refl, refl, refl, refl, refl, refl, refl, refl)
