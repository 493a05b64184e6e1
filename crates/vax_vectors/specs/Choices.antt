-- Where what a step comes to rests on what the architecture leaves to a machine: on the choice that this one made, or on what it has.
use Rattle.std.specs.Prelude.{ℕ, ◌+◌, ◌/◌, ◌%◌, ◌-◌, ◌^◌, ◌==◌, ◌||◌, ◌&&◌, not, Bool, true, false, if◌then◌else◌, Option, Some, None, List, [], ◌∷◌, length, slice_get, slice_index}
use Rattle.vax_word.specs.declared.Core.{Core}
use Rattle.vax_flat.specs.declared.Ending.{Ending}
use Rattle.vax_flat.specs.declared.Ending.TheVariants.{Halt, Vector as ByVector, Stack, Scb, Change}
use Rattle.vax_vectors.specs.declared.vector.Ends.{Ends}
use Rattle.vax_vectors.specs.declared.vector.Ends.TheVariants.{Step, Part, Absent, Ended}
use Rattle.vax_vectors.specs.declared.vector.Touch.{Touch}
use Rattle.vax_vectors.specs.declared.vector.Start.{Start}
use Rattle.vax_vectors.specs.declared.vector.End.{End}
use Rattle.vax_vectors.specs.declared.vector.Vector.{Vector}
use Rattle.vax_vectors.specs.Truth.{is_among, told}

-- the byte at PC
abbrev pub opcode_of : Start → ℕ
opcode_of start = told start.ram.items (slice_index start.core.regs 15)

-- the access mode: 0 kernel, 1 executive, 2 supervisor, 3 user
abbrev pub mode_of : Start → ℕ
mode_of start = start.core.psl.0 / 2 ^ 24 % 4

-- the longword at this offset into the system control block is accessed: a step that delivers an exception reads its vector there
unfoldable pub delivers : List Touch → ℕ → Bool
delivers [] offset = false
delivers (t ∷ ts) offset = if t.addr == 0x80000000 + offset then true else delivers ts offset

-- the number whose bytes begin so is the address of a page
abbrev pub begins_page : Option Touch → Bool
begins_page None = false
begins_page (Some t) = slice_index t.bytes.items 0 == 0 && slice_index t.bytes.items 1 % 2 == 0

-- the violation that is delivered last of all is told of the first byte of a page, as where a range goes on from the page before
abbrev pub violates_at_page : List Touch → Bool
violates_at_page touches = begins_page (slice_get touches (length touches - 2))

-- The opcodes of instructions of which a violation may be told by another address or another reason, or later: those of strings, the branches that
-- change a bit, INSQUE and REMQUE, ADAWI, EDIV with its two results, CASE, those of fields, CALLS.
abbrev pub differing_in_violations : List ℕ
differing_in_violations =
    0x28 ∷ 0x29 ∷ 0x2A ∷ 0x2B ∷ 0x2C ∷ 0x2D ∷ 0x2E ∷ 0x2F ∷ 0x39 ∷ 0x3A ∷ 0x3B ∷ 0xE2 ∷ 0xE3 ∷ 0xE4 ∷ 0xE5 ∷ 0xE6 ∷ 0xE7 ∷ 0x0E ∷ 0x0F
    ∷ 0x58 ∷ 0x7B ∷ 0x8F ∷ 0xAF ∷ 0xCF ∷ 0xEA ∷ 0xEB ∷ 0xEC ∷ 0xED ∷ 0xEE ∷ 0xEF ∷ 0xF0 ∷ 0xFB ∷ []

-- those with reserved operands of this machine's own: REI, RET, BISPSW and BICPSW by bits of the status, MOVTUC by strings that overlap, MOVTC by a
-- destination over its table
abbrev pub differing_in_operands : List ℕ
differing_in_operands = 0x02 ∷ 0x04 ∷ 0x2E ∷ 0x2F ∷ 0xB8 ∷ 0xB9 ∷ []

-- those of strings, which may be left between two of their units
abbrev pub of_strings : List ℕ
of_strings = 0x28 ∷ 0x29 ∷ 0x2A ∷ 0x2B ∷ 0x2C ∷ 0x2D ∷ 0x2E ∷ 0x2F ∷ 0x39 ∷ 0x3A ∷ 0x3B ∷ []

-- those that read and write the processor's registers, of which each machine has its own: MTPR and MFPR
abbrev pub differing_in_registers : List ℕ
differing_in_registers = 0xDA ∷ 0xDB ∷ []

-- those whose codes N and Z are read from a result that overflowed, or from the dividend: ASHL and ASHQ, MUL, DIV and EDIV
abbrev pub differing_in_codes : List ℕ
differing_in_codes =
    0x78 ∷ 0x79 ∷ 0x7B ∷ 0x84 ∷ 0x85 ∷ 0x86 ∷ 0x87 ∷ 0xA4 ∷ 0xA5 ∷ 0xA6 ∷ 0xA7 ∷ 0xC4 ∷ 0xC5 ∷ 0xC6 ∷ 0xC7 ∷ []

-- an ending other than HALT's
abbrev pub is_other_ending : Ending → Bool
is_other_ending Halt = false
is_other_ending (ByVector offset) = true
is_other_ending Stack = true
is_other_ending Scb = true
is_other_ending Change = true

-- Such an ending, a part of a string instruction, or a string instruction that stops for a page: it goes back to its start, and another machine may
-- leave it between two units.
abbrev pub ends_by_choice : ℕ → Ends → Bool
ends_by_choice opcode (Step sent) = false
ends_by_choice opcode (Part begun units) = true
ends_by_choice opcode (Absent page) = is_among of_strings opcode
ends_by_choice opcode (Ended ending) = is_other_ending ending

-- the clock is on, which counts steps
abbrev pub is_timed : Core → Bool
is_timed core = not (core.iccs == 0)

-- a form of operand is reserved, or a violation or an operand differs from machine to machine
abbrev pub delivers_by_choice : ℕ → List Touch → Bool
delivers_by_choice opcode touches =
    delivers touches 0x1C
    || (delivers touches 0x20 && (is_among differing_in_violations opcode || violates_at_page touches))
    || (delivers touches 0x18 && is_among differing_in_operands opcode)

-- V is set, or an arithmetic trap is delivered, which clears it
abbrev pub overflows : End → Bool
overflows end = (end.core.psl.0 / 2 % 2 == 1) || delivers end.touches.items 0x34

abbrev pub gives_by_choice : ℕ → End → Bool
gives_by_choice opcode end = is_among differing_in_registers opcode || (is_among differing_in_codes opcode && overflows end)

-- what the step comes to rests on such a choice
unfoldable pub rests_on_choice : Vector → Bool
rests_on_choice v =
    is_timed v.start.core
    || ends_by_choice (opcode_of v.start) v.end.ends
    || delivers_by_choice (opcode_of v.start) v.end.touches.items
    || gives_by_choice (opcode_of v.start) v.end
