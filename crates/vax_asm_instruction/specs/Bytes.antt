-- The bytes of an instruction, and what its statement leaves until its fields have their values (VAX Architecture Reference Manual, instruction
-- format).
use Rattle.std.specs.Prelude.{◌≡◌, ℕ, ◌+◌, List, [], ◌∷◌, ◌++◌, Some, length}
use Rattle.vax_isa.specs.Instructions.{Instruction}
use Rattle.vax_isa.specs.Rows.{Plain, row_of, with_opcode}
use Rattle.vax_isa.specs.declared.OperandKind.{OperandKind}
use Rattle.vax_flat.specs.Grammar.{Sequence, End, Next, IsInstruction}
use Rattle.vax_asm_encode.specs.declared.operand.Operand.{Operand}
use Rattle.vax_asm_encode.specs.Operands.{field_of, specifier_of}
use Rattle.vax_asm_encode.specs.Bytes.{HoldsIn, operand_bytes}
use Rattle.vax_asm_sections.specs.Layout.{Part, Zeros, Bytes, Field, Section}
use Rattle.vax_asm_first.specs.Fixups.{Fixup}
use Rattle.vax_asm_first.specs.declared.types.Content.TheVariants as content

-- an operand with the number that its field holds
pub record Held : Type 0 where
  pub kind : OperandKind
  pub operand : Operand
  pub number : ℕ

abbrev pub held_bytes : Held → List ℕ
held_bytes h = operand_bytes h.kind h.operand h.number

abbrev pub operands_bytes : List Held → List ℕ
operands_bytes [] = []
operands_bytes (h ∷ hs) = held_bytes h ++ operands_bytes hs

abbrev pub instruction_bytes : ℕ → List Held → List ℕ
instruction_bytes code hs = code ∷ operands_bytes hs

-- the operands as the grammar has them
abbrev pub sequence_of : List Held → Sequence
sequence_of [] = End
sequence_of (h ∷ hs) = Next h.kind (specifier_of h.operand h.number) (length (held_bytes h)) (sequence_of hs)

-- The bytes are read back as the instruction of this row with these operands, whatever follows them.
abbrev pub IsReadBack : Plain → List Held → Type 0
IsReadBack row hs = (i : Instruction) (rest : List ℕ) → with_opcode row.code ≡ Some i → row ≡ row_of i →
    IsInstruction (instruction_bytes row.code hs ++ rest) i (sequence_of hs) (length (instruction_bytes row.code hs))

-- A part of a section that is to be filled in is this operand, and its field can hold the number.
abbrev pub IsHeld : Part Fixup → Held → Type 0
IsHeld (Field f) h = (f.content ≡ content.Operand h.kind h.operand) × HoldsIn (field_of h.kind h.operand) h.number
IsHeld (Bytes bytes) h = ⊥
IsHeld (Zeros n) h = ⊥

abbrev pub AreHeld : List (Part Fixup) → List Held → Type 0
AreHeld [] [] = Unit {0}
AreHeld (part ∷ parts) (h ∷ hs) = IsHeld part h × AreHeld parts hs
AreHeld [] (h ∷ hs) = ⊥
AreHeld (part ∷ parts) [] = ⊥

-- Each part begins where its bytes do, one behind another from a place on.
abbrev pub BeginsAt : ℕ → Part Fixup → Type 0
BeginsAt at (Field f) = f.at ≡ at
BeginsAt at (Bytes bytes) = Unit {0}
BeginsAt at (Zeros n) = Unit {0}

abbrev pub StandFrom : ℕ → List (Part Fixup) → List Held → Type 0
StandFrom at (part ∷ parts) (h ∷ hs) = BeginsAt at part × StandFrom (at + length (held_bytes h)) parts hs
StandFrom at [] hs = Unit {0}
StandFrom at (part ∷ parts) [] = Unit {0}

pub record IsFilled (row : Plain) (before after : Section Fixup) (operands : List (Part Fixup)) (hs : List Held) : Type 0 where
  pub read_back : IsReadBack row hs
  pub stand : StandFrom (before.size + 1) operands hs
  pub size : after.size ≡ before.size + length (instruction_bytes row.code hs)

-- A section has grown by the opcode of an instruction and by its operands. Whatever numbers their fields come to hold, the bytes are read back as
-- the instruction with these, and the section is as much longer.
pub record HasInstruction (row : Plain) (before after : Section Fixup) : Type 0 where
  pub operands : List (Part Fixup)
  pub parts : after.parts ≡ before.parts ++ Bytes (row.code ∷ []) ∷ operands
  pub filled : (hs : List Held) → AreHeld operands hs → IsFilled row before after operands hs
