-- What an instruction's bytes are listed as.
use Rattle.std.specs.Prelude.{◌≡◌, ℕ, ◌+◌, ◌++◌, List, [], ◌∷◌, Option, Some, None, option_map}
use Rattle.vax_isa.specs.Instructions.{Instruction}
use Rattle.vax_isa.specs.Rows.{with_opcode}
use Rattle.vax_flat.specs.Grammar.{Sequence, End, ReservedHere, Next, read_operands, total, IsInstruction}
use Rattle.vax_disasm.specs.Text.{operands_text, instruction_text}

-- an instruction: how many bytes it has, and its text
pub record Listing : Type 0 where
  pub length : ℕ
  pub text : List ℕ

-- operands of which none has a reserved addressing mode
abbrev pub is_unreserved : Sequence → Option Sequence
is_unreserved End = Some End
is_unreserved (ReservedHere count) = None
is_unreserved (Next kind specifier count rest) = option_map (Next kind specifier count) (is_unreserved rest)

abbrev pub unreserved : Option Sequence → Option Sequence
unreserved (Some operands) = is_unreserved operands
unreserved None = None

abbrev pub listing : (addr : ℕ) → Instruction → Sequence → Listing
listing addr row operands = record { length = 1 + total operands; text = instruction_text addr row operands }

abbrev pub listed_row : (addr : ℕ) → Option Instruction → List ℕ → Option Listing
listed_row addr None bytes = None
listed_row addr (Some row) bytes = option_map (listing addr row) (unreserved (read_operands row.operands bytes))

-- The instruction that the first of these bytes are, which lie at this address. There is none where the first byte is no opcode, where the
-- bytes end too early, or where an operand has a reserved addressing mode.
unfoldable pub listed : List ℕ → (addr : ℕ) → Option Listing
listed [] addr = None
listed (opcode ∷ bytes) addr = listed_row addr (with_opcode opcode) bytes

-- a listing that this much text and so many bytes stand before, with operands still to come
abbrev pub behind : (length : ℕ) → (text : List ℕ) → (separator addr : ℕ) → Sequence → Listing
behind length text separator addr operands = record { length = length + total operands; text = text ++ operands_text separator (addr + length) operands }

abbrev pub with_length : (text : List ℕ) → (length : ℕ) → Listing
with_length text length = record { length = length; text = text }

-- None exactly where no instruction begins the bytes; else the text is that of the instruction which is there, and of so many bytes
abbrev pub IsDecoded : List ℕ → (addr : ℕ) → Option Listing → Type 0
IsDecoded bytes addr None = (row : Instruction) (operands : Sequence) (count : ℕ) → IsInstruction bytes row operands count → ⊥
IsDecoded bytes addr (Some l) = (row : Instruction) × (operands : Sequence) × IsInstruction bytes row operands l.length × (l.text ≡ instruction_text addr row operands)
