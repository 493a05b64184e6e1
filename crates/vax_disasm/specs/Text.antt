-- The text of operands and instructions (VAX MACRO and Instruction Set Reference Manual, "Addressing modes").
use Rattle.std.specs.Prelude.{ℕ, ◌+◌, ◌-◌, ◌*◌, ◌^◌, ◌==◌, nat_lt, if◌then◌else◌, List, [], ◌∷◌, ◌++◌, codes, decimal}
use Rattle.vax_outside.specs.Hex.{hex}
use Rattle.vax_isa.specs.declared.OperandKind.{OperandKind}
use Rattle.vax_isa.specs.Instructions.{Instruction}
use Rattle.vax_flat.specs.Operand.{plus}
use Rattle.vax_flat.specs.Grammar.{Place, Deferred, Decrement, Increment, IncrementDeferred, Absolute, Displaced, DisplacedDeferred, Specifier, Literal, Register, Immediate, InMemory, Indexed, BranchBy, Sequence, End, ReservedHere, Next}

-- R0 to R11, AP, FP, SP and PC
unfoldable pub register_name : ℕ → List ℕ
register_name n =
    if n == 12 then codes "AP"
    else (if n == 13 then codes "FP"
    else (if n == 14 then codes "SP"
    else (if n == 15 then codes "PC"
    else codes "R" ++ decimal n)))

-- (Rn)
unfoldable pub enclosed : ℕ → List ℕ
enclosed n = codes "(" ++ register_name n ++ codes ")"

-- a signed number of 32 bits, in decimal
unfoldable pub signed : ℕ → List ℕ
signed n = if nat_lt n (2 ^ 31) then decimal n else codes "-" ++ decimal (2 ^ 32 - n)

-- the letter of a displacement of 1, 2 or 4 bytes
abbrev pub size_letter : ℕ → List ℕ
size_letter width = if width == 1 then codes "B" else (if width == 2 then codes "W" else codes "L")

-- a displacement of so many bytes, and the register that it is from
unfoldable pub displaced : ℕ → ℕ → ℕ → List ℕ
displaced width displacement n = size_letter width ++ codes "^" ++ signed displacement ++ enclosed n

unfoldable pub place_text : Place → List ℕ
place_text (Deferred n) = enclosed n
place_text (Decrement n) = codes "-" ++ enclosed n
place_text (Increment n) = enclosed n ++ codes "+"
place_text (IncrementDeferred n) = codes "@" ++ enclosed n ++ codes "+"
place_text (Absolute addr) = codes "@#^X" ++ hex 8 addr
place_text (Displaced width displacement n) = displaced width displacement n
place_text (DisplacedDeferred width displacement n) = codes "@" ++ displaced width displacement n

-- an operand of a kind, which ends in front of this address
unfoldable pub specifier_text : OperandKind → (next : ℕ) → Specifier → List ℕ
specifier_text kind next (Literal value) = codes "S^#^X" ++ hex 2 value
specifier_text kind next (Register n) = register_name n
specifier_text kind next (Immediate value) = codes "I^#^X" ++ hex (2 * kind.width) value
specifier_text kind next (InMemory place) = place_text place
specifier_text kind next (Indexed place x) = place_text place ++ codes "[" ++ register_name x ++ codes "]"
specifier_text kind next (BranchBy displacement) = codes "^X" ++ hex 8 (plus next displacement)

-- operands from this address on: a separator before the first, and a comma before each other
unfoldable pub operands_text : (separator at : ℕ) → Sequence → List ℕ
operands_text separator at End = []
operands_text separator at (ReservedHere count) = []
operands_text separator at (Next kind specifier count rest) =
    separator ∷ specifier_text kind (at + count) specifier ++ operands_text 44 (at + count) rest

-- the instruction at this address: its name, and behind a space its operands with commas between them
unfoldable pub instruction_text : (addr : ℕ) → Instruction → Sequence → List ℕ
instruction_text addr row operands = row.name ++ operands_text 32 (addr + 1) operands
