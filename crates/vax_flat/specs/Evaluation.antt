-- What operands come to that the grammar has read, from left to right (VAX Architecture Reference Manual, operand specifiers).
use Rattle.std.specs.Prelude.{◌≡◌, ℕ, Bool, ◌-◌, ◌*◌, ◌^◌, ◌<◌, if◌then◌else◌, Option, Some, None, List, [], ◌∷◌, length, replicate}
use Rattle.vax_space.specs.declared.Area.{Area}
use Rattle.vax_isa.specs.declared.OperandKind.{OperandKind}
use Rattle.vax_isa.specs.declared.Letter.TheVariants as letter
use Rattle.vax_isa.specs.Instructions.{Instruction}
use Rattle.vax_isa.specs.Rows.{with_opcode}
use Rattle.vax_flat.specs.declared.Exception.TheVariants.{Mode}
use Rattle.vax_flat.specs.declared.Operand.{Operand}
use Rattle.vax_flat.specs.declared.Operand.TheVariants as operand
use Rattle.vax_flat.specs.declared.Flow.{Flow}
use Rattle.vax_flat.specs.Memory.{byte_at, bytes_from}
use Rattle.vax_flat.specs.State.{State, register, with_register}
use Rattle.vax_flat.specs.Accesses.{Accesses, Raises, Leaf}
use Rattle.vax_flat.specs.Outcome.{outcome_of, touches_of}
use Rattle.vax_flat.specs.Operand.{plus, read_at, fetched, at_address, in_register, next_operand}
use Rattle.vax_flat.specs.Rows.{value_at, value_of}
use Rattle.vax_flat.specs.System.{unless_privileged}
use Rattle.vax_flat.specs.Grammar.{Place, Deferred, Decrement, Increment, IncrementDeferred, Absolute, Displaced, DisplacedDeferred, Specifier, Literal, Register, Immediate, InMemory, Indexed, BranchBy, Reading, Reads, Reserved, Sequence, End, ReservedHere, Next, is_read}

-- the pieces in which what follows the specifier byte is read
unfoldable pub place_pieces : Place → List ℕ
place_pieces (Deferred n) = []
place_pieces (Decrement n) = []
place_pieces (Increment n) = []
place_pieces (IncrementDeferred n) = []
place_pieces (Absolute addr) = 4 ∷ []
place_pieces (Displaced width displacement n) = width ∷ []
place_pieces (DisplacedDeferred width displacement n) = width ∷ []

-- The pieces in which an operand's bytes are read. An immediate of which the address is taken isn't read.
unfoldable pub pieces : OperandKind → Specifier → List ℕ
pieces kind (Literal value) = 1 ∷ []
pieces kind (Register n) = 1 ∷ []
pieces kind (Immediate value) = if is_read kind.letter then 1 ∷ kind.width ∷ [] else 1 ∷ []
pieces kind (InMemory place) = 1 ∷ place_pieces place
pieces kind (Indexed place x) = 1 ∷ 1 ∷ place_pieces place
pieces kind (BranchBy displacement) = kind.width ∷ []

-- pieces of the instruction are read, and PC is moved past them
unfoldable pub passed : List ℕ → State → (State → Accesses Leaf) → Accesses Leaf
passed [] s next = next s
passed (width ∷ widths) s next = fetched width s (λ value s. passed widths s next)

-- the address of a place, with what that does to a register
unfoldable pub place_address : ℕ → Place → State → (ℕ → State → Accesses Leaf) → Accesses Leaf
place_address width (Deferred n) s next = next (register s n) s
place_address width (Decrement n) s next =
    next (plus (register s n) (2 ^ 32 - width)) (with_register s n (plus (register s n) (2 ^ 32 - width)))
place_address width (Increment n) s next = next (register s n) (with_register s n (plus (register s n) width))
place_address width (IncrementDeferred n) s next =
    read_at (register s n) 4 s (λ pointer s. next pointer (with_register s n (plus (register s n) 4)))
place_address width (Absolute addr) s next = next addr s
place_address width (Displaced bytes displacement n) s next = next (plus (register s n) displacement) s
place_address width (DisplacedDeferred bytes displacement n) s next =
    read_at (plus (register s n) displacement) 4 s next

-- PC moved past so many bytes
abbrev pub past : ℕ → State → State
past count s = with_register s 15 (plus (register s 15) count)

-- an immediate is its value where it is read, and else the address of its bytes, at which PC is
unfoldable pub immediate : OperandKind → ℕ → State → (Operand → State → Accesses Leaf) → Accesses Leaf
immediate kind value s next =
    if is_read kind.letter then next (operand.Value value) s
    else at_address kind (register s 15) (past kind.width s) next

-- what an operand comes to, from the state in which its pieces are read
unfoldable pub evaluated : OperandKind → Specifier → State → (Operand → State → Accesses Leaf) → Accesses Leaf
evaluated kind (Literal value) s next = next (operand.Value value) s
evaluated kind (Register n) s next = in_register kind n s next
evaluated kind (Immediate value) s next = immediate kind value s next
evaluated kind (InMemory place) s next = place_address kind.width place s (λ addr s. at_address kind addr s next)
evaluated kind (Indexed place x) s next =
    place_address kind.width place s (λ addr s. at_address kind (plus addr (kind.width * register s x)) s next)
evaluated kind (BranchBy displacement) s next = next (operand.Target (plus (register s 15) displacement)) s

-- what bytes at PC come to as an operand
unfoldable pub comes_to : OperandKind → Reading → State → (Operand → State → Accesses Leaf) → Accesses Leaf
comes_to kind (Reads specifier count) s next =
    passed (pieces kind specifier) s (λ s. evaluated kind specifier s next)
comes_to kind (Reserved count) s next = passed (replicate count 1) s (λ s. Raises Mode)

-- an operand as an instruction takes it: with its value, if it is read or modified, which is read before the operand behind it
unfoldable pub taken : OperandKind → Operand → State → (Operand × ℕ → State → Accesses Leaf) → Accesses Leaf
taken kind o s next = elim kind.letter [
  | letter.Read ↦ next (o, value_of o) s
  | letter.Modify ↦ value_at kind.width o s (λ x s. next (o, x) s)
  | letter.Write ↦ next (o, 0) s
  | letter.Address ↦ next (o, 0) s
  | letter.Field ↦ next (o, 0) s
  | letter.Branch ↦ next (o, 0) s
]

-- what bytes at PC come to as operands, from left to right
unfoldable pub all_come_to : Sequence → State → (List (Operand × ℕ) → State → Accesses Leaf) → Accesses Leaf
all_come_to End s next = next [] s
all_come_to (ReservedHere count) s next = passed (replicate count 1) s (λ s. Raises Mode)
all_come_to (Next kind specifier count rest) s next =
    passed (pieces kind specifier) s (λ s.
    evaluated kind specifier s (λ o s.
    taken kind o s (λ x s.
    all_come_to rest s (λ xs s. next (x ∷ xs) s))))

-- the machine's own way to operands of these kinds
unfoldable pub next_operands : List OperandKind → State → (List (Operand × ℕ) → State → Accesses Leaf) → Accesses Leaf
next_operands [] s next = next [] s
next_operands (kind ∷ kinds) s next =
    next_operand kind s (λ o s.
    taken kind o s (λ x s.
    next_operands kinds s (λ xs s. next (x ∷ xs) s)))

-- the operands that an opcode lists
abbrev pub kinds_of : Option Instruction → List OperandKind
kinds_of None = []
kinds_of (Some row) = row.operands

-- the machine's own way to an opcode and its operands
unfoldable pub next_instruction : State → (List (Operand × ℕ) → State → Accesses Leaf) → Accesses Leaf
next_instruction s next = fetched 1 s (λ opcode s. next_operands (kinds_of (with_opcode opcode)) s next)

-- these bytes stand at PC, in a state with the registers of a core
pub record AreAhead (memory : List Area) (s : State) (bytes : List ℕ) : Type 0 where
  pub registers : length s.core.regs ≡ 16
  pub pc : register s 15 < 2 ^ 32
  pub are : bytes_from (byte_at memory) (register s 15) (length bytes) ≡ bytes

-- on this memory two trees come to the same end and touch the same ranges
pub record DoSame (memory : List Area) (tree other : Accesses Leaf) : Type 0 where
  pub outcome : outcome_of tree memory ≡ outcome_of other memory
  pub touches : touches_of tree memory ≡ touches_of other memory

-- A tree that goes from operand to operand of these kinds, and behind the last has a part of its own, by the state before the operands, the
-- operands and the state behind them. A privileged one does so in kernel mode alone, and takes no operand elsewhere.
pub record Takes (privileged : Bool) (kinds : List OperandKind) (tree : State → (Flow → State → Accesses Leaf) → Accesses Leaf) : Type 0 where
  pub rest : State → List (Operand × ℕ) → State → (Flow → State → Accesses Leaf) → Accesses Leaf
  pub takes : (s : State) (next : Flow → State → Accesses Leaf) → tree s next ≡ unless_privileged privileged s (next_operands kinds s (λ xs t. rest s xs t next))
