-- What the laws of the flat machine are about, so that each of them reads as one sentence.
use Rattle.std.specs.Prelude.{◌≡◌, ℕ, ◌^◌, ◌<◌, ◌%◌, Bool, Option, Some, List, [], ◌∷◌, ◌++◌, length, reverse}
use Rattle.vax_space.specs.declared.Area.{Area}
use Rattle.vax_isa.specs.Instructions.{Instruction}
use Rattle.vax_flat.specs.declared.Delivery.{Delivery}
use Rattle.vax_flat.specs.declared.Flow.{Flow}
use Rattle.vax_flat.specs.declared.Flow.TheVariants.{Done}
use Rattle.vax_flat.specs.declared.Operand.{Operand}
use Rattle.vax_flat.specs.Memory.{IsWhole}
use Rattle.vax_flat.specs.State.{State, register, with_psl, with_register}
use Rattle.vax_flat.specs.Accesses.{Accesses, Leaf}
use Rattle.vax_flat.specs.Outcome.{outcome_of, touches_of, first_missing}
use Rattle.vax_flat.specs.Port.{View}
use Rattle.vax_flat.specs.OverPort.{Agrees, over_port}
use Rattle.vax_flat.specs.Operand.{plus}
use Rattle.vax_flat.specs.Call.{behind_arguments, frame, frame_word, return_status}
use Rattle.vax_flat.specs.Returned.{AreThere, behind, with_caller}
use Rattle.vax_flat.specs.System.{unless_privileged}
use Rattle.vax_flat.specs.Quiet.{RaisesNothing}
use Rattle.vax_flat.specs.Step.{leaf}
use Rattle.vax_flat.specs.Grammar.{Sequence, IsInstruction}
use Rattle.vax_flat.specs.Evaluation.{AreAhead, DoSame, all_come_to, passed}

-- what follows, by what was given and the state behind it
abbrev pub Following : Type 0 → Type 0
Following X = X → State → Accesses Leaf

-- What a tree comes to over a port is decided by the first absent page of its touches on a memory, and else by its outcome there.
abbrev pub Arrives : Accesses Leaf → View → List Area → Type 0
Arrives tree view memory =
    Agrees view memory (over_port tree view) (first_missing view.resident (touches_of tree memory)) (outcome_of tree memory)

-- ---- Operands by the grammar

-- the bytes at PC are read as this
pub record IsAhead {R : Type 0} (memory : List Area) (s : State) (read : List ℕ → Option R) (found : R) : Type 0 where
  pub bytes : List ℕ
  pub ahead : AreAhead memory s bytes
  pub reads : read bytes ≡ Some found

-- the bytes at PC are an instruction of this row, with these operands
pub record IsInstructionAhead (memory : List Area) (s : State) (row : Instruction) (operands : Sequence) : Type 0 where
  pub bytes : List ℕ
  pub count : ℕ
  pub ahead : AreAhead memory s bytes
  pub is : IsInstruction bytes row operands count

-- two ways to a value do the same on a memory, whatever follows
abbrev pub AreAlike : {X : Type 0} → List Area → (way other : Following X → Accesses Leaf) → Type 0
AreAlike memory way other = (next : _) → DoSame memory (way next) (other next)

-- the same way behind the opcode
abbrev pub behind_opcode : {X : Type 0} → (State → Following X → Accesses Leaf) → State → Following X → Accesses Leaf
behind_opcode way s next = passed (1 ∷ []) s (λ t. way t next)

-- what an action does by its operands as they were read, by the part that is its own
abbrev pub acts_on : Bool → (State → List (Operand × ℕ) → State → Following Flow → Accesses Leaf) → Sequence → State → Following Flow → Accesses Leaf
acts_on privileged rest operands s next =
    unless_privileged privileged s (all_come_to operands s (λ xs t. rest s xs t next))

-- a reading rests on the bytes at the front alone
abbrev pub RestsOnFront : {R : Type 0} → (List ℕ → Option R) → Type 0
RestsOnFront read = (bytes more : List ℕ) (found : _) → read bytes ≡ Some found → read (bytes ++ more) ≡ Some found

-- ---- Deliveries

-- what follows a delivery raises no exception
abbrev pub RaisesNothingBehind : Following Delivery → Type 0
RaisesNothingBehind next = (how : Delivery) (t : State) → RaisesNothing (next how t)

-- ---- Frames

-- a frame as a call makes it: its entry mask, the address below which it is pushed, whether the arguments are on the stack, and the caller's state
pub record Frame : Type 0 where
  pub mask : ℕ
  pub top : ℕ
  pub on_stack : Bool
  pub caller : State

-- the longword that says how it was made
abbrev pub word_of : Frame → ℕ
word_of f = frame_word (f.top % 4) f.on_stack f.mask f.caller.core.psl

-- its longwords, from the one that ends highest down
abbrev pub longwords : Frame → List ℕ
longwords f = frame f.mask (word_of f) f.caller

-- its longwords stand in memory one above the other, where a mode may read them
abbrev pub IsFrameAt : List Area → (mode addr : ℕ) → Frame → Type 0
IsFrameAt memory mode addr f = AreThere memory mode addr (reverse (longwords f))

-- memory and registers in which it is pushed are a machine's
pub record IsPushed (memory : List Area) (f : Frame) : Type 0 where
  pub areas : IsWhole memory
  pub registers : length f.caller.core.regs ≡ 16
  pub words : (n : ℕ) → register f.caller n < 2 ^ 32
  pub address : f.top < 2 ^ 32

-- the address below which it was pushed, by FP
abbrev pub top_of : Frame → State → ℕ
top_of f s = plus (behind (length (longwords f)) (register s 13)) (f.top % 4)

-- the caller goes on: its registers and status are as they were, and SP is behind the frame and the arguments
abbrev pub caller_goes_on : Frame → State → Accesses Leaf
caller_goes_on f s =
    behind_arguments f.on_stack (top_of f s) (with_caller f.mask f.caller s)
    (λ top t. leaf Done (with_psl (with_register t 14 top) (return_status (word_of f) t.core.psl)))
