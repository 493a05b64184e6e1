-- Operands that lie in memory, by their addresses.
use Rattle.std.proofs.Common.{◌≡◌, ℕ, refl}
use Rattle.vax_isa.specs.declared.OperandKind.{OperandKind}
use Rattle.vax_isa.specs.declared.Letter.TheVariants.{Read, Write}
use Rattle.vax_flat.specs.declared.Operand.{Operand}
use Rattle.vax_flat.specs.declared.Operand.TheVariants.{Memory}
use Rattle.vax_flat.specs.declared.Form.{Form}
use Rattle.vax_flat.specs.declared.Form.TheVariants.{Literal, Index, Register, Deferred, Decrement, Increment, IncrementDeferred, Displacement, DisplacementDeferred}
use Rattle.vax_flat.specs.State.{State}
use Rattle.vax_flat.specs.Accesses.{Accesses, Leaf}
use Rattle.vax_flat.specs.Operand.{formed, in_memory, indexed, after_prefix, at_address, read_at}
use Rattle.vax_flat.specs.Rows.{read_of, modify_of, write_of, value_of, value_at}
use Rattle.vax_operand.specs.Addressed.{located, direct, based, prefixed, checked, modified, modified_there, IsMemory}

-- an operand in memory is what lies at its address
pub formed_located : (kind : OperandKind) (shape : Form) (s : State) (next : Operand → State → Accesses Leaf) → IsMemory shape → formed kind shape s next ≡ located kind.letter kind.width shape s (λ addr s. at_address kind addr s next)
unfolding formed in_memory after_prefix indexed located direct prefixed based
formed_located kind (Literal value) s next m = absurd m
formed_located kind (Index x) s next m = refl
formed_located kind (Register n) s next m = absurd m
formed_located kind (Deferred n) s next m = refl
formed_located kind (Decrement n) s next m = refl
formed_located kind (Increment n) s next m = refl
formed_located kind (IncrementDeferred n) s next m = refl
formed_located kind (Displacement bytes n) s next m = refl
formed_located kind (DisplacementDeferred bytes n) s next m = refl

-- one that is read is read there
pub value_located : (width : ℕ) (shape : Form) (s : State) (next : ℕ → State → Accesses Leaf) → IsMemory shape → formed (read_of width) shape s (λ o s. next (value_of o) s) ≡ located Read width shape s (λ addr s. read_at addr width s next)
unfolding at_address value_of
value_located width shape s next m = formed_located (read_of width) shape s (λ o s. next (value_of o) s) m

-- one that is modified is checked for writing, and read
pub modified_located : (width : ℕ) (shape : Form) (s : State) (next : Operand × ℕ → State → Accesses Leaf) → IsMemory shape → modified width shape s next ≡ modified_there width shape s next
unfolding modified modified_there checked at_address value_at
modified_located width shape s next m = formed_located (modify_of width) shape s (λ place s. value_at width place s (λ x s. next (place, x) s)) m

-- one that is written is its place
pub place_located : (width : ℕ) (shape : Form) (s : State) (next : Operand → State → Accesses Leaf) → IsMemory shape → formed (write_of width) shape s next ≡ located Write width shape s (λ addr s. next (Memory addr) s)
unfolding at_address
place_located width shape s next m = formed_located (write_of width) shape s next m
