-- The addresses of operands that lie in memory.
use Rattle.std.specs.Prelude.{ℕ, ◌*◌, ◌==◌, if◌then◌else◌}
use Rattle.vax_space.specs.declared.Access.TheVariants as access
use Rattle.vax_isa.specs.declared.Letter.{Letter}
use Rattle.vax_isa.specs.declared.Letter.TheVariants.{Modify}
use Rattle.vax_flat.specs.declared.Exception.TheVariants.{Mode}
use Rattle.vax_flat.specs.declared.Form.{Form}
use Rattle.vax_flat.specs.declared.Form.TheVariants.{Literal, Index, Register, Deferred, Decrement, Increment, IncrementDeferred, Displacement, DisplacementDeferred}
use Rattle.vax_flat.specs.declared.Operand.{Operand}
use Rattle.vax_flat.specs.declared.Operand.TheVariants.{Memory}
use Rattle.vax_flat.specs.State.{State, register}
use Rattle.vax_flat.specs.Accesses.{Accesses, Raises, Leaf}
use Rattle.vax_flat.specs.Operand.{form_of, plus, fetched, read_at, check_at, addressed, is_reserved, is_no_base, formed}
use Rattle.vax_flat.specs.Rows.{modify_of, value_at}

-- the address of a form that is no index; one that is reserved or has none raises the reserved addressing mode
unfoldable pub direct : Letter → ℕ → Form → State → (ℕ → State → Accesses Leaf) → Accesses Leaf
direct letter width shape s next = if is_reserved letter shape then Raises Mode else addressed width shape s next

-- the address of a base form, with the operand's width times the index register added
unfoldable pub based : ℕ → ℕ → Form → State → (ℕ → State → Accesses Leaf) → Accesses Leaf
based width x base s next =
    if is_no_base x base then Raises Mode
    else addressed width base s (λ addr s. next (plus addr (width * register s x)) s)

-- the address behind the prefix of an index
unfoldable pub prefixed : ℕ → ℕ → State → (ℕ → State → Accesses Leaf) → Accesses Leaf
prefixed width x s next =
    if x == 15 then Raises Mode else fetched 1 s (λ byte s. based width x (form_of byte) s next)

-- the address of any form
unfoldable pub located : Letter → ℕ → Form → State → (ℕ → State → Accesses Leaf) → Accesses Leaf
located letter width (Literal value) s next = direct letter width (Literal value) s next
located letter width (Index x) s next = prefixed width x s next
located letter width (Register n) s next = direct letter width (Register n) s next
located letter width (Deferred n) s next = direct letter width (Deferred n) s next
located letter width (Decrement n) s next = direct letter width (Decrement n) s next
located letter width (Increment n) s next = direct letter width (Increment n) s next
located letter width (IncrementDeferred n) s next = direct letter width (IncrementDeferred n) s next
located letter width (Displacement bytes n) s next = direct letter width (Displacement bytes n) s next
located letter width (DisplacementDeferred bytes n) s next = direct letter width (DisplacementDeferred bytes n) s next

-- a form of an operand that lies in memory: neither a literal nor a register
abbrev pub IsMemory : Form → Type 0
IsMemory (Literal value) = ⊥
IsMemory (Index x) = Unit {0}
IsMemory (Register n) = ⊥
IsMemory (Deferred n) = Unit {0}
IsMemory (Decrement n) = Unit {0}
IsMemory (Increment n) = Unit {0}
IsMemory (IncrementDeferred n) = Unit {0}
IsMemory (Displacement bytes n) = Unit {0}
IsMemory (DisplacementDeferred bytes n) = Unit {0}

-- the address of an operand that is modified, checked for writing
unfoldable pub checked : ℕ → Form → State → (ℕ → State → Accesses Leaf) → Accesses Leaf
checked width shape s next = located Modify width shape s (λ addr s. check_at addr width access.Write s (λ s. next addr s))

-- the place at such an address, with the value there
unfoldable pub modified_there : ℕ → Form → State → (Operand × ℕ → State → Accesses Leaf) → Accesses Leaf
modified_there width shape s next = checked width shape s (λ addr s. read_at addr width s (λ x s. next (Memory addr, x) s))

-- the place of an operand of any form that is modified, with the value there
unfoldable pub modified : ℕ → Form → State → (Operand × ℕ → State → Accesses Leaf) → Accesses Leaf
modified width shape s next = formed (modify_of width) shape s (λ place s. value_at width place s (λ x s. next (place, x) s))
