-- What the instructions share: their operands' values, results, condition codes, traps and pushes
-- (VAX Architecture Reference Manual, instruction descriptions; arithmetic exceptions).
use Rattle.std.specs.Prelude.{ℕ, ◌+◌, ◌-◌, ◌*◌, ◌/◌, ◌%◌, ◌^◌, Bool, ◌==◌, ◌&&◌, if◌then◌else◌}
use Rattle.vax_word.specs.declared.Codes.{Codes}
use Rattle.vax_word.specs.Status.{codes_of}
use Rattle.vax_isa.specs.declared.OperandKind.{OperandKind}
use Rattle.vax_isa.specs.declared.Letter.TheVariants.{Read, Modify, Write, Address, Branch}
use Rattle.vax_flat.specs.declared.Operand.{Operand}
use Rattle.vax_flat.specs.declared.Operand.TheVariants as operand
use Rattle.vax_flat.specs.declared.Flow.{Flow}
use Rattle.vax_flat.specs.declared.Flow.TheVariants as flow
use Rattle.vax_flat.specs.declared.Trap.TheVariants as trap
use Rattle.vax_flat.specs.State.{State, register, with_register, with_conditions, overflow_enabled}
use Rattle.vax_flat.specs.Accesses.{Accesses, Leaf}
use Rattle.vax_flat.specs.Operand.{next_operand, register_value, plus, read_at, write_at}

abbrev pub read_of : ℕ → OperandKind
read_of width = record { letter = Read; width = width }

abbrev pub modify_of : ℕ → OperandKind
modify_of width = record { letter = Modify; width = width }

abbrev pub write_of : ℕ → OperandKind
write_of width = record { letter = Write; width = width }

abbrev pub address_of : ℕ → OperandKind
address_of width = record { letter = Address; width = width }

abbrev pub branch_of : ℕ → OperandKind
branch_of width = record { letter = Branch; width = width }

-- the value at the place of an operand that is modified
unfoldable pub value_at : ℕ → Operand → State → (ℕ → State → Accesses Leaf) → Accesses Leaf
value_at width (operand.Value x) s next = next 0 s
value_at width (operand.Register n) s next = next (register_value width n s) s
value_at width (operand.Memory addr) s next = read_at addr width s next
value_at width (operand.FieldRegister n) s next = next 0 s
value_at width (operand.Target addr) s next = next 0 s

-- A value in a register: a byte or a word leaves the other bits, and a quadword fills the next register too.
unfoldable pub with_value : ℕ → ℕ → ℕ → State → State
with_value width n value s =
    if width == 8 then with_register (with_register s n (value % 2 ^ 32)) (n + 1) (value / 2 ^ 32)
    else if width == 4 then with_register s n value
    else with_register s n (register s n / 256 ^ width * 256 ^ width + value)

-- a value written to an operand
unfoldable pub stored : ℕ → Operand → ℕ → State → (State → Accesses Leaf) → Accesses Leaf
stored width (operand.Value x) value s next = next s
stored width (operand.Register n) value s next = next (with_value width n value s)
stored width (operand.Memory addr) value s next = write_at addr width value s next
stored width (operand.FieldRegister n) value s next = next s
stored width (operand.Target addr) value s next = next s

-- the value of an operand that is read
unfoldable pub value_of : Operand → ℕ
value_of (operand.Value x) = x
value_of (operand.Register n) = 0
value_of (operand.Memory addr) = 0
value_of (operand.FieldRegister n) = 0
value_of (operand.Target addr) = 0

-- the address of an operand in memory, or that a branch goes to
unfoldable pub address_in : Operand → ℕ
address_in (operand.Value x) = 0
address_in (operand.Register n) = 0
address_in (operand.Memory addr) = addr
address_in (operand.FieldRegister n) = 0
address_in (operand.Target addr) = addr

-- an operand that is read, and its value
unfoldable pub read_value : ℕ → State → (ℕ → State → Accesses Leaf) → Accesses Leaf
read_value width s next = next_operand (read_of width) s (λ o s. next (value_of o) s)

-- an operand that is modified: its place, with the value there
unfoldable pub modify_value : ℕ → State → (Operand × ℕ → State → Accesses Leaf) → Accesses Leaf
modify_value width s next = next_operand (modify_of width) s (λ place s. value_at width place s (λ x s. next (place, x) s))

-- an operand that is written: its place
unfoldable pub write_place : ℕ → State → (Operand → State → Accesses Leaf) → Accesses Leaf
write_place width s next = next_operand (write_of width) s next

-- an operand of which the address is taken
unfoldable pub address_value : ℕ → State → (ℕ → State → Accesses Leaf) → Accesses Leaf
address_value width s next = next_operand (address_of width) s (λ o s. next (address_in o) s)

-- where a branch goes
unfoldable pub branch_target : ℕ → State → (ℕ → State → Accesses Leaf) → Accesses Leaf
branch_target width s next = next_operand (branch_of width) s (λ o s. next (address_in o) s)

-- the carry as it was
abbrev pub carry_of : State → Bool
carry_of s = (codes_of s.core.psl).c

-- the arithmetic trap that follows a result, if one does: by a divisor of 0, or by an overflow where that is enabled
unfoldable pub flow_of : Bool → Codes → State → Flow
flow_of by_zero codes s = if by_zero then flow.Trap trap.IntegerDivide else if codes.v && overflow_enabled s then flow.Trap trap.IntegerOverflow else flow.Done

-- the codes are set, and a trap may follow
unfoldable pub settled : Bool → Codes → State → (Flow → State → Accesses Leaf) → Accesses Leaf
settled by_zero codes s next = next (flow_of by_zero codes s) (with_conditions s codes)

-- a result is written and its codes are set
unfoldable pub answered : ℕ → Operand → Bool → ℕ × Codes → State → (Flow → State → Accesses Leaf) → Accesses Leaf
answered width place by_zero result s next = stored width place result.0 s (λ s. settled by_zero result.1 s next)

-- a longword is pushed onto the stack in use
unfoldable pub pushed : ℕ → State → (State → Accesses Leaf) → Accesses Leaf
pushed value s next =
    write_at (plus (register s 14) (2 ^ 32 - 4)) 4 value s (λ after. next (with_register after 14 (plus (register s 14) (2 ^ 32 - 4))))
