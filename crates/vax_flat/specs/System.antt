-- Instructions on access modes, exceptions and the processor's registers (VAX Architecture Reference Manual, instruction descriptions).
use Rattle.std.specs.Prelude.{ℕ, ◌+◌, ◌-◌, ◌*◌, ◌/◌, ◌%◌, ◌^◌, Bool, true, false, not, ◌==◌, ◌&&◌, ◌||◌, nat_lt, nat_le, max, if◌then◌else◌, Option, Some, None, is_some, slice_index}
use Rattle.std.specs.Int.Bits.{bit_and, bit_or}
use Rattle.std.specs.Int.{from_bool}
use Rattle.vax_word.specs.declared.Psl.{Psl}
use Rattle.vax_word.specs.declared.Size.TheVariants.{L}
use Rattle.vax_word.specs.Arithmetic.{answer}
use Rattle.vax_word.specs.Status.{field, is_one, mode_of, prev_of, ipl_of}
use Rattle.vax_space.specs.declared.Access.{Access}
use Rattle.vax_space.specs.declared.Access.TheVariants as access
use Rattle.vax_isa.specs.declared.actions.AccessMode.{AccessMode}
use Rattle.vax_isa.specs.declared.actions.System.{System}
use Rattle.vax_isa.specs.declared.actions.System.TheVariants as system
use Rattle.vax_flat.specs.declared.Exception.TheVariants.{Privileged, Customer, Operand, Breakpoint}
use Rattle.vax_flat.specs.declared.Delivery.{Delivery}
use Rattle.vax_flat.specs.declared.Delivery.TheVariants.{Entered, Ended}
use Rattle.vax_flat.specs.declared.Flow.{Flow}
use Rattle.vax_flat.specs.declared.Flow.TheVariants as flow
use Rattle.vax_flat.specs.declared.Ending.TheVariants as ending
use Rattle.vax_flat.specs.State.{State, register, with_register, mode, with_psl, with_conditions, with_stack, with_requests, with_timer, with_clock, with_taken, with_sent, next_input}
use Rattle.vax_flat.specs.Accesses.{Accesses, Raises, Leaf}
use Rattle.vax_flat.specs.Operand.{plus, read_at, asked}
use Rattle.vax_flat.specs.Rows.{read_value, write_place, address_value, stored, carry_of}
use Rattle.vax_flat.specs.Delivery.{on_interrupt_stack, stack_in_use, switched, at_handler, change_mode}

-- the instructions for kernel mode alone: in another mode they are privileged, which the opcode decides
abbrev pub is_for_kernel : System → Bool
is_for_kernel system.Halt = true
is_for_kernel system.NoOperation = false
is_for_kernel system.Breakpoint = false
is_for_kernel system.Customer = false
is_for_kernel system.Return = false
is_for_kernel (system.ChangeMode target) = false
is_for_kernel (system.Probe writing) = false
is_for_kernel system.ToRegister = true
is_for_kernel system.FromRegister = true
is_for_kernel system.MoveStatus = false
is_for_kernel system.SetStatus = false
is_for_kernel system.ClearStatus = false

-- a privileged instruction raises its exception before any operand is read
abbrev pub unless_privileged : Bool → State → Accesses Leaf → Accesses Leaf
unless_privileged true s tree = if mode s == 0 then tree else Raises Privileged
unless_privileged false s tree = tree

-- HALT, in kernel mode alone
unfoldable pub halt : State → (Flow → State → Accesses Leaf) → Accesses Leaf
halt s next = if mode s == 0 then next (flow.Ended ending.Halt) s else Raises Privileged

-- how an instruction went that delivers itself
abbrev pub flow_of_delivery : Delivery → Flow
flow_of_delivery Entered = flow.Done
flow_of_delivery (Ended e) = flow.Ended e

-- REI

-- bits that a status can't have: those that must be zero, trace, trace pending, first part done and compatibility mode
abbrev pub has_reserved_bits : ℕ → Bool
has_reserved_bits bits =
    not (field bits 8 8 == 0) || (is_one bits 21 || (not (field bits 28 4 == 0) || (is_one bits 4 || is_one bits 27)))

-- one of mode, stack and priority that may not go with the others, or with the present ones
unfoldable pub is_refused : Psl → Psl → Bool
is_refused old new =
    nat_lt (mode_of new) (mode_of old)
    || ((on_interrupt_stack new && not (on_interrupt_stack old))
    || ((on_interrupt_stack new && (not (mode_of new == 0) || ipl_of new == 0))
    || ((nat_lt 0 (ipl_of new) && not (mode_of new == 0))
    || (nat_lt (prev_of new) (mode_of new)
    || (nat_lt (ipl_of old) (ipl_of new)
    || has_reserved_bits new.0)))))

-- two longwords above, on the stack of the new status
abbrev pub restored : ℕ → Psl → State → State
restored pc psl s =
    at_handler pc psl (switched (stack_in_use s.core.psl) (stack_in_use psl) (with_register s 14 (plus (register s 14) 8)))

unfoldable pub return_from : ℕ → Psl → State → (Flow → State → Accesses Leaf) → Accesses Leaf
return_from pc psl s next = if is_refused s.core.psl psl then Raises Operand else next flow.Done (restored pc psl s)

unfoldable pub return_exception : State → (Flow → State → Accesses Leaf) → Accesses Leaf
return_exception s next =
    read_at (register s 14) 4 s (λ pc s.
    read_at (plus (register s 14) 4) 4 s (λ bits s.
    return_from pc (record { 0 = bits }) s next))

-- CHMK, CHME, CHMS, CHMU
unfoldable pub change_of_mode : AccessMode → State → (Flow → State → Accesses Leaf) → Accesses Leaf
change_of_mode target s next = read_value 2 s (λ code s. change_mode target code s (λ how s. next (flow_of_delivery how) s))

-- PROBER, PROBEW: whether the first and the last byte may be used so by the less privileged of the mode named and the previous one

abbrev pub accessing : Bool → Access
accessing false = access.Read
accessing true = access.Write

abbrev pub with_probed : Bool → State → State
with_probed allowed s = with_conditions s (record { n = false; z = not allowed; v = false; c = carry_of s })

unfoldable pub probed : Bool → ℕ → ℕ → ℕ → State → (Flow → State → Accesses Leaf) → Accesses Leaf
probed writing mode length base s next =
    asked base 1 mode (accessing writing) s (λ first s.
    asked (plus base (length + (2 ^ 32 - 1))) 1 mode (accessing writing) s (λ last s.
    next flow.Done (with_probed (first && last) s)))

unfoldable pub probe : Bool → State → (Flow → State → Accesses Leaf) → Accesses Leaf
probe writing s next =
    read_value 1 s (λ named s.
    read_value 2 s (λ length s.
    address_value 1 s (λ base s.
    probed writing (max (named % 4) (prev_of s.core.psl)) length base s next)))

-- the registers of the processor, by their numbers: 0 to 4 the stack pointers, 18 the priority, 20 and 21 the requests of software interrupts,
-- 24 the interval clock, 32 and 33 the console's input, 34 and 35 its output, 57 and 58 the translation buffer, of which nothing is seen

-- the pointer of the stack in use is SP
unfoldable pub pointer : ℕ → State → ℕ
pointer n s = if n == stack_in_use s.core.psl then register s 14 else slice_index s.core.stacks n

unfoldable pub with_pointer : ℕ → ℕ → State → State
with_pointer n value s = if n == stack_in_use s.core.psl then with_register s 14 value else with_stack s n value

abbrev pub with_priority : ℕ → State → State
with_priority level s = with_psl s (record { 0 = s.core.psl.0 - 2 ^ 16 * ipl_of s.core.psl + 2 ^ 16 * level })

-- a software interrupt is requested; there is none at level 0
unfoldable pub requested : ℕ → State → State
requested level s = if level == 0 then s else with_requests s (bit_or s.core.sisr (2 ^ level))

-- the clock is turned on or off by bit 6, its request is taken back by bit 7, and its count begins anew
unfoldable pub clock_set : ℕ → State → State
clock_set value s =
    with_clock (with_timer s (2 ^ 6 * from_bool (is_one value 6) + 2 ^ 7 * from_bool (is_one s.core.iccs 7 && not (is_one value 7)))) 0

-- MTPR behind its operands. The clock doesn't count a step that sets it.
unfoldable pub set_processor : ℕ → ℕ → State → (Flow → State → Accesses Leaf) → Accesses Leaf
set_processor number value s next =
    if nat_le number 4 then next flow.Done (with_pointer number value s)
    else if number == 18 then next flow.Done (with_priority (value % 2 ^ 5) s)
    else if number == 20 then next flow.Done (requested (value % 2 ^ 4) s)
    else if number == 21 then next flow.Done (with_requests s (value % 2 ^ 16 / 2 * 2))
    else if number == 24 then next flow.Clocked (clock_set value s)
    else if number == 35 then next flow.Done (with_sent s (Some (value % 2 ^ 8)))
    else if number == 32 || (number == 34 || (number == 57 || number == 58)) then next flow.Done s
    else Raises Operand

-- a value that is moved sets N and Z
abbrev pub with_moved : ℕ → State → State
with_moved value s = with_conditions s (answer L value false (carry_of s)).1

unfoldable pub to_register : State → (Flow → State → Accesses Leaf) → Accesses Leaf
to_register s next =
    read_value 4 s (λ value s.
    read_value 4 s (λ number s.
    set_processor number value (with_moved value s) next))

-- MFPR, in kernel mode alone

-- the next byte of the console's input, or 0, and the state once it is taken
abbrev pub input_byte : Option ℕ → ℕ
input_byte None = 0
input_byte (Some byte) = byte

abbrev pub input_after : Option ℕ → State → State
input_after None s = s
input_after (Some byte) s = with_taken s (s.taken + 1)

abbrev pub input_ready : Option ℕ → ℕ
input_ready byte = if is_some byte then 2 ^ 7 else 0

-- the value of a register of the processor
unfoldable pub get_processor : ℕ → State → (ℕ → State → Accesses Leaf) → Accesses Leaf
get_processor number s next =
    if nat_le number 4 then next (pointer number s) s
    else if number == 18 then next (ipl_of s.core.psl) s
    else if number == 21 then next s.core.sisr s
    else if number == 24 then next s.core.iccs s
    else if number == 32 then next (input_ready (next_input s)) s
    else if number == 33 then next (input_byte (next_input s)) (input_after (next_input s) s)
    else if number == 34 then next (2 ^ 7) s
    else Raises Operand

unfoldable pub from_register : State → (Flow → State → Accesses Leaf) → Accesses Leaf
from_register s next =
    read_value 4 s (λ number s.
    write_place 4 s (λ destination s.
    get_processor number s (λ value s.
    stored 4 destination value s (λ s.
    next flow.Done (with_moved value s)))))

-- the status

-- MOVPSL
unfoldable pub move_status : State → (Flow → State → Accesses Leaf) → Accesses Leaf
move_status s next = write_place 4 s (λ destination s. stored 4 destination s.core.psl.0 s (λ s. next flow.Done s))

-- BISPSW and BICPSW change bits 7:0, of which BISPSW may not set trace
unfoldable pub status_set : ℕ → State → (Flow → State → Accesses Leaf) → Accesses Leaf
status_set mask s next =
    if not (mask / 2 ^ 8 == 0) || is_one mask 4 then Raises Operand
    else next flow.Done (with_psl s (record { 0 = bit_or s.core.psl.0 mask }))

unfoldable pub status_cleared : ℕ → State → (Flow → State → Accesses Leaf) → Accesses Leaf
status_cleared mask s next =
    if not (mask / 2 ^ 8 == 0) then Raises Operand
    else next flow.Done (with_psl s (record { 0 = bit_and s.core.psl.0 (2 ^ 32 - 1 - mask) }))

unfoldable pub set_status : State → (Flow → State → Accesses Leaf) → Accesses Leaf
set_status s next = read_value 2 s (λ mask s. status_set mask s next)

unfoldable pub clear_status : State → (Flow → State → Accesses Leaf) → Accesses Leaf
clear_status s next = read_value 2 s (λ mask s. status_cleared mask s next)

unfoldable pub performed : System → State → (Flow → State → Accesses Leaf) → Accesses Leaf
performed system.Halt s next = halt s next
performed system.NoOperation s next = next flow.Done s
performed system.Breakpoint s next = Raises Breakpoint
performed system.Customer s next = Raises Customer
performed system.Return s next = return_exception s next
performed (system.ChangeMode target) s next = change_of_mode target s next
performed (system.Probe writing) s next = probe writing s next
performed system.ToRegister s next = unless_privileged true s (to_register s next)
performed system.FromRegister s next = unless_privileged true s (from_register s next)
performed system.MoveStatus s next = move_status s next
performed system.SetStatus s next = set_status s next
performed system.ClearStatus s next = clear_status s next
