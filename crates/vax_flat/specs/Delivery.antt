-- The delivery of exceptions, changes of mode and interrupts (VAX Architecture Reference Manual, exceptions and interrupts).
-- Each asks whether the vector may be read and each longword pushed before it does so, but for the pushes of a change to a mode other than
-- kernel, of which one that isn't allowed is an access violation.
use Rattle.std.specs.Prelude.{ℕ, ◌+◌, ◌-◌, ◌*◌, ◌/◌, ◌%◌, ◌^◌, Bool, true, false, ◌==◌, ◌||◌, nat_le, min, if◌then◌else◌, Option, Some, None, List, [], ◌∷◌, slice_index}
use Rattle.std.specs.Int.{from_bool}
use Rattle.std.specs.Int.Bits.{bit_and}
use Rattle.vax_word.specs.declared.Psl.{Psl}
use Rattle.vax_word.specs.Status.{is_one, mode_of, ipl_of}
use Rattle.vax_space.specs.declared.Access.TheVariants as access
use Rattle.vax_space.specs.declared.Violation.{Violation}
use Rattle.vax_isa.specs.declared.actions.AccessMode.{AccessMode}
use Rattle.vax_isa.specs.Actions.{mode_number}
use Rattle.vax_flat.specs.declared.Exception.{Exception}
use Rattle.vax_flat.specs.declared.Exception.TheVariants as exception
use Rattle.vax_flat.specs.declared.Ending.TheVariants as ending
use Rattle.vax_flat.specs.declared.Delivery.{Delivery}
use Rattle.vax_flat.specs.declared.Delivery.TheVariants.{Entered, Ended}
use Rattle.vax_flat.specs.State.{State, register, with_register, with_psl, with_stack, with_requests, with_timer, mode, priority, trap_number}
use Rattle.vax_flat.specs.Accesses.{Accesses, Leaf}
use Rattle.vax_flat.specs.Operand.{plus, extended, read_in, write_in, asked}

-- the stacks

-- whether the interrupt stack is in use (bit 26)
abbrev pub on_interrupt_stack : Psl → Bool
on_interrupt_stack psl = is_one psl.0 26

-- the stack in use, by its place among the kept pointers: that of the access mode, or that of interrupts
unfoldable pub stack_in_use : Psl → ℕ
stack_in_use psl = if on_interrupt_stack psl then 4 else mode_of psl

-- another stack is taken: the pointer of the one in use is kept, and the other's goes into SP
unfoldable pub switched : ℕ → ℕ → State → State
switched from to s =
    if from == to then s
    else with_stack (with_register (with_stack s from (register s 14)) 14 (slice_index s.core.stacks to)) to 0

-- the status with these access modes, priority and stack, and all else 0
abbrev pub status : ℕ → ℕ → ℕ → Bool → Psl
status current previous level interrupt = record { 0 = 2 ^ 26 * from_bool interrupt + (2 ^ 24 * current + (2 ^ 22 * previous + 2 ^ 16 * level)) }

-- control goes on at an address, with another status
abbrev pub at_handler : ℕ → Psl → State → State
at_handler handler psl s = with_psl (with_register s 15 handler) psl

-- the vector, a longword of the system control block at this offset, which is read in kernel mode; none where it can't be read
unfoldable pub vectored : ℕ → State → (Option ℕ → State → Accesses Leaf) → Accesses Leaf
vectored offset s next =
    asked (2 ^ 31 + offset) 4 0 access.Read s (λ allowed s.
    if allowed then read_in (2 ^ 31 + offset) 4 0 s (λ vector s. next (Some vector) s) else next None s)

-- where the next longword of the stack goes
abbrev pub below : State → ℕ
below s = plus (register s 14) (2 ^ 32 - 4)

-- a longword is pushed in an access mode
unfoldable pub pushed_in : ℕ → ℕ → State → (State → Accesses Leaf) → Accesses Leaf
pushed_in mode value s next = write_in (below s) 4 value mode s (λ after. next (with_register after 14 (below s)))

-- a longword is pushed in kernel mode, if that is allowed
unfoldable pub pushed_if : ℕ → State → (Bool → State → Accesses Leaf) → Accesses Leaf
pushed_if value s next =
    asked (below s) 4 0 access.Write s (λ allowed s. if allowed then pushed_in 0 value s (λ s. next true s) else next false s)

-- longwords are pushed in kernel mode, in order; false where one may not be
unfoldable pub pushed_all : List ℕ → State → (Bool → State → Accesses Leaf) → Accesses Leaf
pushed_all [] s next = next true s
pushed_all (value ∷ values) s next = pushed_if value s (λ done s. if done then pushed_all values s next else next false s)

-- exceptions but changes of mode

-- the offset of an exception's vector
unfoldable pub vector_of : Exception → ℕ
vector_of exception.Privileged = 0x10
vector_of exception.Customer = 0x14
vector_of exception.Operand = 0x18
vector_of exception.Mode = 0x1C
vector_of (exception.Access violation) = 0x20
vector_of exception.Breakpoint = 0x2C
vector_of (exception.Arithmetic kind) = 0x34

-- the reason of an access violation: bit 0 where a page lies past its region's length, bit 2 where the access was to write
abbrev pub reason : Violation → ℕ
reason violation = from_bool violation.length + 4 * from_bool violation.write

-- what is pushed after PSL and PC
unfoldable pub parameters : Exception → List ℕ
parameters exception.Privileged = []
parameters exception.Customer = []
parameters exception.Operand = []
parameters exception.Mode = []
parameters (exception.Access violation) = violation.addr ∷ reason violation ∷ []
parameters exception.Breakpoint = []
parameters (exception.Arithmetic kind) = trap_number kind ∷ []

-- the handler is entered in kernel mode: on the kernel stack, or on the interrupt stack where that is in use or where the vector asks for it
unfoldable pub entered : List ℕ → ℕ → Bool → Psl → State → (Delivery → State → Accesses Leaf) → Accesses Leaf
entered values vector interrupt psl s next =
    pushed_all (s.core.psl.0 ∷ register s 15 ∷ values) (switched (stack_in_use s.core.psl) (if interrupt then 4 else 0) s) (λ done s.
    if done then next Entered (at_handler (vector / 4 * 4) psl s) else next (Ended ending.Stack) s)

-- a vector's bits 1:0: 0 is the kernel stack, 1 the interrupt stack at the highest priority, and any other ends the run
unfoldable pub dispatched : Exception → Option ℕ → State → (Delivery → State → Accesses Leaf) → Accesses Leaf
dispatched e None s next = next (Ended ending.Scb) s
dispatched e (Some vector) s next =
    if nat_le 2 (vector % 4) then next (Ended (ending.Vector (vector_of e))) s
    else if vector % 4 == 1 then entered (parameters e) vector true (status 0 (mode s) 31 true) s next
    else entered (parameters e) vector (on_interrupt_stack s.core.psl) (status 0 (mode s) (priority s) (on_interrupt_stack s.core.psl)) s next

-- the delivery of an exception, from the state at the start of the instruction or, for a trap, behind it
unfoldable pub delivery : Exception → State → (Delivery → State → Accesses Leaf) → Accesses Leaf
delivery e s next = vectored (vector_of e) s (λ vector s. dispatched e vector s next)

-- interrupts

-- the offset of an interrupt's vector: the interval clock's at level 22, and those of software interrupts from level 1 on
unfoldable pub interrupt_vector : ℕ → ℕ
interrupt_vector level = if level == 22 then 0xC0 else 0x80 + 4 * level

-- the request is taken back
unfoldable pub served : ℕ → State → State
served level s =
    if level == 22 then with_timer s (s.core.iccs % 2 ^ 7)
    else with_requests s (bit_and s.core.sisr (2 ^ 16 - 1 - 2 ^ level))

-- the interrupt stack is taken where the vector asks for it, and kept where it is in use
abbrev pub takes_interrupt_stack : ℕ → Psl → Bool
takes_interrupt_stack vector psl = vector % 4 == 1 || on_interrupt_stack psl

-- the delivery of an interrupt at a level
unfoldable pub interrupted : ℕ → Option ℕ → State → (Delivery → State → Accesses Leaf) → Accesses Leaf
interrupted level None s next = next (Ended ending.Scb) s
interrupted level (Some vector) s next =
    if nat_le 2 (vector % 4) then next (Ended (ending.Vector (interrupt_vector level))) s
    else entered [] vector (takes_interrupt_stack vector s.core.psl) (status 0 0 level (takes_interrupt_stack vector s.core.psl)) (served level s) next

unfoldable pub interrupt : ℕ → State → (Delivery → State → Accesses Leaf) → Accesses Leaf
interrupt level s next = vectored (interrupt_vector level) s (λ vector s. interrupted level vector s next)

-- changes of mode

-- the offset of the vector of CHMK, CHME, CHMS, CHMU
unfoldable pub change_vector : AccessMode → ℕ
change_vector target = 0x40 + 4 * mode_number target

-- control is at the handler, in the new mode
unfoldable pub changed : ℕ → ℕ → Psl → State → State
changed new vector old s = at_handler vector (status new (mode_of old) (ipl_of old) false) s

-- PSL, PC and code on the stack of a mode other than kernel, where a push that isn't allowed is an access violation
unfoldable pub pushed_outside : ℕ → Psl → ℕ → ℕ → State → (State → Accesses Leaf) → Accesses Leaf
pushed_outside mode old pc code s next =
    pushed_in mode old.0 s (λ s. pushed_in mode pc s (λ s. pushed_in mode code s next))

-- the frame of a change of mode, on the new mode's stack
unfoldable pub changed_to : ℕ → ℕ → ℕ → State → (Delivery → State → Accesses Leaf) → Accesses Leaf
changed_to new code vector s next =
    if new == 0
    then pushed_all (s.core.psl.0 ∷ register s 15 ∷ code ∷ []) (switched (mode s) new s) (λ done t.
    if done then next Entered (changed new vector s.core.psl t) else next (Ended ending.Stack) t)
    else pushed_outside new s.core.psl (register s 15) code (switched (mode s) new s) (λ t.
    next Entered (changed new vector s.core.psl t))

-- a vector's bits 1:0 are 0, or it ends the run
unfoldable pub change_by : AccessMode → ℕ → Option ℕ → State → (Delivery → State → Accesses Leaf) → Accesses Leaf
change_by target code None s next = next (Ended ending.Scb) s
change_by target code (Some vector) s next =
    if vector % 4 == 0 then changed_to (min (mode_number target) (mode s)) (extended 2 code) vector s next
    else next (Ended (ending.Vector (change_vector target))) s

-- CHMK, CHME, CHMS, CHMU: to the more privileged of the mode named and the current one, which isn't done on the interrupt stack
unfoldable pub change_mode : AccessMode → ℕ → State → (Delivery → State → Accesses Leaf) → Accesses Leaf
change_mode target code s next =
    if on_interrupt_stack s.core.psl then next (Ended ending.Change) s
    else vectored (change_vector target) s (λ vector s. change_by target code vector s next)
