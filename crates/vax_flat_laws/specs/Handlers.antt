-- Where a delivery leads, and where REI leads from there (VAX Architecture Reference Manual, exceptions and interrupts).
use Rattle.std.specs.Prelude.{◌≡◌, ℕ, ◌+◌, ◌-◌, ◌/◌, ◌%◌, ◌^◌, ◌<◌, ◌≤◌, Bool, true, false, ◌==◌, ◌||◌, if◌then◌else◌, min, Some, None, List}
use Rattle.vax_space.specs.declared.Access.TheVariants.{Read}
use Rattle.vax_space.specs.declared.Area.{Area}
use Rattle.vax_space.specs.declared.Violation.{Violation}
use Rattle.vax_space.specs.Reference.{violation}
use Rattle.vax_word.specs.declared.Psl.{Psl}
use Rattle.vax_word.specs.Status.{field, is_one, mode_of, prev_of, ipl_of}
use Rattle.vax_isa.specs.declared.actions.AccessMode.{AccessMode}
use Rattle.vax_isa.specs.Actions.{mode_number}
use Rattle.vax_flat.specs.declared.Delivery.{Delivery}
use Rattle.vax_flat.specs.declared.Ending.{Ending}
use Rattle.vax_flat.specs.declared.Exception.{Exception}
use Rattle.vax_flat.specs.declared.Flow.TheVariants as flow
use Rattle.vax_flat.specs.State.{State, register, mode, priority}
use Rattle.vax_flat.specs.Accesses.{Accesses, Leaf, Went}
use Rattle.vax_flat.specs.Outcome.{Ends, outcome_of}
use Rattle.vax_flat.specs.Delivery.{on_interrupt_stack, parameters, vector_of, delivery, interrupt_vector, interrupt, change_vector, change_mode}
use Rattle.vax_flat.specs.System.{flow_of_delivery, pointer, return_exception}
use Rattle.vax_flat.specs.Step.{leaf}
use Rattle.vax_flat_laws.specs.Machines.{IsMachine, AreWords, longword_at, without}

-- the vector at an offset of the system control block
abbrev pub vector_at : List Area → ℕ → ℕ
vector_at memory offset = longword_at memory (2 ^ 31 + offset)

-- nothing follows a delivery
abbrev pub ends_there : Delivery → State → Accesses Leaf
ends_there how t = leaf (flow_of_delivery how) t

-- a vector's bits 1:0 that ask for the interrupt stack
abbrev pub asks_interrupt_stack : ℕ → Bool
asks_interrupt_stack vector = vector % 4 == 1

-- an exception's priority: the highest on the interrupt stack that the vector asked for, and else the one that was
abbrev pub level_by : ℕ → ℕ → ℕ
level_by vector kept = if asks_interrupt_stack vector then 31 else kept

-- the interrupt stack is used where it was, and where the vector asks for it
abbrev pub stack_by : ℕ → Psl → Bool
stack_by vector psl = asks_interrupt_stack vector || on_interrupt_stack psl

-- control is at a handler: in this mode, behind this one, at this priority, on the interrupt stack or not, and all else of the status is 0
pub record IsAtHandler (vector current previous level : ℕ) (interrupt : Bool) (t : State) : Type 0 where
  pub control : register t 15 ≡ vector - vector % 4
  pub current_is : mode_of t.core.psl ≡ current
  pub previous_is : prev_of t.core.psl ≡ previous
  pub level_is : ipl_of t.core.psl ≡ level
  pub stack_is : on_interrupt_stack t.core.psl ≡ interrupt
  pub low_clear : field t.core.psl.0 0 16 ≡ 0
  pub between_clear : field t.core.psl.0 21 1 ≡ 0
  pub high_clear : t.core.psl.0 / 2 ^ 27 ≡ 0

-- a status that goes together: a less privileged mode came before, only kernel mode has a priority or the interrupt stack, which has one, and what
-- no delivery keeps is 0: trace, trace pending, first part done, compatibility mode, and the bits that must be
pub record IsConsistent (psl : Psl) : Type 0 where
  pub previous : mode_of psl ≤ prev_of psl
  pub level : 0 < ipl_of psl → mode_of psl ≡ 0
  pub stack : on_interrupt_stack psl ≡ true → (mode_of psl ≡ 0) × (0 < ipl_of psl)
  pub middle_clear : field psl.0 8 8 ≡ 0
  pub between_clear : is_one psl.0 21 ≡ false
  pub high_clear : field psl.0 28 4 ≡ 0
  pub trace_clear : is_one psl.0 4 ≡ false
  pub part_clear : is_one psl.0 27 ≡ false

-- a status may follow another by REI
pub record MayFollow (old new : Psl) : Type 0 where
  pub mode : mode_of old ≤ mode_of new
  pub stack : on_interrupt_stack new ≡ true → on_interrupt_stack old ≡ true
  pub level : ipl_of new ≤ ipl_of old

-- PC, the status, every stack's pointer and the other registers are as they were
pub record IsBack (s t : State) : Type 0 where
  pub control : register t 15 ≡ register s 15
  pub status : t.core.psl ≡ s.core.psl
  pub stacks : (n : ℕ) → pointer n t ≡ pointer n s
  pub others : (n : ℕ) → n < 14 → register t n ≡ register s n

-- once a handler has taken so many longwords off its stack, REI goes on as it was before the delivery
pub record Returns (count : ℕ) (s t : State) (memory : List Area) : Type 0 where
  pub after : State
  pub comes : outcome_of (return_exception (without count t) leaf) memory ≡ Ends (Went flow.Done after) memory
  pub back : IsBack s after

-- a tree is completed with this state and memory
abbrev pub ComesTo : Accesses Leaf → List Area → State → List Area → Type 0
ComesTo tree memory t end = outcome_of tree memory ≡ Ends (Went flow.Done t) end

-- an exception, an interrupt and a change of mode that come to their handlers

pub record ExceptionComes (e : Exception) (s : State) (memory : List Area) (t : State) (end : List Area) : Type 0 where
  pub machine : IsMachine s memory
  pub values : AreWords (parameters e)
  pub comes : ComesTo (delivery e s ends_there) memory t end

pub record InterruptComes (level : ℕ) (s : State) (memory : List Area) (t : State) (end : List Area) : Type 0 where
  pub machine : IsMachine s memory
  pub few : level < 32
  pub comes : ComesTo (interrupt level s ends_there) memory t end

pub record ChangeComes (target : AccessMode) (code : ℕ) (s : State) (memory : List Area) (t : State) (end : List Area) : Type 0 where
  pub machine : IsMachine s memory
  pub short : code < 2 ^ 16
  pub comes : ComesTo (change_mode target code s ends_there) memory t end

-- The handlers that they come to: an exception's is in kernel mode behind the one that was; an interrupt's behind kernel mode, at its level; that of a
-- change in the more privileged of its mode and the one that was, by the vector of the mode that was named.

abbrev pub IsRaisedTo : Exception → State → List Area → State → Type 0
IsRaisedTo e s memory t =
    let vector = vector_at memory (vector_of e) in
    IsAtHandler vector 0 (mode s) (level_by vector (priority s)) (stack_by vector s.core.psl) t

abbrev pub IsInterruptedTo : ℕ → State → List Area → State → Type 0
IsInterruptedTo level s memory t =
    let vector = vector_at memory (interrupt_vector level) in
    IsAtHandler vector 0 0 level (stack_by vector s.core.psl) t

abbrev pub IsChangedTo : AccessMode → State → List Area → State → Type 0
IsChangedTo target s memory t =
    IsAtHandler (vector_at memory (change_vector target)) (min (mode_number target) (mode s)) (mode s) (priority s) false t

-- the longword of the system control block at an offset may be read, or not
abbrev pub HasVector : ℕ → List Area → Type 0
HasVector offset memory = violation memory (2 ^ 31 + offset) 4 0 Read ≡ None

pub record IsBarred (offset : ℕ) (memory : List Area) : Type 0 where
  pub found : Violation
  pub is : violation memory (2 ^ 31 + offset) 4 0 Read ≡ Some found

-- a tree ends the run, and leaves state and memory
abbrev pub EndsRun : Accesses Leaf → List Area → Ending → State → Type 0
EndsRun tree memory e s = outcome_of tree memory ≡ Ends (Went (flow.Ended e) s) memory
