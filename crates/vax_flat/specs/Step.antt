-- A step of the flat machine, and a run (VAX Architecture Reference Manual, exceptions and interrupts).
use Rattle.std.specs.Prelude.{ℕ, suc, zero, ◌+◌, ◌%◌, ◌&&◌, nat_lt, if◌then◌else◌, Option, Some, None, List, [], ◌∷◌, ◌++◌}
use Rattle.vax_word.specs.declared.Core.{Core}
use Rattle.vax_word.specs.Status.{is_one}
use Rattle.vax_space.specs.declared.Area.{Area}
use Rattle.vax_flat.specs.declared.Exception.{Exception}
use Rattle.vax_flat.specs.declared.Exception.TheVariants.{Arithmetic}
use Rattle.vax_flat.specs.declared.Ending.{Ending}
use Rattle.vax_flat.specs.declared.Delivery.{Delivery}
use Rattle.vax_flat.specs.declared.Delivery.TheVariants.{Entered, Ended}
use Rattle.vax_flat.specs.declared.Flow.{Flow}
use Rattle.vax_flat.specs.declared.Flow.TheVariants as flow
use Rattle.vax_flat.specs.State.{State, priority, with_timer, with_clock}
use Rattle.vax_flat.specs.Accesses.{Accesses, Done, Leaf, Went, Found}
use Rattle.vax_flat.specs.Outcome.{Outcome, Range, Ends, Raised, outcome_of, touches_of}
use Rattle.vax_flat.specs.Delivery.{delivery, interrupt}
use Rattle.vax_flat.specs.System.{flow_of_delivery}
use Rattle.vax_flat.specs.Instruction.{instruction}

-- the flat machine: registers, memory, the whole input with the number of its bytes taken, the output so far, and how it ended, if it did
pub record Flat : Type 0 where
  pub core : Core
  pub memory : List Area
  pub input : List ℕ
  pub taken : ℕ
  pub output : List ℕ
  pub ending : Option Ending

-- what a step starts from
abbrev pub state_of : Flat → State
state_of m = record { core = m.core; input = m.input; taken = m.taken; sent = None }

-- the highest of these levels that is requested, or 0
unfoldable pub highest : ℕ → ℕ → ℕ
highest zero requests = 0
highest (suc level) requests = if is_one requests (suc level) then suc level else highest level requests

-- the level of the interrupt that is requested: 22 by the interval clock, where it is on and has run out, else that of the highest software
-- request, or 0
unfoldable pub level : Core → ℕ
level core = if is_one core.iccs 6 && is_one core.iccs 7 then 22 else highest 15 core.sisr

-- the interval clock counts a step, where it is on; at the thousandth it begins anew and asks for its interrupt
unfoldable pub ticked : State → State
ticked s =
    if is_one s.core.iccs 6
    then (if nat_lt s.core.clock 999 then with_clock s (s.core.clock + 1) else with_timer (with_clock s 0) (s.core.iccs % 128 + 128))
    else s

-- an interrupt above the priority, or the instruction at PC
unfoldable pub begun : State → (Flow → State → Accesses Leaf) → Accesses Leaf
begun s next =
    if nat_lt (priority s) (level s.core) then interrupt (level s.core) s (λ how s. next (flow_of_delivery how) s)
    else instruction s next

-- what follows a delivery: the clock, where the handler is entered
unfoldable pub handed_over : Delivery → State → (Flow → State → Accesses Leaf) → Accesses Leaf
handed_over Entered s next = next flow.Done (ticked s)
handed_over (Ended e) s next = next (flow.Ended e) s

-- what follows: a trap's delivery, and the clock
unfoldable pub finished : Flow → State → (Flow → State → Accesses Leaf) → Accesses Leaf
finished flow.Done s next = next flow.Done (ticked s)
finished flow.Clocked s next = next flow.Done s
finished (flow.Trap kind) s next = delivery (Arithmetic kind) s (λ how s. handed_over how s next)
finished (flow.More opcode units) s next = next (flow.More opcode units) s
finished (flow.Ended e) s next = next (flow.Ended e) s

-- a step up to its exception, if it raises one
unfoldable pub whole : State → (Flow → State → Accesses Leaf) → Accesses Leaf
whole s next = begun s (λ how s. finished how s next)

abbrev pub leaf : Flow → State → Accesses Leaf
leaf how s = Done (Went how s)

abbrev pub whole_step : State → Accesses Leaf
whole_step s = whole s leaf

-- the delivery of the exception that a step raised, and the clock
unfoldable pub delivered : Exception → State → (Flow → State → Accesses Leaf) → Accesses Leaf
delivered e s next = delivery e s (λ how s. handed_over how s next)

abbrev pub whole_delivery : Exception → State → Accesses Leaf
whole_delivery e s = delivered e s leaf

-- the output with the byte that was sent
abbrev pub with_byte_sent : List ℕ → Option ℕ → List ℕ
with_byte_sent output None = output
with_byte_sent output (Some byte) = output ++ byte ∷ []

abbrev pub ended : Flat → Ending → Flat
ended m e = record m { ending = Some e }

-- A step went so. One that ends the run leaves the machine as it was at its start. What something follows is the end of no step, so there the machine
-- stays.
abbrev pub concluded : Flat → Leaf → List Area → Flat
concluded m (Went flow.Done s) memory =
    record m { core = s.core; memory = memory; taken = s.taken; output = with_byte_sent m.output s.sent }
concluded m (Went flow.Clocked s) memory = m
concluded m (Went (flow.Trap kind) s) memory = m
concluded m (Went (flow.More opcode units) s) memory = m
concluded m (Went (flow.Ended e) s) memory = ended m e
concluded m (Found operand s) memory = m

-- a delivery raises nothing, so there the machine stays
abbrev pub after_delivery : Flat → Outcome Leaf → Flat
after_delivery m (Ends leaf memory) = concluded m leaf memory
after_delivery m (Raised e) = m

abbrev pub after_instruction : Flat → Outcome Leaf → Flat
after_instruction m (Ends leaf memory) = concluded m leaf memory
after_instruction m (Raised e) = after_delivery m (outcome_of (whole_delivery e (state_of m)) m.memory)

abbrev pub step_from : Option Ending → Flat → Flat
step_from (Some e) m = m
step_from None m = after_instruction m (outcome_of (whole_step (state_of m)) m.memory)

-- One step: an interrupt, or one instruction, or the delivery of what it raised. A machine that ended stays as it is.
abbrev pub step : Flat → Flat
step m = step_from m.ending m

-- n steps
unfoldable pub run : ℕ → Flat → Flat
run zero m = m
run (suc n) m = step (run n m)

-- what the delivery touches, where an exception was raised
abbrev pub touches_after : Flat → Outcome Leaf → List Range
touches_after m (Ends leaf memory) = []
touches_after m (Raised e) = touches_of (whole_delivery e (state_of m)) m.memory
