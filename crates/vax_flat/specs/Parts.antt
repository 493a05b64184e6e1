-- A step in parts (VAX Architecture Reference Manual, first part done). A string instruction may be left between two of its units, with registers
-- that say what remains; any other step is made at once.
use Rattle.std.specs.Prelude.{◌≡◌, ℕ, suc, zero, ◌+◌, ◌-◌, ◌^◌, nat_lt, if◌then◌else◌, Option, Some, None, List, ◌++◌}
use Rattle.vax_word.specs.declared.Core.{Core}
use Rattle.vax_flat.specs.declared.Flow.{Flow}
use Rattle.vax_flat.specs.declared.Flow.TheVariants as flow
use Rattle.vax_flat.specs.State.{State, priority}
use Rattle.vax_flat.specs.Accesses.{Accesses, Leaf, Went}
use Rattle.vax_flat.specs.Outcome.{Outcome, Range, Ends, outcome_of, touches_of}
use Rattle.vax_flat.specs.Delivery.{interrupt}
use Rattle.vax_flat.specs.System.{flow_of_delivery}
use Rattle.vax_flat.specs.Instruction.{first_part}
use Rattle.vax_flat.specs.StringParts.{resumed}
use Rattle.vax_flat.specs.Step.{Flat, state_of, level, finished, leaf, after_instruction, touches_after}

-- an interrupt above the priority, or the first part of the instruction at PC
unfoldable pub begun_part : State → (Flow → State → Accesses Leaf) → Accesses Leaf
begun_part s next =
    if nat_lt (priority s) (level s.core) then interrupt (level s.core) s (λ how s. next (flow_of_delivery how) s)
    else first_part s next

-- the first part of a step up to its exception, if it raises one
unfoldable pub part : State → (Flow → State → Accesses Leaf) → Accesses Leaf
part s next = begun_part s (λ how s. finished how s next)

abbrev pub part_step : State → Accesses Leaf
part_step s = part s leaf

-- a later part, before which no interrupt is taken
unfoldable pub later : ℕ → State → (Flow → State → Accesses Leaf) → Accesses Leaf
later opcode s next = resumed opcode s (λ how s. finished how s next)

abbrev pub later_step : ℕ → State → Accesses Leaf
later_step opcode s = later opcode s leaf

-- a string instruction of which a part is done: its opcode, the registers at its start, how many of its units are done, and the machine with
-- these done
pub record Partway : Type 0 where
  pub opcode : ℕ
  pub start : Core
  pub units : ℕ
  pub now : Flat

-- where an attempt at a step begins: at its start, or within it
pub data Place : Type 0 where
  At : Flat → Place
  Within : Partway → Place

abbrev pub machine_at : Place → Flat
machine_at (At m) = m
machine_at (Within p) = p.now

-- the registers at the instruction's start
abbrev pub start_of : Place → Core
start_of (At m) = m.core
start_of (Within p) = p.start

abbrev pub units_done : Place → ℕ
units_done (At m) = 0
units_done (Within p) = p.units

abbrev pub tree_at : Place → State → Accesses Leaf
tree_at (At m) = part_step
tree_at (Within p) = later_step p.opcode

-- what an exception and an ending go back to: the registers at the instruction's start
abbrev pub gone_back : Place → Flat
gone_back place = record (machine_at place) { core = start_of place }

abbrev pub outcome_at : Place → Outcome Leaf
outcome_at place = outcome_of (tree_at place (state_of (machine_at place))) (machine_at place).memory

-- the ranges that an attempt reads or writes, in order, its delivery's among them
abbrev pub touches_at : Place → List Range
touches_at place =
    touches_of (tree_at place (state_of (machine_at place))) (machine_at place).memory ++ touches_after (gone_back place) (outcome_at place)

-- what an attempt comes to where no page is absent: the step is completed and leaves this machine, or a part of it is
pub data Turn : Type 0 where
  Completes : Flat → Turn
  Leaves : Partway → Turn

-- units are counted up to 2^32 - 1
abbrev pub units_after : ℕ → ℕ → ℕ
units_after units more = if nat_lt (units + more) (2 ^ 32) then units + more else 2 ^ 32 - 1

abbrev pub turn_from : Flat → ℕ → Outcome Leaf → Turn
turn_from m units (Ends (Went (flow.More opcode more) s) memory) =
    Leaves (record {
      opcode = opcode;
      start = m.core;
      units = units_after units more;
      now = record m { core = s.core; memory = memory; taken = s.taken };
    })
turn_from m units outcome = Completes (after_instruction m outcome)

abbrev pub turn : Place → Turn
turn place = turn_from (gone_back place) (units_done place) (outcome_at place)

abbrev pub left_by : Turn → Option Partway
left_by (Completes m) = None
left_by (Leaves p) = Some p

abbrev pub after_part : Option Partway → Option Partway
after_part None = None
after_part (Some p) = left_by (turn (Within p))

-- how far the step is after one part and so many more, where more remains
unfoldable pub partway : ℕ → Flat → Option Partway
partway zero m = left_by (turn (At m))
partway (suc count) m = after_part (partway count m)

-- the step of this machine comes by this place
abbrev pub GoesBy : Flat → Place → Type 0
GoesBy m (At n) = n ≡ m
GoesBy m (Within p) = (count : ℕ) × (partway count m ≡ Some p)
