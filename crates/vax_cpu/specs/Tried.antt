-- What a transaction that makes the accesses of a tree came to.
use Rattle.std.specs.Prelude.{◌≡◌, ◌≤◌, ℕ, Bool, true, false, Option, Some, None, Result, Ok, Err}
use Rattle.vax_word.specs.declared.Core.{Core}
use Rattle.vax_word.specs.declared.Psl.{Psl}
use Rattle.vax_flat.specs.declared.Cut.TheVariants as cut
use Rattle.vax_flat.specs.declared.Exception.{Exception}
use Rattle.vax_flat.specs.declared.Flow.{Flow}
use Rattle.vax_flat.specs.declared.Flow.TheVariants as flow
use Rattle.vax_flat.specs.State.{State, with_sent}
use Rattle.vax_flat.specs.Port.{View, with_marks}
use Rattle.vax_flat.specs.Accesses.{Accesses, Leaf, Went}
use Rattle.vax_flat.specs.OverPort.{Present, Comes, Stops, over_port}
use Rattle.vax_flat.specs.Step.{whole_delivery}
use Rattle.vax_flat.specs.Parts.{part_step, later_step}
use Rattle.vax_undo.specs.declared.txn.CutShort.{CutShort}
use Rattle.vax_undo.specs.FirstPart.{NothingOpen}
use Rattle.vax_undo.specs.declared.txn.Txn.{Txn as Transaction}
use Rattle.vax_undo.specs.Transaction.{bare, undone}
use Rattle.vax_cpu.specs.declared.attempt.Tried.{Tried}
use Rattle.vax_cpu.specs.declared.attempt.Tried.TheVariants.{Step, Part, Absent, Ended, Event}
use Rattle.vax_cpu.specs.declared.cpu.Open.{Open}

-- how a step may go, behind what follows its instruction: a trap is delivered there, and the interval clock has counted
abbrev pub IsLast : Result Flow CutShort → Type 0
IsLast (Ok flow.Done) = Unit {0}
IsLast (Ok flow.Clocked) = ⊥
IsLast (Ok (flow.Trap kind)) = ⊥
IsLast (Ok (flow.More opcode units)) = Unit {0}
IsLast (Ok (flow.Ended e)) = Unit {0}
IsLast (Err short) = Unit {0}

-- an instruction that was completed
abbrev pub is_done : Result Flow CutShort → Bool
is_done (Ok flow.Done) = true
is_done (Ok flow.Clocked) = false
is_done (Ok (flow.Trap kind)) = false
is_done (Ok (flow.More opcode units)) = false
is_done (Ok (flow.Ended e)) = false
is_done (Err short) = false

-- how work went, by whether it was completed and what is said of it where it wasn't
abbrev pub came : Bool → Result Flow CutShort → Result Flow CutShort
came true other = Ok flow.Done
came false other = other

-- what holds of an instruction that wasn't completed
abbrev pub UnlessDone : Result Flow CutShort → Type 0 → Type 0
UnlessDone (Ok flow.Done) fact = Unit {0}
UnlessDone (Ok flow.Clocked) fact = fact
UnlessDone (Ok (flow.Trap kind)) fact = fact
UnlessDone (Ok (flow.More opcode units)) fact = fact
UnlessDone (Ok (flow.Ended e)) fact = fact
UnlessDone (Err short) fact = fact

-- The log of what wasn't completed leads back to where it began: of a part to its registers and its console, of all else to everything.
abbrev pub LeadsBack : {P : Type 0} → (P → View) → Present → Result Flow CutShort → Transaction P → Type 0
LeadsBack view old (Ok flow.Done) txn = Unit {0}
LeadsBack view old (Ok flow.Clocked) txn = undone view txn ≡ bare old
LeadsBack view old (Ok (flow.Trap kind)) txn = undone view txn ≡ bare old
LeadsBack view old (Ok (flow.More opcode units)) txn = (undone view txn).state ≡ old.state
LeadsBack view old (Ok (flow.Ended e)) txn = undone view txn ≡ bare old
LeadsBack view old (Err short) txn = undone view txn ≡ bare old

-- all is as before but for the marks: a page stays marked where the write to it was undone
abbrev pub marked_as : Present → View → Present
marked_as p view = record { state = p.state; view = with_marks p.view view.marked }

-- it was kept where the tree is completed, and else all is as before but for the marks, which are those that the tree leaves
abbrev pub IsTried : (State → Accesses Leaf) → Present → Tried → Present → Type 0
IsTried tree old (Step sent) new =
    (s : State) × (over_port (tree old.state) old.view ≡ Comes (Went flow.Done s) new.view) × (new.state ≡ with_sent s None) × (sent ≡ s.sent)
IsTried tree old (Part part) new =
    (s : State) × (over_port (tree old.state) old.view ≡ Comes (Went (flow.More part.opcode part.units) s) new.view) × (new.state ≡ with_sent s None)
    × (part.start ≡ old.state.core)
IsTried tree old (Ended e) new =
    (s : State) × (view : View) × (over_port (tree old.state) old.view ≡ Comes (Went (flow.Ended e) s) view) × (view.marked ≡ new.view.marked)
    × (new ≡ marked_as old new.view)
IsTried tree old (Absent page) new = (over_port (tree old.state) old.view ≡ Stops (cut.Absent page) new.view.marked) × (new ≡ marked_as old new.view)
IsTried tree old (Event e) new = (over_port (tree old.state) old.view ≡ Stops (cut.Event e) new.view.marked) × (new ≡ marked_as old new.view)

-- it raises no exception
abbrev pub IsFinal : Tried → Type 0
IsFinal (Step sent) = Unit {0}
IsFinal (Part part) = Unit {0}
IsFinal (Ended e) = Unit {0}
IsFinal (Absent page) = Unit {0}
IsFinal (Event e) = ⊥

-- the interval clock counts up to 999, also at the start of a part
abbrev pub KeepsTime : ℕ → Tried → Type 0
KeepsTime clock (Step sent) = clock ≤ 999
KeepsTime clock (Part part) = (clock ≤ 999) × (part.start.clock ≤ 999)
KeepsTime clock (Ended e) = clock ≤ 999
KeepsTime clock (Absent page) = clock ≤ 999
KeepsTime clock (Event e) = clock ≤ 999

-- an attempt at a step leaves no instruction open, and a part of one was begun with none open
abbrev pub KeepsClosed : Psl → Tried → Type 0
KeepsClosed psl (Step sent) = NothingOpen psl
KeepsClosed psl (Part part) = NothingOpen part.start.psl
KeepsClosed psl (Ended e) = NothingOpen psl
KeepsClosed psl (Absent page) = NothingOpen psl
KeepsClosed psl (Event e) = NothingOpen psl

-- an attempt at a later part, with what follows it, leaves none open either, unless more remains or a page is absent
abbrev pub KeepsClosedLater : Psl → Tried → Type 0
KeepsClosedLater psl (Step sent) = NothingOpen psl
KeepsClosedLater psl (Part part) = Unit {0}
KeepsClosedLater psl (Ended e) = NothingOpen psl
KeepsClosedLater psl (Absent page) = Unit {0}
KeepsClosedLater psl (Event e) = Unit {0}

-- what an attempt goes through: the first part of the step at PC, or a later part of the instruction that is open
abbrev pub tree_of : Option Open → State → Accesses Leaf
tree_of None = part_step
tree_of (Some latched) = later_step latched.opcode

-- the registers at the start of the instruction that is open, and else these
abbrev pub start_by : Option Open → Core → Core
start_by None core = core
start_by (Some latched) core = latched.start

abbrev pub with_registers : Core → Present → Present
with_registers core p = record { state = record p.state { core = core }; view = p.view }

-- an ending goes back to the registers at the instruction's start
abbrev pub led_back : Core → Tried → Present → Present
led_back start (Step sent) p = p
led_back start (Part part) p = p
led_back start (Absent page) p = p
led_back start (Ended e) p = with_registers start p
led_back start (Event e) p = p

-- where a page is absent, the registers are those before the attempt
abbrev pub put_again : Core → Tried → Present → Present
put_again before (Step sent) p = p
put_again before (Part part) p = p
put_again before (Absent page) p = with_registers before p
put_again before (Ended e) p = p
put_again before (Event e) p = p

-- an attempt that raised no exception, or the delivery of the exception that it raised, from the registers at the instruction's start
pub data Made (tree : State → Accesses Leaf) (start : Core) (old : Present) (tried : Tried) (new : Present) : Type 0 where
  AtOnce : (mid : Present) → IsFinal tried → IsTried tree old tried mid → new ≡ led_back start tried mid → Made tree start old tried new
  Delivered : (e : Exception) → (raised mid : Present) → IsTried tree old (Event e) raised → IsTried (whole_delivery e) (with_registers start raised) tried mid →
      new ≡ put_again old.state.core tried mid → Made tree start old tried new
