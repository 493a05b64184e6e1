-- What the registers themselves say of an instruction, as one who carries it out.
use Rattle.std.proofs.Common.{◌≡◌, ℕ, ◌≤◌, Option, Some, None, Result, Ok, Err, OnErr, IfOk, refl, subst, sym}
use Rattle.std.proofs.Math.Nat.{le_refl}
use Rattle.vax_flat.specs.declared.Flow.{Flow}
use Rattle.vax_flat.specs.declared.Flow.TheVariants as flow
use Rattle.vax_flat.specs.OverPort.{over_port}
use Rattle.vax_flat.specs.Port.{View}
use Rattle.vax_flat.specs.Instruction.{acted_part, acted_part_if}
use Rattle.vax_isa.specs.declared.actions.Action.{Action}
use Rattle.vax_isa.specs.Rows.{action_of}
use Rattle.vax_undo.specs.declared.txn.CutShort.{CutShort}
use Rattle.vax_word.specs.declared.Core.{Core}
use Rattle.vax_undo.specs.FirstPart.{first_part_done}
use Rattle.vax_operand.specs.Working.{GoesOn, Moves, Performs}
use Rattle.vax_quick.specs.Made as made
use Rattle.vax_quick.specs.Made.{Computer, Leaves, Makes, MakesOrStays, Tree, at_console, computer, made_by}
use Rattle.vax_quick.specs.Fast.{IsOn, always, done_of, follows_in, reading_in, room_in, state_in, stays_in, stops_in}
use Rattle.vax_quick.specs.declared.fast.Fast.{Fast}

goes : {P : Type 0} (view : P → View) (tree : Tree) (f : Flow) (old new : Fast P) → (always new → GoesOn state_in (reading_in view) tree f old new) → f ≡ flow.Done
    → made.GoesOn tree flow.Done (computer view old.core.now old.port.now) (computer view new.core.now new.port.now)
goes view tree f old new g is = λ input taken sent next.
    subst (λ f. over_port (tree (at_console old.core.now input taken sent) next) (view old.port.now) ≡ over_port (next f (at_console new.core.now input taken sent)) (view new.port.now))
    is (g tt (record { input = input; taken = taken; sent = sent }) next)

-- an instruction was made, or memory is as it was
pub makes : {P : Type 0} (view : P → View) (tree : Tree) (result : Result Flow CutShort) (old new : Fast P)
    → Performs state_in (reading_in view) stops_in always tree result old new
    → OnErr result ((start : Fast P) → stays_in view start old → stays_in view start new) → IfOk result follows_in
    → Makes tree (done_of result) (computer view old.core.now old.port.now) (computer view new.core.now new.port.now)
makes view tree (Ok f) old new p stays is = goes view tree f old new p is
makes view tree (Err short) old new p stays is = stays old refl

pub on_itself : {P : Type 0} (along : P → P → Type 0) (w : Fast P) → IsOn along w w
on_itself along w = record { core = refl; port = refl; timer = refl; requests = refl; clock = refl; closed = le_refl _; since = λ start h. h }

-- what the registers and the port are once the worker over them is gone
module _ {P : Type 0} (view : P → View) (along : P → P → Type 0) where
  pub made_at_once : (tree : Tree) (count : ℕ) (result : Result Flow CutShort) (r : Option (Unit {0})) (old new : Fast P) (core : Core) (port : P)
      → Performs state_in (reading_in view) stops_in always tree result old new
      → OnErr result ((start : Fast P) → stays_in view start old → stays_in view start new) → IfOk result follows_in
      → r ≡ done_of result → Moves always room_in (IsOn along) count old new
      → (old.core.ghost_name ≡ new.core.ghost_name → core ≡ new.core.now) → (old.port.ghost_name ≡ new.port.ghost_name → port ≡ new.port.now)
      → Makes tree r (computer view old.core.now old.port.now) (computer view core port)
  made_at_once tree count result r old new core port p stays is done moves of_core of_port =
      let on : IsOn along old new = moves.kept old (on_itself along old) in
      let c : core ≡ new.core.now = of_core (sym on.core) in
      let q : port ≡ new.port.now = of_port (sym on.port) in
      let m : Makes tree (done_of result) (computer view old.core.now old.port.now) (computer view new.core.now new.port.now) = makes view tree result old new p stays is in
      let m1 : Makes tree r (computer view old.core.now old.port.now) (computer view new.core.now new.port.now) = subst (λ (o : Option (Unit {0})). Makes tree o (computer view old.core.now old.port.now) (computer view new.core.now new.port.now)) (sym done) m in
      let m2 : Makes tree r (computer view old.core.now old.port.now) (computer view core new.port.now) = subst (λ (o : Core). Makes tree r (computer view old.core.now old.port.now) (computer view o new.port.now)) (sym c) m1 in
      subst (λ (o : P). Makes tree r (computer view old.core.now old.port.now) (computer view core o)) (sym q) m2

  pub left_at_once : (count : ℕ) (old new : Fast P) (core : Core) (port : P) → Moves always room_in (IsOn along) count old new
      → (old.core.ghost_name ≡ new.core.ghost_name → core ≡ new.core.now) → (old.port.ghost_name ≡ new.port.ghost_name → port ≡ new.port.now)
      → Leaves along old.core.now old.port.now core port
  left_at_once count old new core port moves of_core of_port =
      let on : IsOn along old new = moves.kept old (on_itself along old) in
      let l : Leaves along old.core.now old.port.now new.core.now new.port.now = record { timer = on.timer; requests = on.requests; clock = on.clock; closed = on.closed; since = on.since } in
      let l1 : Leaves along old.core.now old.port.now core new.port.now = subst (λ (o : Core). Leaves along old.core.now old.port.now o new.port.now) (sym (of_core (sym on.core))) l in
      subst (λ (o : P). Leaves along old.core.now old.port.now core o) (sym (of_port (sym on.port))) l1

  -- the same after which the registers are put back, where the instruction wasn't made
  pub left_unless : (count : ℕ) (old new : Fast P) (core : Core) (port : P) (after : Core) → Moves always room_in (IsOn along) count old new
      → (core.iccs ≡ old.core.now.iccs → after.iccs ≡ old.core.now.iccs) → (core.sisr ≡ old.core.now.sisr → after.sisr ≡ old.core.now.sisr)
      → (core.clock ≡ old.core.now.clock → after.clock ≡ old.core.now.clock)
      → (first_part_done core.psl ≤ first_part_done old.core.now.psl → first_part_done after.psl ≤ first_part_done old.core.now.psl)
      → (old.core.ghost_name ≡ new.core.ghost_name → core ≡ new.core.now) → (old.port.ghost_name ≡ new.port.ghost_name → port ≡ new.port.now)
      → Leaves along old.core.now old.port.now after port
  left_unless count old new core port after moves timer requests clock closed of_core of_port =
      let l : Leaves along old.core.now old.port.now core port = left_at_once count old new core port moves of_core of_port in
      record { timer = timer l.timer; requests = requests l.requests; clock = clock l.clock; closed = closed l.closed; since = l.since }

-- what an opcode does is what the table's row says
pub as_action : (opcode : ℕ) (a : Action) (r : Option (Unit {0})) (old new : Computer) → action_of opcode ≡ Some a → MakesOrStays (acted_part a) r old new → MakesOrStays (made_by opcode) r old new
unfolding made_by acted_part_if
as_action opcode a None old new is made = made
as_action opcode a (Some done) old new is made = λ input taken sent next.
    subst (λ o. over_port (acted_part_if o (at_console old.core input taken sent) next) old.view ≡ over_port (next flow.Done (at_console new.core input taken sent)) new.view) (sym is) (made input taken sent next)
