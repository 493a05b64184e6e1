-- The registers themselves as one who carries out an instruction.
use Rattle.std.specs.Prelude.{◌≡◌, ℕ, ◌≤◌, List, Option, Some, None, Result, Ok, Err}
use Rattle.vax_flat.specs.declared.Flow.{Flow}
use Rattle.vax_flat.specs.declared.Flow.TheVariants as flow
use Rattle.vax_flat.specs.State.{State}
use Rattle.vax_flat.specs.Accesses.{Accesses, Leaf}
use Rattle.vax_flat.specs.OverPort.{Arrival, over_port}
use Rattle.vax_flat.specs.Port.{View}
use Rattle.vax_undo.specs.FirstPart.{first_part_done}
use Rattle.vax_undo.specs.declared.txn.CutShort.{CutShort}
use Rattle.vax_quick.specs.Made.{IsSeen, at_console}
use Rattle.vax_quick.specs.declared.fast.Fast.{Fast}

-- the console, which the registers don't hold
pub record Console : Type 0 where
  pub input : List ℕ
  pub taken : ℕ
  pub sent : Option ℕ

abbrev pub follows_in : Flow → Type 0
follows_in f = f ≡ flow.Done

-- whether an instruction was made at once
abbrev pub done_of : Result Flow CutShort → Option (Unit {0})
done_of (Ok f) = Some _
done_of (Err short) = None

module _ {P : Type 0} where
  abbrev pub state_in : Fast P → Console → State
  state_in w console = at_console w.core.now console.input console.taken console.sent

  abbrev pub reading_in : (P → View) → Fast P → Accesses Leaf → Arrival Leaf
  reading_in view w tree = over_port tree (view w.port.now)

  abbrev pub stops_in : Fast P → Arrival Leaf → Type 0
  stops_in w out = Unit {0}

  abbrev pub always : Fast P → Type 0
  always w = Unit {0}

  abbrev pub sound_in : (P → View) → Fast P → Type 0
  sound_in view w = IsSeen (view w.port.now) w.core.now w.window

  -- no change has to be noted
  abbrev pub room_in : Fast P → ℕ
  room_in w = 96

  -- The same registers and port. The clock and the requests for interrupts are as they were, and no instruction was left open.
  pub record IsOn (along : P → P → Type 0) (old new : Fast P) : Type 0 where
    pub core : new.core.ghost_name ≡ old.core.ghost_name
    pub port : new.port.ghost_name ≡ old.port.ghost_name
    pub timer : new.core.now.iccs ≡ old.core.now.iccs
    pub requests : new.core.now.sisr ≡ old.core.now.sisr
    pub clock : new.core.now.clock ≡ old.core.now.clock
    pub closed : first_part_done new.core.now.psl ≤ first_part_done old.core.now.psl
    pub since : (start : P) → along start old.port.now → along start new.port.now

  -- memory is as it was
  abbrev pub stays_in : (P → View) → Fast P → Fast P → Type 0
  stays_in view old new = view new.port.now ≡ view old.port.now
