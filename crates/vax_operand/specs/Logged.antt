-- The transaction as one who carries out an instruction.
use Rattle.std.specs.Prelude.{◌≡◌, ◌≤◌}
use Rattle.vax_flat.specs.State.{State}
use Rattle.vax_flat.specs.Accesses.{Accesses, Leaf}
use Rattle.vax_flat.specs.Port.{View}
use Rattle.vax_undo.specs.FirstPart.{first_part_done}
use Rattle.vax_undo.specs.Trail.{Trail, Landing, Breaks, over_trail}
use Rattle.vax_undo.specs.Transaction.{present, bare, restart, undo_all, IsReady, IsSame}
use Rattle.vax_undo.specs.declared.txn.Txn.{Txn as Transaction}

module _ {P : Type 0} where
  -- registers and console as an instruction sees them
  abbrev pub state_in : (P → View) → Transaction P → Unit {0} → State
  state_in view t rest = (present view t).state

  -- what a tree comes to over the port, with the accesses that were made
  abbrev pub reading_in : (P → View) → (P → Trail) → Transaction P → Accesses Leaf → Landing Leaf
  reading_in view trail t tree = over_trail tree (view t.port.now) (trail t.port.now)

  -- a tree is cut short as the transaction was
  abbrev pub stops_in : (P → View) → (P → Trail) → Transaction P → Landing Leaf → Type 0
  stops_in view trail t out = out ≡ Breaks t.why (view t.port.now).marked (trail t.port.now)

  -- Undoing the log gives what it gave at the start, and no instruction was left open.
  pub record Undoes (view : P → View) (along : P → P → Type 0) (old new : Transaction P) : Type 0 where
    pub undone : restart new.origin (undo_all new.log.now.entries.items (bare (present view new)))
        ≡ restart old.origin (undo_all old.log.now.entries.items (bare (present view old)))
    pub ready : IsReady view old → IsReady view new
    pub closed : first_part_done new.core.now.psl ≤ first_part_done old.core.now.psl
    pub same : IsSame along old new

  abbrev pub always : Transaction P → Type 0
  always t = Unit {0}

  abbrev pub any : Transaction P → Transaction P → Type 0
  any old new = Unit {0}
