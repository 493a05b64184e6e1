-- What a call comes to over a memory that the port stands for.
use Rattle.std.specs.Prelude.{◌≡◌, ℕ, Option, Some, None, List, Result, Ok, Err}
use Rattle.vax_space.specs.declared.Area.{Area}
use Rattle.vax_flat.specs.declared.Cut.{Cut}
use Rattle.vax_flat.specs.declared.Cut.TheVariants.{Absent, Event}
use Rattle.vax_flat.specs.declared.Flow.{Flow}
use Rattle.vax_flat.specs.declared.Operand.{Operand}
use Rattle.vax_flat.specs.State.{State}
use Rattle.vax_flat.specs.Port.{View, StandsFor}
use Rattle.vax_flat.specs.Accesses.{Accesses, Leaf, Done, Found, Went}
use Rattle.vax_flat.specs.Outcome.{Outcome, Ends, Raised, outcome_of, touches_of, first_missing}
use Rattle.vax_flat.specs.OverPort.{Present}
use Rattle.vax_undo.specs.declared.txn.CutShort.{CutShort}
use Rattle.vax_undo.specs.declared.txn.Txn.{Txn as Transaction}
use Rattle.vax_undo.specs.Transaction.{present, told}

module _ {X : Type 0} (leaf : X → State → Leaf) where
  -- a tree's end, with a value and the state there
  abbrev pub at_end : X → State → Accesses Leaf
  at_end x s = Done (leaf x s)

  -- by the first absent page of a tree's touches, and by what the tree comes to on the flat memory: the answer, and the state after it
  abbrev pub Lands : Option ℕ → Outcome Leaf → Result X Cut → Present → Type 0
  Lands first outcome (Ok x) after =
      (first ≡ None) × ((memory : List Area) × (outcome ≡ Ends (leaf x after.state) memory) × StandsFor after.view memory)
  Lands first outcome (Err (Absent page)) after = first ≡ Some page
  Lands first outcome (Err (Event e)) after = (first ≡ None) × (outcome ≡ Raised e)

  -- for each memory that the port stands for
  abbrev pub LandsEverywhere : ((X → State → Accesses Leaf) → Accesses Leaf) → Present → Result X Cut → Present → Type 0
  LandsEverywhere tree before result after =
      (memory : List Area) → StandsFor before.view memory → Lands (first_missing before.view.resident (touches_of (tree at_end) memory)) (outcome_of (tree at_end) memory) result after

-- one operand
abbrev pub LocatesEverywhere : {P : Type 0} → (P → View) → (State → (Operand → State → Accesses Leaf) → Accesses Leaf)
    → Result Operand CutShort → Transaction P → Transaction P → Type 0
LocatesEverywhere view tree result old new = LandsEverywhere Found (tree (present view old).state) (present view old) (told new result) (present view new)

-- one instruction
abbrev pub GoesEverywhere : {P : Type 0} → (P → View) → (State → (Flow → State → Accesses Leaf) → Accesses Leaf)
    → Result Flow CutShort → Transaction P → Transaction P → Type 0
GoesEverywhere view tree result old new = LandsEverywhere Went (tree (present view old).state) (present view old) (told new result) (present view new)
