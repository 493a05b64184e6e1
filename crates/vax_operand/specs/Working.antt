-- What a call makes of a tree of accesses, whoever carries it out: a transaction with a log, or the registers themselves.
use Rattle.std.specs.Prelude.{◌≡◌, ℕ, ◌+◌, ◌≤◌, Result, Ok, Err}
use Rattle.vax_flat.specs.State.{State}
use Rattle.vax_flat.specs.Accesses.{Accesses, Leaf}
use Rattle.vax_undo.specs.declared.txn.CutShort.{CutShort}

module _ {W R O : Type 0} (state : W → R → State) (reading : W → Accesses Leaf → O) where
  -- a tree goes on with this value from where a call ended
  abbrev pub GoesOn : {X : Type 0} → (State → (X → State → Accesses Leaf) → Accesses Leaf) → X → W → W → Type 0
  GoesOn tree x old new = (rest : R) (next : _) → reading old (tree (state old rest) next) ≡ reading new (next x (state new rest))

  -- the same of a call that gives no value
  abbrev pub Proceeds : (State → (State → Accesses Leaf) → Accesses Leaf) → W → W → Type 0
  Proceeds tree old new = (rest : R) (next : _) → reading old (tree (state old rest) next) ≡ reading new (next (state new rest))

  -- registers and console change in this way, and memory doesn't
  pub record Becomes (change : State → State) (old new : W) : Type 0 where
    pub now : (rest : R) → state new rest ≡ change (state old rest)
    pub same : (tree : Accesses Leaf) → reading new tree ≡ reading old tree

  module _ (stops : W → O → Type 0) (holds : W → Type 0) where
    -- A call makes the accesses of a tree. Where it is cut short, the tree is one that stops there, as far as the worker says so.
    abbrev pub Performs : {X : Type 0} → (State → (X → State → Accesses Leaf) → Accesses Leaf) → Result X CutShort → W → W → Type 0
    Performs tree (Ok x) old new = holds new → GoesOn tree x old new
    Performs tree (Err short) old new = holds new → (rest : R) (next : _) → stops new (reading old (tree (state old rest) next))

    -- the same of a call that gives no value
    abbrev pub Acts : (State → (State → Accesses Leaf) → Accesses Leaf) → Result (Unit {0}) CutShort → W → W → Type 0
    Acts tree (Ok x) old new = holds new → Proceeds tree old new
    Acts tree (Err short) old new = holds new → (rest : R) (next : _) → stops new (reading old (tree (state old rest) next))

module _ {W : Type 0} (holding : W → Type 0) (left : W → ℕ) (along : W → W → Type 0) where
  -- A call used at most so many entries of a log, and what was kept from the start is kept still. It holds only if all before it held.
  pub record Moves (count : ℕ) (old new : W) : Type 0 where
    pub seen : holding new → holding old
    pub room : left old ≤ left new + count
    pub kept : (start : W) → along start old → along start new

  -- the same of a call that writes nothing to memory
  pub record Reads (same : W → W → Type 0) (count : ℕ) (old new : W) : Type 0 where
    pub seen : holding new → holding old
    pub room : left old ≤ left new + count
    pub kept : (start : W) → along start old → along start new
    pub stays : (start : W) → same start old → same start new
