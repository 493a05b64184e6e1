-- What a string instruction comes to that is made in parts.
use Rattle.std.specs.Prelude.{◌≡◌, ℕ, List}
use Rattle.vax_space.specs.declared.Area.{Area}
use Rattle.vax_flat.specs.declared.Flow.{Flow}
use Rattle.vax_flat.specs.declared.Flow.TheVariants as flow
use Rattle.vax_flat.specs.State.{State}
use Rattle.vax_flat.specs.Accesses.{Accesses, Done, Leaf, Went, Found}
use Rattle.vax_flat.specs.Outcome.{Outcome, Ends, Raised, outcome_of}
use Rattle.vax_flat.specs.Bound.{LeavesNoPart}

-- where a part left something, the rest is done from there
abbrev pub and_rest : (State → Accesses Leaf) → Outcome Leaf → Outcome Leaf
and_rest rest (Ends (Went flow.Done s) memory) = Ends (Went flow.Done s) memory
and_rest rest (Ends (Went flow.Clocked s) memory) = Ends (Went flow.Clocked s) memory
and_rest rest (Ends (Went (flow.Trap kind) s) memory) = Ends (Went (flow.Trap kind) s) memory
and_rest rest (Ends (Went (flow.More opcode units) s) memory) = outcome_of (rest s) memory
and_rest rest (Ends (Went (flow.Ended e) s) memory) = Ends (Went (flow.Ended e) s) memory
and_rest rest (Ends (Found operand s) memory) = Ends (Found operand s) memory
and_rest rest (Raised e) = Raised e

-- what follows a string instruction: a part that leaves something ends there, and what follows a completed instruction leaves nothing
pub record IsBehind (next : Flow → State → Accesses Leaf) : Type 0 where
  pub more : (opcode units : ℕ) (s : State) → next (flow.More opcode units) s ≡ Done (Went (flow.More opcode units) s)
  pub done : (s : State) (memory : List Area) → LeavesNoPart (outcome_of (next flow.Done s) memory)
