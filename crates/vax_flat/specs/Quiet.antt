-- Trees that raise no exception.
use Rattle.std.specs.Prelude.{List}
use Rattle.vax_space.specs.declared.Area.{Area}
use Rattle.vax_flat.specs.declared.Cut.TheVariants.{Absent, Event}
use Rattle.vax_flat.specs.Accesses.{Accesses, Leaf}
use Rattle.vax_flat.specs.Port.{View}
use Rattle.vax_flat.specs.Outcome.{Outcome, Ends, Raised, outcome_of}
use Rattle.vax_flat.specs.OverPort.{Arrival, Comes, Stops, over_port}

abbrev pub IsQuiet : {A : Type 0} → Arrival A → Type 0
IsQuiet (Comes x view) = Unit {0}
IsQuiet (Stops (Absent page) marked) = Unit {0}
IsQuiet (Stops (Event e) marked) = ⊥

abbrev pub IsEnd : {A : Type 0} → Outcome A → Type 0
IsEnd (Ends x memory) = Unit {0}
IsEnd (Raised e) = ⊥

-- neither over a port nor on a whole memory
pub record RaisesNothing (tree : Accesses Leaf) : Type 0 where
  pub port : (view : View) → IsQuiet (over_port tree view)
  pub flat : (memory : List Area) → IsEnd (outcome_of tree memory)
