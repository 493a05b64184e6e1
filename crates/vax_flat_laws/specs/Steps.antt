-- How a step may come to its end.
use Rattle.vax_flat.specs.declared.Flow.TheVariants as flow
use Rattle.vax_flat.specs.Accesses.{Leaf, Went, Found}
use Rattle.vax_flat.specs.Outcome.{Outcome, Ends, Raised}

-- it is completed, or ends the run, or raises an exception
abbrev pub IsConclusive : Outcome Leaf → Type 0
IsConclusive (Ends (Went flow.Done s) memory) = Unit {0}
IsConclusive (Ends (Went flow.Clocked s) memory) = ⊥
IsConclusive (Ends (Went (flow.Trap kind) s) memory) = ⊥
IsConclusive (Ends (Went (flow.More opcode units) s) memory) = ⊥
IsConclusive (Ends (Went (flow.Ended e) s) memory) = Unit {0}
IsConclusive (Ends (Found operand s) memory) = ⊥
IsConclusive (Raised e) = Unit {0}

-- it is completed, or ends the run
abbrev pub IsConcluded : Outcome Leaf → Type 0
IsConcluded (Ends (Went flow.Done s) memory) = Unit {0}
IsConcluded (Ends (Went flow.Clocked s) memory) = ⊥
IsConcluded (Ends (Went (flow.Trap kind) s) memory) = ⊥
IsConcluded (Ends (Went (flow.More opcode units) s) memory) = ⊥
IsConcluded (Ends (Went (flow.Ended e) s) memory) = Unit {0}
IsConcluded (Ends (Found operand s) memory) = ⊥
IsConcluded (Raised e) = ⊥
