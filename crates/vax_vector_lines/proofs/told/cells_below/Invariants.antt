use Rattle.vax_vector_lines.proofs.Cells.{TellsNothing}
use Rattle.vax_vector_lines.proofs.told.cells_below.Given as goal

-- those so far lie below the address
abbrev pub invariant-loop-cell : goal.invariant-loop-cell
invariant-loop-cell l = TellsNothing l.below.items l.addr
