use Rattle.std.specs.Prelude.{All}
use Rattle.vax_vector_runs.specs.Ends.{IsCell}
use Rattle.vax_vector_memory.specs.Record.{view_of}
use Rattle.vax_vector_runs.proofs.run.cells_of.Given as goal

abbrev pub invariant-loop-addr : goal.invariant-loop-addr
invariant-loop-addr l = All (IsCell l.touched (view_of l.memory).byte) l.cells.items
