use Rattle.std.specs.Prelude.{◌≡◌}
use Rattle.vax_vectors.specs.Truth.{told}
use Rattle.vax_vector_lines.proofs.told.with_cell.Given as goal

-- the new cell is told of its address
abbrev pub invariant-loop-cell : goal.invariant-loop-cell
invariant-loop-cell l = told l.cells.items l.new.addr ≡ l.new.byte
