use Rattle.std.proofs.Common.{◌≡◌, drop}
use Rattle.vax_vectors.specs.Truth.{told}
use Rattle.vax_vectors.proofs.choices.byte_told.Given as goal

-- what is told by the cells from here on is what is told by all
abbrev pub invariant-loop-cell : goal.invariant-loop-cell
invariant-loop-cell l = told (drop l.cell-index l.ram) l.addr ≡ told l.ram l.addr
