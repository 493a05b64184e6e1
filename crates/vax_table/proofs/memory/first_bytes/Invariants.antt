use Rattle.vax_table.specs.Layout.{IsFilled}
use Rattle.vax_table.proofs.memory.first_bytes.Given as goal

abbrev pub invariant-loop-place : goal.invariant-loop-place
invariant-loop-place l = IsFilled l.space l.p0_end l.p1_start l.place l.bytes.items
