use Rattle.std.specs.Prelude.{take}
use Rattle.vax_vector_lines.specs.Lines.{AreLinesWithout, IsMore, pairs}
use Rattle.vax_vector_lines.proofs.case_lines.push_pairs.Given as goal

-- the lines so far
abbrev pub invariant-loop-second : goal.invariant-loop-second
invariant-loop-second l = IsMore (AreLinesWithout l.vector (pairs l.first (take l.second-index l.others))) l.fn.out.items l.out.items
