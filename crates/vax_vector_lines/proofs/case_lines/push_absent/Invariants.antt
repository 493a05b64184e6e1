use Rattle.std.proofs.Common.{drop}
use Rattle.vax_vector_lines.specs.Lines.{IsMore}
use Rattle.vax_vector_lines.proofs.More.{Before}
use Rattle.vax_vector_lines.proofs.case_lines.push_absent.Given as goal

-- the lines so far, behind which those of the pages from here on are all
abbrev pub invariant-loop-k : goal.invariant-loop-k
invariant-loop-k l = IsMore (Before l.vector l.vector.touched.items (drop l.k l.vector.touched.items)) l.fn.out.items l.out.items
