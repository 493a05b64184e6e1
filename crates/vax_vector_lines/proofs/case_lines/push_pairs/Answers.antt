use Rattle.vax_vector_lines.proofs.More.{more_pairs}
use Rattle.vax_vector_lines.proofs.case_lines.push_pairs.Goals as goal

pub loop-second-preserved : goal.loop-second-preserved
loop-second-preserved c = more_pairs _ _ _ _ _ _ _ _ c.loop-second-test.true c.loop-second.invariant c.in_ok-push_without-2.ensures
