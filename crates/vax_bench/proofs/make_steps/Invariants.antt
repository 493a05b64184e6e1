use Rattle.std.proofs.Common.{◌≡◌, None}
use Rattle.vax_bench.proofs.make_steps.Given as goal

-- nothing is left that was sent to the console
abbrev pub invariant-loop-left : goal.invariant-loop-left
invariant-loop-left l = l.cpu.term.out ≡ None

abbrev pub decreases-loop-left : goal.decreases-loop-left
decreases-loop-left l = l.left
