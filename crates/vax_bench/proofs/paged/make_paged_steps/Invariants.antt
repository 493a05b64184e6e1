use Rattle.std.proofs.Common.{◌≡◌, None}
use Rattle.vax_bench.proofs.paged.make_paged_steps.Given as goal

-- nothing is left that was sent to the console
abbrev pub invariant-loop-attempt : goal.invariant-loop-attempt
invariant-loop-attempt l = l.cpu.term.out ≡ None
