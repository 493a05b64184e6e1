use Rattle.std.proofs.Common.{◌≡◌, take}
use Rattle.vax_vector_runs.proofs.start.same_pages.Given as goal

-- the pages so far are the same
abbrev pub invariant-loop-k : goal.invariant-loop-k
invariant-loop-k l = take l.k l.these ≡ take l.k l.those
