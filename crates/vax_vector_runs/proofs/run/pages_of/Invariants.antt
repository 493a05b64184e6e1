use Rattle.std.proofs.Common.{◌≡◌, [], drop}
use Rattle.vax_vectors.specs.Truth.{pages_after}
use Rattle.vax_vector_runs.proofs.run.pages_of.Given as goal

-- the pages so far with those of the accesses from here on are all
abbrev pub invariant-loop-touch : goal.invariant-loop-touch
invariant-loop-touch l = pages_after l.pages.items (drop l.touch-index l.touches) ≡ pages_after [] l.touches
