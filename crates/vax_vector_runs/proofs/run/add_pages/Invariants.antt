use Rattle.std.proofs.Common.{◌≡◌, ◌-◌}
use Rattle.vax_vectors.specs.Truth.{with_pages}
use Rattle.vax_vector_runs.proofs.run.add_pages.Given as goal

-- the pages so far with those of the rest of the range are all
abbrev pub invariant-loop : goal.invariant-loop
invariant-loop l = with_pages l.pages.items l.at (l.len - l.counter) ≡ with_pages l.fn.pages.items l.addr l.len
