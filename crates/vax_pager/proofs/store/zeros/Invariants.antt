use Rattle.std.proofs.Common.{◌≡◌, replicate}
use Rattle.vax_pager.proofs.store.zeros.Given as goal

abbrev pub invariant-loop : goal.invariant-loop
invariant-loop l = l.frames.items ≡ replicate l.counter (replicate 512 0)
