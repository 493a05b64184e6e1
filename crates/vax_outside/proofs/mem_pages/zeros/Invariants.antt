use Rattle.std.proofs.Common.{◌≡◌, replicate}
use Rattle.vax_outside.proofs.mem_pages.zeros.Given as goal

abbrev pub invariant-loop : goal.invariant-loop
invariant-loop l = l.blocks.items ≡ replicate l.counter (replicate 512 0)
