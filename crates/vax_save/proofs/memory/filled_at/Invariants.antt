use Rattle.std.proofs.Common.{◌≡◌, drop}
use Rattle.vax_flat.specs.Start.{start_memory}
use Rattle.vax_save.specs.Restoring.{filled_at}
use Rattle.vax_save.specs.Views.{cursor}
use Rattle.vax_save.proofs.Loops.{with_front}
use Rattle.vax_save.proofs.memory.filled_at.Given as goal

abbrev pub invariant-loop-area : goal.invariant-loop-area
invariant-loop-area l = record {
  so_far : with_front (start_memory l.filled.items) (filled_at (drop l.area-index l.areas) (cursor l.rest)) ≡ filled_at l.areas (cursor l.fn.from);
}
