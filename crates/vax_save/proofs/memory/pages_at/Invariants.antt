use Rattle.std.proofs.Common.{◌≡◌, ◌-◌, ◌+◌, ◌*◌, ◌≤◌, length}
use Rattle.vax_save.specs.Restoring.{pages_at}
use Rattle.vax_save.specs.Views.{cursor, filled_to}
use Rattle.vax_save.proofs.Loops.{with_front}
use Rattle.vax_save.proofs.memory.pages_at.Given as goal

abbrev pub invariant-loop-count : goal.invariant-loop-count
invariant-loop-count l = record {
  so_far : with_front (filled_to l.count l.bytes.items) (pages_at (l.first + l.count) (l.pages - l.count) (cursor l.rest)) ≡ pages_at l.first l.pages (cursor l.fn.from);
  short : length l.bytes.items ≤ 512 * l.count;
}
