use Rattle.std.proofs.Common.{◌≡◌, ◌-◌, ◌≤◌}
use Rattle.std.specs.Prelude.{All}
use Rattle.vax_space.specs.Areas.{end_of}
use Rattle.vax_save.specs.Restoring.{areas_at}
use Rattle.vax_save.specs.Views.{cursor}
use Rattle.vax_save.proofs.Loops.{with_front}
use Rattle.vax_save.proofs.memory.areas_at.Given as goal

abbrev pub invariant-loop : goal.invariant-loop
invariant-loop l = record {
  so_far : with_front l.areas.items (areas_at l.low (l.count - l.counter) (cursor l.rest)) ≡ areas_at 0 l.count (cursor l.fn.from);
  small : All (λ area. end_of area ≤ 0x401000) l.areas.items;
}
