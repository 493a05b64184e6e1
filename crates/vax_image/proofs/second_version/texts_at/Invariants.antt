use Rattle.std.proofs.Common.{◌≡◌, ◌+◌, ◌*◌, ◌-◌, ◌≤◌, map}
use Rattle.vax_image.specs.Reading.{texts_at}
use Rattle.vax_image.specs.Views.{cursor}
use Rattle.vax_image.proofs.Loops.{with_front}
use Rattle.vax_image.proofs.second_version.texts_at.Given as goal

abbrev pub invariant-loop : goal.invariant-loop
invariant-loop l = record {
  so_far : with_front (map (λ t. t.now) l.texts.items) (texts_at (l.count - l.counter) (cursor l.rest)) ≡ texts_at l.count (cursor l.fn.from);
  early : l.rest.place ≤ 24 + l.counter * 16777220;
}
