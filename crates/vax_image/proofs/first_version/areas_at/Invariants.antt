use Rattle.std.proofs.Common.{◌≡◌, ◌+◌, ◌*◌, ◌-◌, ◌≤◌}
use Rattle.vax_image.specs.Image.{first_page, end_page}
use Rattle.vax_image.specs.Reading.{areas_at}
use Rattle.vax_image.specs.Views.{cursor}
use Rattle.vax_image.proofs.Loops.{with_front}
use Rattle.vax_image.proofs.first_version.areas_at.Given as goal

abbrev pub invariant-loop : goal.invariant-loop
invariant-loop l = record {
  so_far : with_front l.areas.items (areas_at l.base l.low (l.count - l.counter) (cursor l.rest)) ≡ areas_at l.base (first_page l.base) l.count (cursor l.fn.from);
  early : l.rest.place ≤ 24 + 16 * l.counter + 512 * l.low;
  low : l.low ≤ end_page l.base;
}
