use Rattle.std.proofs.Common.{◌≡◌, ◌+◌, ◌*◌, ◌-◌, ◌≤◌, [], length, map}
use Rattle.vax_image.specs.Image.{first_page}
use Rattle.vax_image.specs.Reading.{numbered_areas_at}
use Rattle.vax_image.specs.Views.{cursor, texts}
use Rattle.vax_image.proofs.Loops.{behind_front}
use Rattle.vax_image.proofs.second_version.numbered_areas_at.Given as goal

abbrev pub invariant-loop : goal.invariant-loop
invariant-loop l = record {
  so_far : behind_front l.areas.items (numbered_areas_at l.base l.low (map (λ t. t.now) l.texts) (texts l.taken.items) (l.count - l.counter) (cursor l.rest))
      ≡ numbered_areas_at l.base (first_page l.base) (map (λ t. t.now) l.texts) [] l.count (cursor l.fn.from);
  early : l.rest.place ≤ 24 + 64 * 16777220 + 16 * l.counter;
  few : length l.taken.items ≤ l.counter;
}
