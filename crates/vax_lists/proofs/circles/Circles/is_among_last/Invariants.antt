use Rattle.std.proofs.Common.{◌≡◌, ◌-◌, ◌<◌, drop, length, slice_index}
use Rattle.vax_lists.specs.Links.{is_in, walk}
use Rattle.vax_lists.proofs.circles.Circles.is_among_last.Given as goal

abbrev pub invariant-loop : goal.invariant-loop
invariant-loop l = record {
  within : l.at < length l.self-inside.links.before.items;
  left : is_in l.frame (walk (slice_index l.self-inside.links.before.items) (l.count - l.counter) (slice_index l.self-inside.links.before.items l.at)) ≡ is_in l.frame (drop (length l.self.first - l.count) l.self.first);
}
