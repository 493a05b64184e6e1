use Rattle.std.proofs.Common.{◌≡◌, ◌-◌, ◌<◌, ◌++◌, length, map, slice_index, take}
use Rattle.vax_lists.specs.Links.{AllBelow, walk}
use Rattle.vax_lists.proofs.circles.Circles.read.Given as goal

abbrev pub invariant-loop-i : goal.invariant-loop-i
invariant-loop-i l = record {
  within : l.at < length l.self-inside.links.next.items;
  below : AllBelow l.self-inside.limit (walk (slice_index l.self-inside.links.next.items) (l.count - l.i) (slice_index l.self-inside.links.next.items l.at));
  read : take l.i l.cells ++ map (slice_index l.table) (walk (slice_index l.self-inside.links.next.items) (l.count - l.i) (slice_index l.self-inside.links.next.items l.at)) ≡ map (slice_index l.table) l.self.first;
}
