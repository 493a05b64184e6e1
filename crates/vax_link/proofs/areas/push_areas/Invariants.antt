use Rattle.std.proofs.Common.{◌≡◌, ◌++◌, take}
use Rattle.std.specs.List.{filter, filter_map}
use Rattle.vax_link.specs.Layout.{placed_names, sections_in}
use Rattle.vax_link.specs.Linked.{area_unless_empty, is_chosen}
use Rattle.vax_link.specs.Placed.{bytes_in}
use Rattle.vax_link.proofs.areas.push_areas.Given as goal

abbrev pub invariant-loop-number : goal.invariant-loop-number
invariant-loop-number l = l.areas.items ≡ l.fn.areas.items ++ filter_map (area_unless_empty l.layout.base (sections_in l.layout.pieces.items) (bytes_in l.filled)) (filter (is_chosen l.layout.base l.control) (take l.number (placed_names l.layout.base (sections_in l.layout.pieces.items))))
