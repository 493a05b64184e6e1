use Rattle.std.proofs.Common.{◌++◌, true, List, ap, ◌∙◌}
use Rattle.std.specs.List.{filter, filter_map}
use Rattle.vax_space.specs.declared.Area.{Area}
use Rattle.vax_link.specs.Layout.{placed_names, sections_in}
use Rattle.vax_link.specs.Linked.{area_unless_empty, is_chosen}
use Rattle.vax_link.specs.Placed.{bytes_in}
use Rattle.vax_link.proofs.AreaLaws.{areas_joined}
use Rattle.vax_link.proofs.areas.areas_of.Goals as goal

pub returns : goal.returns
returns c =
    let region = c.args.layout.now.base in
    let pieces = sections_in c.args.layout.now.pieces.items in
    let filled = bytes_in c.args.filled.now in
    areas_joined region pieces filled c.push_areas.new.areas.items c.push_areas-2.new.areas.items
    (c.in_ok-push_areas.ensures ∙ ap (λ (xs : List Area). xs ++ filter_map (area_unless_empty region pieces filled) (filter (is_chosen region true) (placed_names region pieces))) c.new-areas.ensures.items)
    c.in_ok-push_areas-2.ensures
