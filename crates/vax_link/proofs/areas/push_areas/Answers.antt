use Rattle.std.proofs.Common.{◌≡◌, ◌+◌, ◌++◌, ◌∷◌, [], ℕ, List, take, sym, ap, ◌∙◌}
use Rattle.std.specs.Prelude.{slice_index}
use Rattle.std.specs.Global.{Vec}
use Rattle.vax_space.specs.declared.Area.{Area}
use Rattle.std.specs.List.{filter, filter_map}
use Rattle.vax_link.specs.Names.{Name}
use Rattle.vax_link.specs.Layout.{names_in, placed_names, sections_in}
use Rattle.vax_link.specs.Linked.{area_unless_empty, is_chosen}
use Rattle.vax_link.specs.Placed.{bytes_in}
use Rattle.vax_link.proofs.AreaLaws.{areas_empty, areas_more, areas_passed, chosen, name_small, passed_over, placed_all, placed_more}
use Rattle.vax_link.proofs.RoomLaws.{name_at}
use Rattle.vax_link.proofs.areas.push_areas.Goals as goal
use Rattle.vax_link.proofs.areas.push_areas.Goals.{then-is_control_block-control+in_ok-area+in-Some+in_ok-push, then-is_control_block-control+in_ok-area+in_default, else-is_control_block-control}

pub area_of-requires : goal.area_of-requires
area_of-requires c =
    let layout = c.args.layout.now in
    let names = c.deref-name-items.result.now in
    name_small layout.base (sections_in layout.pieces.items) names c.loop-number.number layout.placed.room (ap names_in c.deref-name-items.ensures.value ∙ layout.placed.named) c.loop-number-test.true

pub loop-number-preserved : goal.loop-number-preserved
loop-number-preserved c =
    let layout = c.args.layout.now in
    let pieces = sections_in layout.pieces.items in
    let region = layout.base in
    let control = c.args.control in
    let names = c.deref-name-items.result.now in
    let i = c.loop-number.number in
    let h = area_unless_empty region pieces (bytes_in c.args.filled.now) in
    let test = is_chosen region control in
    let places = placed_names region pieces in
    let name = (name_at names i).now in
    let p : Name × ℕ = (name, slice_index layout.pages.items i) in
    let more : take (i + 1) places ≡ take i places ++ p ∷ [] =
    placed_more region pieces names layout.pages.items i (ap names_in c.deref-name-items.ensures.value ∙ layout.placed.named) layout.placed.begun c.loop-number-test.true in
    let old = c.args.areas.now.items in
    let back = ap (λ (ps : List (Name × ℕ)). old ++ filter_map h (filter test ps)) (sym more) in
    let items : Vec Area → List Area = λ v. v.items in
    let page = slice_index layout.pages.items i in
    elim c.if-is_control_block-control.branch [
      | then-is_control_block-control+in_ok-area+in-Some+in_ok-push w ↦
          ap items w.areas-is
          ∙ areas_more h test old c.loop-number.areas.items w.push.new.self.items (take i places) p w.in-Some.area (chosen control region name page c.is_control_block.result c.is_control_block.ensures w.if-is_control_block-control.true)
          (sym w.in-Some.is ∙ w.in_ok-area.ensures ∙ ap (λ (n : ℕ). h (name, n)) w.first_page-first.ensures) c.loop-number.invariant w.in_ok-push.ensures.items
          ∙ back
      | then-is_control_block-control+in_ok-area+in_default w ↦
          ap items w.areas-is
          ∙ areas_empty h test old c.loop-number.areas.items (take i places) p (chosen control region name page c.is_control_block.result c.is_control_block.ensures w.if-is_control_block-control.true)
          (sym w.in_default.is ∙ w.in_ok-area.ensures ∙ ap (λ (n : ℕ). h (name, n)) w.first_page-first.ensures) c.loop-number.invariant
          ∙ back
      | else-is_control_block-control w ↦
          ap items w.areas-is
          ∙ areas_passed h test old c.loop-number.areas.items (take i places) p (passed_over control region name page c.is_control_block.result c.is_control_block.ensures w.if-is_control_block-control.false) c.loop-number.invariant
          ∙ back
    ]

pub returns : goal.returns
returns c =
    let layout = c.args.layout.now in
    let pieces = sections_in layout.pieces.items in
    let region = layout.base in
    let h = area_unless_empty region pieces (bytes_in c.args.filled.now) in
    let names = c.deref-name-items.result.now in
    c.loop-number.invariant
    ∙ ap (λ (ps : List (Name × ℕ)). c.args.areas.now.items ++ filter_map h (filter (is_chosen region c.args.control) ps))
    (placed_all region pieces names c.loop-number.number (ap names_in c.deref-name-items.ensures.value ∙ layout.placed.named) c.loop-number-test.false)
