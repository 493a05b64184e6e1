use Rattle.std.proofs.Common.{ℕ, List, ap, ◌∙◌}
use Rattle.std.specs.Prelude.{slice_index}
use Rattle.std.specs.List.{position_or_len}
use Rattle.std.specs.Str.{bytes_eq}
use Rattle.vax_link.specs.Names.{Name}
use Rattle.vax_link.specs.Layout.{names_in, names_of, sections_in}
use Rattle.vax_link.proofs.RoomLaws.{address_more, no_addresses, prefix_small}
use Rattle.vax_link.proofs.layout.addresses_of.Goals as goal

pub loop-place-init : goal.loop-place-init
loop-place-init c = λ region same begun room. c.new-addresses.ensures.items ∙ no_addresses region (sections_in c.args.pieces.now)

pub loop-place-preserved : goal.loop-place-preserved
loop-place-preserved c = λ region same begun room.
    let pieces = c.args.pieces.now in
    let all = sections_in pieces in
    let i = c.loop-place.place in
    let x = c.index-pieces-place.result in
    let page =
    c.page_of.ensures.page ∙ ap (λ (n : Name). slice_index c.args.pages.now (position_or_len (λ m. bytes_eq m n) (names_in c.args.names.now))) c.as_slice.ensures
    ∙ ap (λ (ns : List Name). slice_index c.args.pages.now (position_or_len (λ m. bytes_eq m x.now.name) ns)) same
    ∙ ap (λ (ps : List ℕ). slice_index ps (position_or_len (λ m. bytes_eq m x.now.name) (names_of all))) begun in
    let offset = c.offset_of-offset.ensures.offset (prefix_small region pieces i x c.loop-place-test.true c.index-pieces-place.is room) in
    address_more region pieces i x c.loop-place.addresses.items c.push.new.self.items c.page_of.result c.offset_of-offset.result c.loop-place-test.true c.index-pieces-place.is
    (c.loop-place.invariant region same begun room) c.in_ok-push.ensures.items page offset
