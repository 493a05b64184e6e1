use Rattle.std.proofs.Common.{◌≡◌, []}
use Rattle.std.specs.List.{fold, zip}
use Rattle.vax_link.specs.Layout.{sections_in}
use Rattle.vax_link.specs.Linked.{with_piece}
use Rattle.vax_link.specs.Placed.{bytes_in}
use Rattle.vax_link.proofs.areas.bytes_of.Given as goal

abbrev pub invariant-loop-piece : goal.invariant-loop-piece
invariant-loop-piece l = fold (with_piece l.name l.align) l.joined.items (zip (sections_in l.piece-iterator.a.rest.now) (bytes_in l.piece-iterator.b.rest.now))
    ≡ fold (with_piece l.name l.align) [] (zip (sections_in l.layout.pieces.items) (bytes_in l.filled))
