use Rattle.std.proofs.Common.{length}
use Rattle.vax_asm_second.proofs.Listing.{piece_listed, pieces_listed}
use Rattle.vax_asm_second.specs.View.{known_of}
use Rattle.vax_asm_second.proofs.lists.Listing.list_pieces.Goals as goal

pub loop-piece-preserved : goal.loop-piece-preserved
loop-piece-preserved c =
    let before = c.loop-piece in
    let after = c.list_piece.new.self in
    let listed = c.in_ok-list_piece.ensures in
    piece_listed (known_of c.args.known) c.args.section c.args.pieces.now before.piece-index c.piece-item.result before.self.bytes.items after.bytes.items before.self.faults.items after.faults.items _
    c.loop-piece-test.true c.piece-item.is listed.bytes listed.faults before.invariant

pub returns : goal.returns
returns c =
    pieces_listed (known_of c.args.known) c.args.section (length c.loop-piece.self.bytes.items) c.args.pieces.now c.loop-piece.piece-index c.loop-piece.self.faults.items _ c.loop-piece-test.false c.loop-piece.invariant
