use Rattle.std.proofs.Common.{length}
use Rattle.vax_asm_second.proofs.Steps.{part_written, parts_written}
use Rattle.vax_asm_second.specs.View.{known_of}
use Rattle.vax_asm_second.proofs.types.Found.write_pieces.Goals as goal

pub loop-piece-preserved : goal.loop-piece-preserved
loop-piece-preserved c =
    let before = c.loop-piece in
    let after = c.write_piece.new in
    let wrote = c.in_ok-write_piece.ensures in
    part_written (known_of c.args.known) c.args.section c.args.pieces.now before.piece-index c.piece-item.result before.out.items after.out.items _ before.self.relocs.items after.self.relocs.items _ before.self.fault after.self.fault _
    c.loop-piece-test.true c.piece-item.is wrote.bytes wrote.relocs wrote.fault before.invariant

pub returns-clause-bytes : goal.returns-clause-bytes
returns-clause-bytes c =
    (parts_written (known_of c.args.known) c.args.section (length c.loop-piece.out.items) c.args.pieces.now c.loop-piece.piece-index c.loop-piece.out.items _ c.loop-piece.self.relocs.items _ c.loop-piece.self.fault _
    c.loop-piece-test.false c.loop-piece.invariant).0

pub returns-clause-relocs : goal.returns-clause-relocs
returns-clause-relocs c =
    (parts_written (known_of c.args.known) c.args.section (length c.loop-piece.out.items) c.args.pieces.now c.loop-piece.piece-index c.loop-piece.out.items _ c.loop-piece.self.relocs.items _ c.loop-piece.self.fault _
    c.loop-piece-test.false c.loop-piece.invariant).1

pub returns-clause-fault : goal.returns-clause-fault
returns-clause-fault c =
    (parts_written (known_of c.args.known) c.args.section (length c.loop-piece.out.items) c.args.pieces.now c.loop-piece.piece-index c.loop-piece.out.items _ c.loop-piece.self.relocs.items _ c.loop-piece.self.fault _
    c.loop-piece-test.false c.loop-piece.invariant).2
