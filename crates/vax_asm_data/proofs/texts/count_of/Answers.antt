use Rattle.vax_asm_data.proofs.Folding.{piece_within}
use Rattle.vax_asm_data.proofs.texts.count_of.Goals as goal

pub piece_length-length-requires : goal.piece_length-length-requires
piece_length-length-requires c = piece_within c.args.line.now c.args.pieces.now c.loop-piece.piece-index _ c.loop-piece-test.true c.requires
