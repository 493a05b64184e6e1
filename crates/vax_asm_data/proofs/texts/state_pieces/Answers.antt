use Rattle.vax_asm_data.proofs.Folding.{piece_within}
use Rattle.vax_asm_data.proofs.texts.state_pieces.Goals as goal

pub state_piece-requires : goal.state_piece-requires
state_piece-requires c = piece_within c.args.site.line.now.value.items c.args.pieces.now c.loop-piece.piece-index _ c.loop-piece-test.true c.requires
