use Rattle.std.proofs.Common.{◌≡◌, drop, map}
use Rattle.vax_asm_data.specs.Data.{pieces_stated}
use Rattle.vax_asm_first.specs.View.{progress_of, site_seen, KeepsMark}
use Rattle.vax_asm_statement.specs.Items.{piece_seen}
use Rattle.vax_asm_data.proofs.texts.state_pieces.Given as goal

abbrev pub invariant-loop-piece : goal.invariant-loop-piece
invariant-loop-piece l = record {
  stated : pieces_stated (site_seen l.site) (map piece_seen (drop l.piece-index l.pieces)) (progress_of l.fault l.standing)
      ≡ pieces_stated (site_seen l.site) (map piece_seen l.pieces) (progress_of l.fn.before l.fn.standing);
  mark : KeepsMark l.fn.standing l.standing;
}
