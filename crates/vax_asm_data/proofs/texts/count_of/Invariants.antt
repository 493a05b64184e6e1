use Rattle.std.proofs.Common.{◌≡◌, ◌≤◌, ◌+◌, drop, map}
use Rattle.vax_asm_data.specs.Data.{pieces_length}
use Rattle.vax_asm_statement.specs.Items.{piece_seen}
use Rattle.vax_asm_data.proofs.texts.count_of.Given as goal

abbrev pub invariant-loop-piece : goal.invariant-loop-piece
invariant-loop-piece l = record {
  few : l.count ≤ l.most;
  same : l.count + pieces_length l.line (map piece_seen (drop l.piece-index l.pieces)) ≡ pieces_length l.line (map piece_seen l.pieces);
}
