use Rattle.std.proofs.Common.{◌≡◌, ◌≤◌, ◌-◌, [], map, drop, take}
use Rattle.vax_asm_statement.specs.Items.{pieces_from, prefixed, piece_seen}
use Rattle.vax_asm_statement.proofs.items.split_pieces.Given as goal

abbrev pub invariant-loop-i : goal.invariant-loop-i
invariant-loop-i l = record {
  behind : l.begin ≤ l.i;
  shallow : l.depth ≤ l.i;
  same : prefixed (map piece_seen l.found.items) (pieces_from l.depth (take (l.i - l.begin) (drop l.begin l.tokens)) (drop l.i l.tokens)) ≡ pieces_from 0 [] l.tokens;
}
