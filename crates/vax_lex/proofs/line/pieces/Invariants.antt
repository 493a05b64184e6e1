use Rattle.std.proofs.Common.{◌≡◌, ◌≤◌, ◌++◌, length, ◌-◌, drop}
use Rattle.vax_lex.specs.Tokens.{pieces_from, pieces_of}
use Rattle.vax_lex.specs.Statements.{open_brackets}
use Rattle.vax_lex.specs.Views.{context_view, place_view}
use Rattle.vax_lex.proofs.Lines.{SoFar}
use Rattle.vax_lex.proofs.line.pieces.Given as goal

abbrev pub invariant-loop-pieces : goal.invariant-loop-pieces
invariant-loop-pieces l = record {
  in_range : l.at ≤ length l.line;
  brackets : open_brackets (place_view l.context.place) ≤ l.at;
  so_far : SoFar l.line l.at l.pieces.items;
  same : l.pieces.items ++ pieces_from l.dialect (context_view l.context) l.at 0 (drop l.at l.line) ≡ pieces_of l.dialect l.line;
}

abbrev pub decreases-loop-pieces : goal.decreases-loop-pieces
decreases-loop-pieces l = length l.line - l.at
