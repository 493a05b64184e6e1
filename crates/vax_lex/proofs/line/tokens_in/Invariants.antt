use Rattle.std.proofs.Common.{◌≡◌, drop}
use Rattle.vax_lex.specs.Tokens.{tokens_in}
use Rattle.vax_lex.proofs.Scans.{with_front}
use Rattle.vax_lex.proofs.line.tokens_in.Given as goal

abbrev pub invariant-loop-piece : goal.invariant-loop-piece
invariant-loop-piece l = with_front l.tokens.items (tokens_in (drop l.piece-index l.pieces)) ≡ tokens_in l.pieces
