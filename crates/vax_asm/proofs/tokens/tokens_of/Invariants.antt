use Rattle.std.proofs.Common.{◌≡◌, ◌++◌, drop, map}
use Rattle.vax_asm.specs.Placing.{token_of}
use Rattle.vax_asm.proofs.tokens.tokens_of.Given as goal

abbrev pub invariant-loop-piece : goal.invariant-loop-piece
invariant-loop-piece l = l.tokens.items ++ map token_of (drop l.piece-index l.pieces) ≡ map token_of l.pieces
