use Rattle.std.proofs.Common.{◌≡◌, take, map}
use Rattle.vax_macro.specs.Conditions.{token_of}
use Rattle.vax_macro.proofs.conditions.tokens_of.Given as goal

abbrev pub invariant-loop-piece : goal.invariant-loop-piece
invariant-loop-piece l = l.tokens.items ≡ map token_of (take l.piece-index l.pieces)
