use Rattle.std.proofs.Common.{◌≡◌, length}
use Rattle.vax_asm_causes.specs.Marked.{stray_or}
use Rattle.vax_lex.specs.declared.token.Piece.{Piece}
use Rattle.vax_asm_causes.proofs.token.stray.Given as goal

abbrev pub invariant-loop-piece : goal.invariant-loop-piece
invariant-loop-piece l = (other : Piece) → stray_or other l.rest ≡ stray_or other l.pieces

abbrev pub decreases-loop-piece : goal.decreases-loop-piece
decreases-loop-piece l = length l.rest
