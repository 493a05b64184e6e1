use Rattle.std.proofs.Common.{◌≡◌}
use Rattle.std.specs.List.{list_any}
use Rattle.vax_asm.specs.Placing.{is_wide}
use Rattle.vax_asm.proofs.Pieces.{any_from}
use Rattle.vax_asm.proofs.tokens.has_wide.Given as goal

abbrev pub invariant-loop-piece : goal.invariant-loop-piece
invariant-loop-piece l = any_from is_wide l.pieces l.piece-index ≡ list_any is_wide l.pieces
