use Rattle.std.proofs.Common.{◌≡◌, drop}
use Rattle.std.specs.List.{list_any}
use Rattle.vax_asm_causes.specs.Places.{is_called}
use Rattle.vax_asm_causes.proofs.places.is_among.Given as goal

abbrev pub invariant-loop-piece : goal.invariant-loop-piece
invariant-loop-piece l = list_any (is_called l.name l.line) (drop l.piece-index l.pieces) ≡ list_any (is_called l.name l.line) l.pieces
