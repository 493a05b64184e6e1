use Rattle.std.proofs.Common.{◌≡◌, drop}
use Rattle.std.specs.List.{list_any}
use Rattle.vax_asm_causes.specs.Remarks.{makes}
use Rattle.vax_asm_causes.proofs.made.is_among.Given as goal

abbrev pub invariant-loop-piece : goal.invariant-loop-piece
invariant-loop-piece l = list_any (makes l.maker l.line) (drop l.piece-index l.pieces) ≡ list_any (makes l.maker l.line) l.pieces
