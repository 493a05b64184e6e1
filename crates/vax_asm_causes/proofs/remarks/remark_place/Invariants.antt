use Rattle.std.proofs.Common.{◌≡◌, drop, take}
use Rattle.std.specs.List.{filter}
use Rattle.vax_asm_causes.specs.Places.{is_called}
use Rattle.vax_asm_causes.proofs.remarks.remark_place.Given as goal

abbrev pub invariant-loop-piece : goal.invariant-loop-piece
invariant-loop-piece l =
    (take 1 (filter (is_called l.name l.at.line.now) (drop l.piece-index l.at.pieces.now)) ≡ take 1 (filter (is_called l.name l.at.line.now) l.at.pieces.now))
    × (l.all.items ≡ l.fn.all.items)
