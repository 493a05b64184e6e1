use Rattle.std.proofs.Common.{◌≡◌, ◌++◌, drop}
use Rattle.vax_asm_causes.specs.Remarks.{register_remarks}
use Rattle.vax_asm_causes.proofs.remarks.remark_registers.Given as goal

abbrev pub invariant-loop-piece : goal.invariant-loop-piece
invariant-loop-piece l =
    l.all.items ++ register_remarks l.at.number l.at.line.now (drop l.piece-index l.at.pieces.now)
    ≡ l.fn.all.items ++ register_remarks l.at.number l.at.line.now l.at.pieces.now
