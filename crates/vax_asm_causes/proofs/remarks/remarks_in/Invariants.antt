use Rattle.std.proofs.Common.{◌≡◌, ◌≤◌, ◌+◌, ◌++◌, length}
use Rattle.vax_asm_causes.specs.Remarks.{lines_remarks}
use Rattle.vax_asm_causes.specs.View.{asked_by}
use Rattle.vax_lines.specs.Lines.{lines}
use Rattle.vax_asm_causes.proofs.remarks.remarks_in.Given as goal

abbrev pub invariant-loop-line : goal.invariant-loop-line
invariant-loop-line l =
    (l.all.items ++ lines_remarks l.reading.dialect (asked_by l.reading.wanted) l.reading.source.now l.number (lines l.rest)
    ≡ lines_remarks l.reading.dialect (asked_by l.reading.wanted) l.reading.source.now 1 (lines l.reading.source.now))
    × (l.number + length l.rest ≤ length l.reading.source.now + 1)

abbrev pub decreases-loop-line : goal.decreases-loop-line
decreases-loop-line l = length l.rest
