use Rattle.std.proofs.Common.{◌≡◌, length}
use Rattle.vax_asm_causes.specs.Remarks.{first_end}
use Rattle.vax_lines.specs.Lines.{lines}
use Rattle.vax_asm_causes.proofs.remarks.start_of.Given as goal

abbrev pub invariant-loop-line : goal.invariant-loop-line
invariant-loop-line l = first_end l.dialect (lines l.rest) ≡ first_end l.dialect (lines l.source)

abbrev pub decreases-loop-line : goal.decreases-loop-line
decreases-loop-line l = length l.rest
