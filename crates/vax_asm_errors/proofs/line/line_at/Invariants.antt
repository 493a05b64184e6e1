use Rattle.std.proofs.Common.{◌≡◌, length}
use Rattle.vax_asm_errors.specs.Errors.{line_at}
use Rattle.vax_lines.specs.Lines.{lines}
use Rattle.vax_asm_errors.proofs.line.line_at.Given as goal

abbrev pub invariant-loop-line : goal.invariant-loop-line
invariant-loop-line l = line_at l.left (lines l.rest) ≡ line_at l.number (lines l.source)

abbrev pub decreases-loop-line : goal.decreases-loop-line
decreases-loop-line l = length l.rest
