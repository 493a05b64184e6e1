use Rattle.std.proofs.Common.{◌≡◌, ◌≤◌, ◌+◌, length}
use Rattle.std.specs.List.{position_from}
use Rattle.vax_asm_causes.specs.Places.{is_on}
use Rattle.vax_lines.specs.Lines.{lines}
use Rattle.vax_asm_causes.proofs.places.first_line.Given as goal

abbrev pub invariant-loop-line : goal.invariant-loop-line
invariant-loop-line l = (position_from (is_on l.dialect l.sought l.name) l.number (lines l.rest) ≡ position_from (is_on l.dialect l.sought l.name) 1 (lines l.source)) × (l.number + length l.rest ≤ length l.source + 1)

abbrev pub decreases-loop-line : goal.decreases-loop-line
decreases-loop-line l = length l.rest
