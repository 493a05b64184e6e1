use Rattle.std.proofs.Common.{◌≡◌, length}
use Rattle.vax_asm_causes.specs.Counts.{never, often_in, with_names}
use Rattle.vax_asm_causes.specs.Remarks.{names_in}
use Rattle.vax_asm_causes.proofs.counts.counts_of.Given as goal

abbrev pub invariant-loop-line : goal.invariant-loop-line
invariant-loop-line l = with_names (names_in l.dialect l.rest) (often_in l.counts) ≡ with_names (names_in l.dialect l.source) never

abbrev pub decreases-loop-line : goal.decreases-loop-line
decreases-loop-line l = length l.rest
