use Rattle.std.proofs.Common.{length}
use Rattle.vax_asm_causes.proofs.names.has_entry.Given as goal

abbrev pub decreases-loop-line : goal.decreases-loop-line
decreases-loop-line l = length l.rest
