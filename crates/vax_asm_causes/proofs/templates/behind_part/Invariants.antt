use Rattle.std.proofs.Common.{length}
use Rattle.vax_asm_causes.proofs.templates.behind_part.Given as goal

abbrev pub decreases-loop-behind : goal.decreases-loop-behind
decreases-loop-behind l = length l.rest
