use Rattle.std.proofs.Common.{length}
use Rattle.vax_asm_causes.proofs.cause.comment_of.Given as goal

abbrev pub decreases-loop-first : goal.decreases-loop-first
decreases-loop-first l = length l.rest
