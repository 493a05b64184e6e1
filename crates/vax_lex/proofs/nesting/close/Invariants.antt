use Rattle.std.proofs.Common.{length}
use Rattle.vax_lex.specs.Nesting.{innermost_first}
use Rattle.vax_lex.proofs.Opened.{ClosesSoFar}
use Rattle.vax_lex.proofs.nesting.close.Given as goal

abbrev pub invariant-loop-opening : goal.invariant-loop-opening
invariant-loop-opening g l = ClosesSoFar (g.N.Names.meaning l.names) l.tokens (innermost_first l.initial.stack) l.initial.read (innermost_first l.stack) l.read

abbrev pub decreases-loop-opening : goal.decreases-loop-opening
decreases-loop-opening g l = length (innermost_first l.stack)
