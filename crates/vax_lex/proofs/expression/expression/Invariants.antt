use Rattle.std.proofs.Common.{length, ◌-◌}
use Rattle.vax_lex.specs.Grammar.{symbols_of}
use Rattle.vax_lex.specs.Nesting.{SoFar}
use Rattle.vax_lex.proofs.expression.expression.Given as goal

abbrev pub invariant-loop-operator : goal.invariant-loop-operator
invariant-loop-operator g l = SoFar (g.N.Names.meaning l.names) (symbols_of l.line l.tokens) l.at l.answer l.end

abbrev pub decreases-loop-operator : goal.decreases-loop-operator
decreases-loop-operator g l = length l.tokens - l.end
