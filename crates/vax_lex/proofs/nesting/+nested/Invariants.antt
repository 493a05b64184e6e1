use Rattle.std.proofs.Common.{length, ◌-◌}
use Rattle.vax_lex.specs.Grammar.{symbols_of}
use Rattle.vax_lex.specs.Nesting.{Due, innermost_first}
use Rattle.vax_lex.proofs.nesting.+nested.Given as goal

abbrev pub decreases-nested : goal.decreases-nested
decreases-nested g l = length l.tokens.now - l.at

abbrev pub invariant-loop-opening : goal.invariant-loop-opening
invariant-loop-opening g l = Due (g.N.Names.meaning l.names) (symbols_of l.line l.tokens) l.at (innermost_first l.stack) l.place

abbrev pub decreases-loop-opening : goal.decreases-loop-opening
decreases-loop-opening g l = length l.tokens - l.place
