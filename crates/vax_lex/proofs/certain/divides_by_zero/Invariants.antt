use Rattle.std.proofs.Common.{◌≡◌, drop}
use Rattle.vax_lex.specs.Certain.{divides_by_zero}
use Rattle.vax_lex.specs.Grammar.{symbols_of}
use Rattle.vax_lex.proofs.certain.divides_by_zero.Given as goal

abbrev pub invariant-loop-at : goal.invariant-loop-at
invariant-loop-at g l =
    divides_by_zero (g.N.Names.meaning l.names) (symbols_of l.line l.tokens) ≡ divides_by_zero (g.N.Names.meaning l.names) (drop l.at (symbols_of l.line l.tokens))
