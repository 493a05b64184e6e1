use Rattle.std.proofs.Common.{length, ◌-◌, Option}
use Rattle.vax_lex.specs.Grammar.{symbols_of}
use Rattle.vax_lex.specs.Reading.{ReadsNames}
use Rattle.vax_lex.specs.declared.expression.Read.{Read}
use Rattle.vax_lex.proofs.expression.names_from.Given as goal

-- what is left of the names gives the mask of all
abbrev pub invariant-loop-token : goal.invariant-loop-token
invariant-loop-token l =
    (r : Option Read) → ReadsNames l.mask (symbols_of l.line l.tokens) l.at r → ReadsNames l.initial.mask (symbols_of l.line l.tokens) l.initial.at r

abbrev pub decreases-loop-token : goal.decreases-loop-token
decreases-loop-token l = length l.tokens - l.at
