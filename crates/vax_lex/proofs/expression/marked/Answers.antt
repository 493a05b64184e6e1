use Rattle.std.proofs.Common.{refl, arith}
use Rattle.vax_lex.proofs.Symbols.{length-symbols, kind_mark}
use Rattle.vax_lex.proofs.Parsing.{no_term_mark}
use Rattle.vax_lex.proofs.expression.marked.Goals as goal

pub returns-then-mark-eq43 : goal.returns-then-mark-eq43
returns-then-mark-eq43 g c = let there = kind_mark c.args.line.now c.args.tokens.now c.args.at c.args.mark 43 c.requires.mark c.if-mark-eq43.true in ((there.is, refl), omega (arith, length-symbols c.args.line.now c.args.tokens.now, there.room))

pub returns-then-mark-eq45 : goal.returns-then-mark-eq45
returns-then-mark-eq45 g c = let there = kind_mark c.args.line.now c.args.tokens.now c.args.at c.args.mark 45 c.requires.mark c.if-mark-eq45.true in ((there.is, refl), omega (arith, length-symbols c.args.line.now c.args.tokens.now, there.room))

pub returns-then-mark-eq60 : goal.returns-then-mark-eq60
returns-then-mark-eq60 g c = let there = kind_mark c.args.line.now c.args.tokens.now c.args.at c.args.mark 60 c.requires.mark c.if-mark-eq60.true in ((there.is, refl), omega (arith, length-symbols c.args.line.now c.args.tokens.now, there.room))

pub returns-else-mark-eq94 : goal.returns-else-mark-eq94
returns-else-mark-eq94 g c = no_term_mark c.args.line.now c.args.tokens.now (g.N.Names.meaning c.args.names.now) c.args.at c.args.mark c.requires.mark c.if-mark-eq43.false c.if-mark-eq45.false c.if-mark-eq60.false c.if-mark-eq94.false
