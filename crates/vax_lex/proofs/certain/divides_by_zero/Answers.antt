use Rattle.std.proofs.Common.{arith}
use Rattle.vax_lex.proofs.Dividing.{none_here, one_here}
use Rattle.vax_lex.proofs.certain.divides_by_zero.Goals as goal

pub returns-then-divides_at : goal.returns-then-divides_at
returns-then-divides_at g c =
    one_here c.args.line.now c.args.tokens.now (g.N.Names.meaning c.args.names.now) c.loop-at.at c.divides_at.result c.if-divides_at.true (omega arith) c.divides_at.ensures c.loop-at.invariant

pub loop-at-preserved : goal.loop-at-preserved
loop-at-preserved g c =
    none_here c.args.line.now c.args.tokens.now (g.N.Names.meaning c.args.names.now) c.loop-at.at c.divides_at.result c.if-divides_at.false (omega arith) c.divides_at.ensures c.loop-at.invariant
