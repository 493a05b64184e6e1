use Rattle.std.proofs.Common.{sym}
use Rattle.vax_link.proofs.RoomLaws.{listed_here, not_listed_more}
use Rattle.vax_link.proofs.layout.is_listed.Goals as goal

pub returns-then-eq : goal.returns-then-eq
returns-then-eq c = listed_here c.args.names.now c.loop-other.other-index c.args.name.now c.loop-other-test.true (sym c.if-eq.ensures)

pub loop-other-preserved : goal.loop-other-preserved
loop-other-preserved c = not_listed_more c.args.names.now c.loop-other.other-index c.args.name.now c.loop-other-test.true (sym c.if-eq.ensures) c.loop-other.invariant
