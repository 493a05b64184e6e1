use Rattle.vax_prelude.proofs.Naming.{preludes_done}
use Rattle.vax_prelude.proofs.joining.preludes_of.Goals as goal

pub returns : goal.returns
returns c = preludes_done c.args.names.now c.args.texts.now c.loop-i.i c.min-i-end.result _ _ c.min-i-end.ensures c.loop-i-test.false c.loop-i.invariant
