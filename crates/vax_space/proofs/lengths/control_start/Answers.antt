use Rattle.std.proofs.Common.{arith}
use Rattle.vax_space.proofs.Extents.{rest_at, none_left, control_more, control_none, control_small}
use Rattle.vax_space.proofs.lengths.control_start.Goals as goal

pub loop-area-init : goal.loop-area-init
loop-area-init c = (omega (arith, control_small c.args.areas.now), omega arith)

pub loop-area-preserved : goal.loop-area-preserved
loop-area-preserved c =
    rw (c.min-start.ensures, c.start_in_control.ensures)
    (control_more _ _ _ _ (rw (rest_at _ _ _ c.loop-area-test.true c.area-item.is) at c.loop-area.invariant.0), omega (arith, c.loop-area.invariant.1))

pub returns-clause-start : goal.returns-clause-start
returns-clause-start c = control_none _ _ c.loop-area.invariant.1 (rw (none_left _ _ c.loop-area-test.false) at c.loop-area.invariant.0)
