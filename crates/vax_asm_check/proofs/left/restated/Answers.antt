use Rattle.vax_asm_check.proofs.Restating.{all_restated, one_restated}
use Rattle.vax_asm_check.specs.View.{left_of}
use Rattle.vax_asm_check.proofs.left.restated.Goals as goal

pub loop-stated-preserved : goal.loop-stated-preserved
loop-stated-preserved c =
    one_restated c.args.stood.now c.loop-stated.stated-index c.stated-item.result (left_of c.loop-stated.left) (left_of c.restate.new.self) _ c.loop-stated-test.true c.stated-item.is c.in_ok-restate.ensures c.loop-stated.invariant

pub returns : goal.returns
returns c = all_restated c.args.stood.now c.loop-stated.stated-index (left_of c.loop-stated.left) _ c.loop-stated-test.false c.loop-stated.invariant
