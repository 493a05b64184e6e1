use Rattle.std.proofs.Common.{◌∙◌}
use Rattle.vax_vectors.proofs.Arrays.{array_start, array_next, array_end}
use Rattle.vax_vectors.proofs.text.push_array.Goals as goal

pub loop-k-init : goal.loop-k-init
loop-k-init g c = c.in_ok-extend_from_slice.ensures.items ∙ array_start g.T.Item.text _

pub loop-k-preserved : goal.loop-k-preserved
loop-k-preserved g c = array_next g.T.Item.text c.args.items.now c.loop-k.k c.index-items-k.result _ _ _ _ c.loop-k-test.true c.index-items-k.is c.loop-k.invariant c.in_ok-push_comma.ensures c.in_ok-push_to.ensures

pub returns : goal.returns
returns g c = array_end g.T.Item.text c.args.items.now c.loop-k.k _ _ _ c.loop-k-test.false c.loop-k.invariant c.in_ok-extend_from_slice-2.ensures.items
