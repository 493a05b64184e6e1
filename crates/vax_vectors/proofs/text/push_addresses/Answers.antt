use Rattle.std.proofs.Common.{get_or, ◌∙◌}
use Rattle.vax_vectors.specs.Text.{address_text}
use Rattle.std.proofs.lemmas.List.{get_or_default}
use Rattle.vax_vectors.proofs.Arrays.{array_start, array_next, array_end}
use Rattle.vax_vectors.proofs.text.push_addresses.Goals as goal

pub loop-k-init : goal.loop-k-init
loop-k-init c = c.in_ok-extend_from_slice.ensures.items ∙ array_start address_text _

pub loop-k-preserved : goal.loop-k-preserved
loop-k-preserved c = array_next address_text c.args.pages.now c.loop-k.k (get_or c.args.pages.now c.loop-k.k 0) _ _ _ _ c.loop-k-test.true (get_or_default c.args.pages.now c.loop-k.k 0 _ c.loop-k-test.true) c.loop-k.invariant c.in_ok-push_comma.ensures c.in_ok-push_address.ensures

pub returns : goal.returns
returns c = array_end address_text c.args.pages.now c.loop-k.k _ _ _ c.loop-k-test.false c.loop-k.invariant c.in_ok-extend_from_slice-2.ensures.items
