use Rattle.std.proofs.Common.{arith, rules}
use Rattle.vax_outside.proofs.Counting.{counts_then}
use Rattle.vax_outside.proofs.Growth.{prefix_next, on_err}
use Rattle.vax_outside.specs.declared.traits.Chan.TheVariants.{Out}
use Rattle.vax_listing.specs.Listing.{area_lines, listing}
use Rattle.vax_listing.proofs.write_listing.Goals as goal

pub returns-in_err-write_area-clause-prefix : goal.returns-in_err-write_area-clause-prefix
unfolding listing
returns-in_err-write_area-clause-prefix g c =
    on_err c.from_residual.result (prefix_next _ _ _ Out area_lines c.args.areas.now c.loop-area.area-index c.area-item.result (omega arith) c.loop-area.invariant.grew (rw (← c.area-item.is) c.in_err-write_area.ensures.prefix))

pub returns-in_err-write_area-clause-counts : goal.returns-in_err-write_area-clause-counts
returns-in_err-write_area-clause-counts g c = counts_then (search rules) c.loop-area.invariant.quiet c.in_err-write_area.ensures.counts
