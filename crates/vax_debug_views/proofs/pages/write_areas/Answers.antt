use Rattle.std.proofs.Common.{◌∙◌, arith, rules}
use Rattle.vax_outside.proofs.Counting.{counts_then}
use Rattle.vax_outside.proofs.Growth.{grew_next, on_err, prefix_next}
use Rattle.vax_outside.specs.declared.traits.Chan.TheVariants.{Report}
use Rattle.vax_machine.specs.Meaning.{engine}
use Rattle.vax_debug.specs.Pages.{pages_at}
use Rattle.vax_debug_views.specs.Pages.{area_shown}
use Rattle.vax_debug_views.proofs.pages.write_areas.Goals as goal

pub returns-in_err-write_area-clause-prefix : goal.returns-in_err-write_area-clause-prefix
returns-in_err-write_area-clause-prefix g c =
    on_err c.from_residual.result (prefix_next _ _ _ Report (area_shown c.args.legend.now (pages_at (engine c.args.machine.now))) c.args.areas.now c.loop-area.area-index c.area-item.result (omega arith) c.loop-area.invariant.grew (rw (← c.area-item.is) c.in_err-write_area.ensures.prefix))

pub loop-area-preserved : goal.loop-area-preserved
loop-area-preserved g c = record {
  quiet = c.in_ok-write_area.ensures.counts.quiet ∙ c.loop-area.invariant.quiet;
  grew = grew_next _ _ _ Report (area_shown c.args.legend.now (pages_at (engine c.args.machine.now))) c.args.areas.now c.loop-area.area-index c.area-item.result (omega arith) c.loop-area.invariant.grew (rw (← c.area-item.is) c.in_ok-write_area.ensures.ok);
}

pub returns-in_err-write_area-clause-counts : goal.returns-in_err-write_area-clause-counts
returns-in_err-write_area-clause-counts g c = counts_then (search rules) c.loop-area.invariant.quiet c.in_err-write_area.ensures.counts
