use Rattle.std.proofs.Common.{◌∙◌, refl}
use Rattle.vax_outside.proofs.Counting.{counts_still, counts_then}
use Rattle.vax_debug_acts.proofs.evictions.evict_pages.Goals as goal

pub loop-i-init : goal.loop-i-init
loop-i-init g c = record { stays = λ sink o s replies here. here; quiet = refl }

pub loop-i-preserved : goal.loop-i-preserved
loop-i-preserved g c = record {
  stays = λ sink o s replies here. c.evict.ensures.stays sink o s replies (c.loop-i.invariant.stays sink o s replies here);
  quiet = c.in-Ok.ensures.counts.quiet ∙ c.loop-i.invariant.quiet;
}

pub returns-in-Err-clause-stays : goal.returns-in-Err-clause-stays
returns-in-Err-clause-stays g c = λ sink o s replies here. c.evict.ensures.stays sink o s replies (c.loop-i.invariant.stays sink o s replies here)

pub returns-in-Err-clause-counts : goal.returns-in-Err-clause-counts
returns-in-Err-clause-counts g c = counts_then refl c.loop-i.invariant.quiet c.in-Err.ensures.counts

pub returns-clause-stays : goal.returns-clause-stays
returns-clause-stays g c = λ sink o s replies here. c.loop-i.invariant.stays sink o s replies here

pub returns-clause-counts : goal.returns-clause-counts
returns-clause-counts g c = counts_still refl c.loop-i.invariant.quiet
