use Rattle.std.proofs.Common.{◌<◌, ◌≤◌, ◌∙◌, refl, arith}
use Rattle.vax_outside.proofs.Counting.{counts_still, counts_then}
use Rattle.vax_debug.proofs.Leading.{leads_first, leads_nowhere, leads_on, leads_there}
use Rattle.vax_debug.proofs.values.through.Goals as goal

pub loop-init : goal.loop-init
loop-init g c = record {
  leads = λ sink o s replies here. leads_first c.args.count s.machine c.args.address;
  stays = λ sink o s replies here. here;
  quiet = refl;
}

pub loop-preserved : goal.loop-preserved
loop-preserved g c =
    let below : c.loop.counter < c.args.count = omega arith in
    let v = c.loop.invariant in
    record {
      leads = λ sink o s replies here.
          leads_on c.args.count c.loop.counter s.machine c.args.address c.loop.address c.in-Ok-Some.next below (v.leads sink o s replies here)
          ((rw c.in-Ok-Some.field-0-is at c.in-Ok-Some.ensures.tells) sink o s replies (v.stays sink o s replies here));
      stays = λ sink o s replies here. c.longword.ensures.stays sink o s replies (v.stays sink o s replies here);
      quiet = c.in-Ok-Some.ensures.counts.quiet ∙ v.quiet;
    }

pub returns-in-Ok-None-clause-tells : goal.returns-in-Ok-None-clause-tells
returns-in-Ok-None-clause-tells g c = λ sink o s replies here.
    let below : c.loop.counter < c.args.count = omega arith in
    let v = c.loop.invariant in
    leads_nowhere c.args.count c.loop.counter s.machine c.args.address c.loop.address below (v.leads sink o s replies here)
    ((rw c.in-Ok-None.field-0-is at c.in-Ok-None.ensures.tells) sink o s replies (v.stays sink o s replies here))

pub returns-in-Ok-None-clause-stays : goal.returns-in-Ok-None-clause-stays
returns-in-Ok-None-clause-stays g c = λ sink o s replies here. c.longword.ensures.stays sink o s replies (c.loop.invariant.stays sink o s replies here)

pub returns-in-Err-clause-stays : goal.returns-in-Err-clause-stays
returns-in-Err-clause-stays g c = λ sink o s replies here. c.longword.ensures.stays sink o s replies (c.loop.invariant.stays sink o s replies here)

pub returns-in-Ok-None-clause-counts : goal.returns-in-Ok-None-clause-counts
returns-in-Ok-None-clause-counts g c = counts_then refl c.loop.invariant.quiet c.in-Ok-None.ensures.counts

pub returns-in-Err-clause-counts : goal.returns-in-Err-clause-counts
returns-in-Err-clause-counts g c = counts_then refl c.loop.invariant.quiet c.in-Err.ensures.counts

pub returns-clause-tells : goal.returns-clause-tells
returns-clause-tells g c = λ sink o s replies here.
    let all : c.args.count ≤ c.loop.counter = omega arith in
    leads_there c.args.count c.loop.counter s.machine c.args.address c.loop.address all (c.loop.invariant.leads sink o s replies here)

pub returns-clause-stays : goal.returns-clause-stays
returns-clause-stays g c = λ sink o s replies here. c.loop.invariant.stays sink o s replies here

pub returns-clause-counts : goal.returns-clause-counts
returns-clause-counts g c = counts_still refl c.loop.invariant.quiet
