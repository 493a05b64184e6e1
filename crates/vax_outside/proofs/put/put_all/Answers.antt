use Rattle.std.proofs.Common.{◌∙◌, rules}
use Rattle.vax_outside.proofs.Counting.{counts_then}
use Rattle.vax_outside.proofs.Growth.{prefix_stays, prefix_grows, on_err}
use Rattle.vax_outside.proofs.put.put_all.Goals as goal

pub returns-in_err-count-clause-prefix : goal.returns-in_err-count-clause-prefix
returns-in_err-count-clause-prefix g c =
    let inv = c.loop-rest.invariant.front in
    on_err c.from_residual.result (prefix_stays _ _ _ c.args.chan inv.0 c.loop-rest.rest.now c.args.bytes.now inv.1 inv.2 c.in_err-count.ensures.err)

pub returns-in_err-count-clause-counts : goal.returns-in_err-count-clause-counts
returns-in_err-count-clause-counts g c = counts_then (search rules) c.loop-rest.invariant.quiet c.in_err-count.ensures.counts

pub loop-rest-preserved : goal.loop-rest-preserved
loop-rest-preserved g c =
    let inv = c.loop-rest.invariant.front in
    record {
      quiet = c.in_ok-count.ensures.counts.quiet ∙ c.loop-rest.invariant.quiet;
      front = prefix_grows _ _ _ c.args.chan inv.0 c.loop-rest.rest.now _ _ c.in_ok-count.count inv.1 inv.2 c.in_ok-count.ensures.ok c.split_at.ensures.back;
    }
