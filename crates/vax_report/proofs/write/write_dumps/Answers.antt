use Rattle.std.proofs.Common.{arith, rules}
use Rattle.vax_outside.proofs.Counting.{counts_then}
use Rattle.vax_outside.proofs.Growth.{prefix_next, on_err}
use Rattle.vax_outside.specs.declared.traits.Chan.TheVariants.{Report}
use Rattle.vax_report.specs.Report.{dump_text}
use Rattle.vax_report.proofs.write.write_dumps.Goals as goal

pub returns-in_err-write_dump-clause-prefix : goal.returns-in_err-write_dump-clause-prefix
returns-in_err-write_dump-clause-prefix g c =
    on_err c.from_residual.result (prefix_next _ _ _ Report dump_text c.args.dumps.now c.loop-dump.dump-index c.dump-item.result (omega arith) c.loop-dump.invariant.grew (rw (← c.dump-item.is) c.in_err-write_dump.ensures.prefix))

pub returns-in_err-write_dump-clause-counts : goal.returns-in_err-write_dump-clause-counts
returns-in_err-write_dump-clause-counts g c = counts_then (search rules) c.loop-dump.invariant.quiet c.in_err-write_dump.ensures.counts
