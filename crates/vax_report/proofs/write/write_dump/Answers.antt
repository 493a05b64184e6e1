use Rattle.std.proofs.Common.{◌≡◌, ◌*◌, length, ap, ◌∙◌, arith, rules}
use Rattle.std.specs.Int.{div_ceil}
use Rattle.vax_outside.proofs.Counting.{counts_then}
use Rattle.vax_outside.proofs.Growth.{grew_next_number, prefix_next_number, grew_numbers, on_err}
use Rattle.vax_outside.specs.declared.traits.Chan.TheVariants.{Report}
use Rattle.vax_report.specs.Report.{dump_line, dump_text}
use Rattle.vax_report.proofs.write.write_dump.Goals as goal

pub returns-in_err-write_dump_line-clause-prefix : goal.returns-in_err-write_dump_line-clause-prefix
unfolding dump_text
returns-in_err-write_dump_line-clause-prefix g c =
    let total : length c.as_slice-total.result.now ≡ length c.args.dump.now.bytes = ap length c.as_slice-total.ensures in
    on_err c.from_residual.result (prefix_next_number _ _ _ Report (λ k. dump_line c.args.dump.now (16 * k)) (div_ceil (length c.args.dump.now.bytes) 16) c.loop-line.line (omega arith) c.loop-line.invariant.grew c.in_err-write_dump_line.ensures.prefix)

pub loop-line-preserved : goal.loop-line-preserved
loop-line-preserved g c =
    let total : length c.as_slice-total.result.now ≡ length c.args.dump.now.bytes = ap length c.as_slice-total.ensures in
    record {
      quiet = c.in_ok-write_dump_line.ensures.counts.quiet ∙ c.loop-line.invariant.quiet;
      grew = grew_next_number _ _ _ Report (λ k. dump_line c.args.dump.now (16 * k)) (div_ceil (length c.args.dump.now.bytes) 16) c.loop-line.line (omega arith) c.loop-line.invariant.grew c.in_ok-write_dump_line.ensures.ok;
    }

pub returns-clause-ok : goal.returns-clause-ok
unfolding dump_text
returns-clause-ok g c =
    let total : length c.as_slice-total.result.now ≡ length c.args.dump.now.bytes = ap length c.as_slice-total.ensures in
    grew_numbers _ _ Report (λ k. dump_line c.args.dump.now (16 * k)) (div_ceil (length c.args.dump.now.bytes) 16) c.loop-line.line (omega arith) c.loop-line.invariant.grew

pub returns-in_err-write_dump_line-clause-counts : goal.returns-in_err-write_dump_line-clause-counts
returns-in_err-write_dump_line-clause-counts g c = counts_then (search rules) c.loop-line.invariant.quiet c.in_err-write_dump_line.ensures.counts
