use Rattle.std.proofs.Common.{◌++◌, ◌∙◌, List, ap, arith, length, rules, subst, sym, ℕ}
use Rattle.vax_jobs.specs.Beginning.{machines}
use Rattle.vax_jobs_report.proofs.Reporting.{text_of}
use Rattle.vax_jobs_report.specs.Reports.{job_label, machine_reports, machine_text, report_on}
use Rattle.vax_machine.specs.Meaning.{engine}
use Rattle.vax_outside.proofs.Counting.{counts_then}
use Rattle.vax_outside.proofs.Growth.{grew_next_number, grew_numbers, on_err, prefix_next_number}
use Rattle.vax_outside.specs.Channels.{Grew, GrewByPrefix, only}
use Rattle.vax_outside.specs.declared.traits.Chan.TheVariants.{Report}
use Rattle.vax_report.specs.declared.Last.{Last}
use Rattle.vax_jobs_report.proofs.report.report_jobs.Goals as goal

pub loop-job-preserved : goal.loop-job-preserved
loop-job-preserved g c =
    let ms = machines c.args.jobs.now in
    let text = ap (λ (why : Last). job_label c.loop-job.job ++ report_on why (engine c.machine-machine.result.now)) c.last_of.ensures ∙ sym (text_of c.args.steps c.args.other ms c.loop-job.job c.machine-machine.result.now c.machine-machine.ensures) in
    record {
      quiet = c.in_ok-put_job.ensures.counts.quiet ∙ c.loop-job.invariant.quiet;
      grew = grew_next_number _ _ _ Report (machine_text c.args.steps c.args.other ms) (length ms) c.loop-job.job (let l = c.loop-job-test.true in let n = c.count-job-end.ensures in omega (arith, l, n)) c.loop-job.invariant.grew
          (subst (λ (bytes : List ℕ). Grew (g.K.Sink.contents c.loop-job.sink) (g.K.Sink.contents c.put_job.new.sink) (only Report bytes)) text c.in_ok-put_job.ensures.ok);
    }

pub returns-in_err-put_job-clause-prefix : goal.returns-in_err-put_job-clause-prefix
unfolding machine_reports
returns-in_err-put_job-clause-prefix g c =
    let ms = machines c.args.jobs.now in
    let text = ap (λ (why : Last). job_label c.loop-job.job ++ report_on why (engine c.machine-machine.result.now)) c.last_of.ensures ∙ sym (text_of c.args.steps c.args.other ms c.loop-job.job c.machine-machine.result.now c.machine-machine.ensures) in
    on_err c.from_residual.result (prefix_next_number _ _ _ Report (machine_text c.args.steps c.args.other ms) (length ms) c.loop-job.job (let l = c.loop-job-test.true in let n = c.count-job-end.ensures in omega (arith, l, n)) c.loop-job.invariant.grew
    (subst (λ (bytes : List ℕ). GrewByPrefix (g.K.Sink.contents c.loop-job.sink) (g.K.Sink.contents c.put_job.new.sink) (only Report bytes)) text c.in_err-put_job.ensures.prefix))

pub returns-clause-ok : goal.returns-clause-ok
unfolding machine_reports
returns-clause-ok g c =
    let ms = machines c.args.jobs.now in
    grew_numbers _ _ Report (machine_text c.args.steps c.args.other ms) (length ms) c.loop-job.job (let l = c.loop-job-test.false in let n = c.count-job-end.ensures in omega (arith, l, n)) c.loop-job.invariant.grew

pub returns-in_err-put_job-clause-counts : goal.returns-in_err-put_job-clause-counts
returns-in_err-put_job-clause-counts g c = counts_then (search rules) c.loop-job.invariant.quiet c.in_err-put_job.ensures.counts
