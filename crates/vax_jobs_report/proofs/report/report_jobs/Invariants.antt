use Rattle.std.proofs.Common.{◌≡◌, length, take}
use Rattle.std.specs.List.{flat_map, range_with_len}
use Rattle.vax_jobs.specs.Beginning.{machines}
use Rattle.vax_jobs_report.specs.Reports.{machine_text}
use Rattle.vax_outside.specs.Channels.{Grew, only}
use Rattle.vax_outside.specs.declared.traits.Chan.TheVariants.{Report}
use Rattle.vax_jobs_report.proofs.report.report_jobs.Given as goal

-- the reports so far were written
abbrev pub invariant-loop-job : goal.invariant-loop-job
invariant-loop-job g l = record {
  quiet : (g.K.Sink.faults l.sink).count ≡ (g.K.Sink.faults l.fn.sink).count;
  grew : Grew (g.K.Sink.contents l.fn.sink) (g.K.Sink.contents l.sink) (only Report (flat_map (machine_text l.steps l.other (machines l.jobs)) (take l.job (range_with_len 0 (length (machines l.jobs))))));
}
