use Rattle.std.proofs.Common.{◌≡◌, ◌-◌, Option, true}
use Rattle.vax_outside.specs.Channels.{Channels}
use Rattle.vax_machine.specs.Meaning.{engine}
use Rattle.vax_machine.specs.Run.{system_of}
use Rattle.vax_machine.specs.Writing.{OnlyWrote}
use Rattle.vax_watch.specs.Plans.{asked_of}
use Rattle.vax_watch.specs.Traced.{Trace}
use Rattle.vax_watch.specs.Tracing.{IsFor, Stands, stage_of}
use Rattle.vax_watch.proofs.steps.trace.Given as goal

abbrev pub invariant-loop-end : goal.invariant-loop-end
invariant-loop-end g l = record {
  asked : asked_of l.plan ≡ asked_of l.fn.plan;
  stands : (t : Trace) → (old : Option Channels) → IsFor t l.limits l.schedule (asked_of l.fn.plan) → Stands t old (stage_of (system_of (engine l.fn.machine) (g.F.PageFile.contents l.fn.file) (g.K.Sink.contents l.fn.sink)) l.fn.notes l.fn.plan) → Stands t old (stage_of (system_of (engine l.machine) (g.F.PageFile.contents l.file) (g.K.Sink.contents l.sink)) l.notes l.plan);
  only : OnlyWrote true (g.K.Sink.contents l.fn.sink) (g.K.Sink.contents l.sink);
  quiet : (g.F.PageFile.faults l.file).count ≡ (g.F.PageFile.faults l.fn.file).count;
  written : (g.K.Sink.faults l.sink).count ≡ (g.K.Sink.faults l.fn.sink).count;
}

abbrev pub decreases-loop-end : goal.decreases-loop-end
decreases-loop-end g l = l.limits.steps - (engine l.machine).steps
