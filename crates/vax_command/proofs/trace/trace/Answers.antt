use Rattle.std.proofs.Common.{inr, refl, subst, arith}
use Rattle.vax_machine.specs.Machine.{keeping}
use Rattle.vax_machine.specs.Meaning.{engine}
use Rattle.vax_report.specs.declared.Last.{Last}
use Rattle.vax_watch.specs.Plans.{breaks_of, watches_of}
use Rattle.vax_cli.specs.declared.command.Strictness.TheVariants.{Off}
use Rattle.vax_command.specs.Around.{change, outside, seen_of}
use Rattle.vax_command.specs.Fresh.{IsReported}
use Rattle.vax_command.specs.Room.{items_of}
use Rattle.vax_command.specs.Tracing.{Traced}
use Rattle.vax_command.specs.TracingEnds.{last_to}
use Rattle.vax_command.specs.declared.status.Status.{Status}
use Rattle.vax_command.proofs.Admitting.{admits_then, fault_admits}
use Rattle.vax_command.proofs.LoadLaws.{rose_from}
use Rattle.vax_command.proofs.RunLaws.{Starts}
use Rattle.vax_command.proofs.TraceLaws.{changed_rose, page_quiet, page_rose, sink_quiet, traced_cut, traced_lost, traced_whole}
use Rattle.vax_command.proofs.trace.trace.Goals as goal

pub returns-in-PageFault-clause-went : goal.returns-in-PageFault-clause-went
returns-in-PageFault-clause-went g c = λ frames m f.
    let s : Traced = record { run = record { limits = c.args.limits.now; areas = (keeping (engine c.args.machine)).areas; rules = c.args.schedule.now; frames = frames; start = m; items = items_of c.args.room.blanks.items; strict = Off }; breaks = breaks_of c.args.plan; watches = watches_of c.args.plan; texts = c.args.plan.texts } in
    let starts : Starts s.run (engine c.args.machine) = let t = c.requires.few_turns in record { is_fresh = f; areas = refl; low = omega (arith, t) } in
    let seen = outside (change g.K.Sink.faults g.K.Sink.contents c.args.sink.now c.report.new.sink) (change g.F.PageFile.faults g.F.PageFile.contents c.args.pages.now c.traced.new.file) in
    traced_cut seen s (engine c.args.machine) (engine c.traced.new.machine) starts
    (seen_of g.K.Sink.faults g.K.Sink.contents c.traced.new.sink) c.report.result
    (page_rose _ _ _ _ c.in-PageFault.ensures.counts) c.in-PageFault.ensures.traces c.traced.ensures.only (sink_quiet _ _ _ _ _ (λ x. cc) c.in-PageFault.ensures.counts) c.report.ensures

pub returns-in-WriteFault-clause-went : goal.returns-in-WriteFault-clause-went
returns-in-WriteFault-clause-went g c = λ frames m f.
    let s : Traced = record { run = record { limits = c.args.limits.now; areas = (keeping (engine c.args.machine)).areas; rules = c.args.schedule.now; frames = frames; start = m; items = items_of c.args.room.blanks.items; strict = Off }; breaks = breaks_of c.args.plan; watches = watches_of c.args.plan; texts = c.args.plan.texts } in
    let starts : Starts s.run (engine c.args.machine) = let t = c.requires.few_turns in record { is_fresh = f; areas = refl; low = omega (arith, t) } in
    let seen = outside (change g.K.Sink.faults g.K.Sink.contents c.args.sink.now c.traced.new.sink) (change g.F.PageFile.faults g.F.PageFile.contents c.args.pages.now c.traced.new.file) in
    traced_lost seen s (engine c.args.machine) (engine c.traced.new.machine) starts
    c.in-WriteFault.ensures.traces c.traced.ensures.only c.in-WriteFault.ensures.counts.sink.cause

pub returns-in_default-clause-went : goal.returns-in_default-clause-went
returns-in_default-clause-went g c = λ frames m f.
    let s : Traced = record { run = record { limits = c.args.limits.now; areas = (keeping (engine c.args.machine)).areas; rules = c.args.schedule.now; frames = frames; start = m; items = items_of c.args.room.blanks.items; strict = Off }; breaks = breaks_of c.args.plan; watches = watches_of c.args.plan; texts = c.args.plan.texts } in
    let starts : Starts s.run (engine c.args.machine) = let t = c.requires.few_turns in record { is_fresh = f; areas = refl; low = omega (arith, t) } in
    let seen = outside (change g.K.Sink.faults g.K.Sink.contents c.args.sink.now c.report_all.new.sink) (change g.F.PageFile.faults g.F.PageFile.contents c.args.pages.now c.report_all.new.pages) in
    let read = change g.F.PageFile.faults g.F.PageFile.contents c.traced.new.file c.report_all.new.pages in
    let ran = c.report_all.ensures.reported in
    let a = c.in_default.not-PageFault in
    let b = c.in_default.not-WriteFault in
    let told = subst (λ (z : Last). IsReported read (engine c.traced.new.machine) z c.status_to.result s.run.items ran.meant ran.grown) c.last_to.ensures ran.so in
    let so = subst (λ (z : Status). IsReported read (engine c.traced.new.machine) (last_to c.traced.result) z s.run.items ran.meant ran.grown) c.status_to.ensures told in
    traced_whole seen s (engine c.args.machine) (engine c.traced.new.machine) starts
    (seen_of g.K.Sink.faults g.K.Sink.contents c.traced.new.sink) c.report_all.result
    read (λ r. rose_from _ _ _ (page_quiet _ _ _ _ _ a b c.traced.ensures.counts) r) c.report_all.ensures.reads.only c.traced.result a b
    c.traced.ensures.traces c.traced.ensures.only (sink_quiet _ _ _ _ _ b c.traced.ensures.counts) ran.meant ran.grown so ran.ends

pub returns-in_default-clause-failed : goal.returns-in_default-clause-failed
returns-in_default-clause-failed g c = admits_then _ _ _ _ _ (page_quiet _ _ _ _ _ c.in_default.not-PageFault c.in_default.not-WriteFault c.traced.ensures.counts) c.report_all.ensures.failed

pub returns-in-PageFault-clause-failed : goal.returns-in-PageFault-clause-failed
returns-in-PageFault-clause-failed g c = fault_admits _ _ _ _ _ _ _ (page_rose _ _ _ _ c.in-PageFault.ensures.counts) c.report.ensures

pub returns-in-WriteFault-clause-failed : goal.returns-in-WriteFault-clause-failed
returns-in-WriteFault-clause-failed g c = λ n. record { once = changed_rose _ _ _ c.in-WriteFault.ensures.counts.file n; answer = inr refl }
