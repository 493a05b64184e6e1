use Rattle.std.proofs.Common.{◌≡◌, inl, refl, subst, sym}
use Rattle.vax_outside.specs.Faults.{Rose}
use Rattle.vax_jobs.specs.Beginning.{machines, pooling}
use Rattle.vax_jobs.specs.Running.{Ends, setting_of, system_of}
use Rattle.vax_jobs.specs.Shared.{AllDone, ByTurns}
use Rattle.vax_jobs.specs.declared.ends.JobsEnd.{JobsEnd}
use Rattle.vax_jobs.specs.declared.ends.JobsEnd.TheVariants.{Done, Turns, PageFault, WriteFault}
use Rattle.vax_together.proofs.Reporting.{counts_so, cut_so, lost_so, only_so, order_same, stopped_so}
use Rattle.vax_together.specs.Together.{EndsBy}
use Rattle.vax_together.proofs.run.run_and_report.Goals as goal

pub returns-in-Done-clause-reports : goal.returns-in-Done-clause-reports
returns-in-Done-clause-reports g c = λ s ready.
    stopped_so Done c.answer.result AllDone (Rose (g.F.PageFile.faults c.args.file.now) (g.F.PageFile.faults c.run.new.file)) (setting_of c.args.order.now c.args.steps c.args.turns (pooling c.args.jobs)) s (system_of (pooling c.run.new.self) (machines c.run.new.self) (g.F.PageFile.contents c.run.new.file)) (g.K.Sink.contents c.args.sink.now) (g.K.Sink.contents c.run.new.sink) (g.K.Sink.contents c.answer.new.sink) _ _
    (λ r e w. subst (λ (k : JobsEnd). EndsBy k (Rose (g.F.PageFile.faults c.args.file.now) (g.F.PageFile.faults c.run.new.file)) (setting_of c.args.order.now c.args.steps c.args.turns (pooling c.args.jobs)) s (g.K.Sink.contents c.args.sink.now) (g.K.Sink.contents c.answer.new.sink)) (sym e) w) refl (c.in-Done.ensures.runs s ready) c.answer.ensures

pub returns-in-Done-clause-only : goal.returns-in-Done-clause-only
returns-in-Done-clause-only g c =
    only_so Done c.answer.result _ (g.K.Sink.contents c.args.sink.now) (g.K.Sink.contents c.run.new.sink) (g.K.Sink.contents c.answer.new.sink) _ _ (λ h. h) c.in-Done.ensures.only.0 c.in-Done.ensures.only.1 c.answer.ensures

pub returns-in-Done-clause-counts : goal.returns-in-Done-clause-counts
returns-in-Done-clause-counts g c =
    counts_so Done c.answer.result _ _ _ _ _ _ _ _ (λ e. let no : Done ≡ WriteFault = e in cc) c.in-Done.ensures.counts c.answer.ensures

pub returns-in-Turns-clause-reports : goal.returns-in-Turns-clause-reports
returns-in-Turns-clause-reports g c = λ s ready.
    stopped_so Turns c.answer-in-Turns.result ByTurns (Rose (g.F.PageFile.faults c.args.file.now) (g.F.PageFile.faults c.run.new.file)) (setting_of c.args.order.now c.args.steps c.args.turns (pooling c.args.jobs)) s (system_of (pooling c.run.new.self) (machines c.run.new.self) (g.F.PageFile.contents c.run.new.file)) (g.K.Sink.contents c.args.sink.now) (g.K.Sink.contents c.run.new.sink) (g.K.Sink.contents c.answer-in-Turns.new.sink) _ _
    (λ r e w. subst (λ (k : JobsEnd). EndsBy k (Rose (g.F.PageFile.faults c.args.file.now) (g.F.PageFile.faults c.run.new.file)) (setting_of c.args.order.now c.args.steps c.args.turns (pooling c.args.jobs)) s (g.K.Sink.contents c.args.sink.now) (g.K.Sink.contents c.answer-in-Turns.new.sink)) (sym e) w) refl (c.in-Turns.ensures.runs s ready) c.answer-in-Turns.ensures

pub returns-in-Turns-clause-only : goal.returns-in-Turns-clause-only
returns-in-Turns-clause-only g c =
    only_so Turns c.answer-in-Turns.result _ (g.K.Sink.contents c.args.sink.now) (g.K.Sink.contents c.run.new.sink) (g.K.Sink.contents c.answer-in-Turns.new.sink) _ _ (λ h. h) c.in-Turns.ensures.only.0 c.in-Turns.ensures.only.1 c.answer-in-Turns.ensures

pub returns-in-Turns-clause-counts : goal.returns-in-Turns-clause-counts
returns-in-Turns-clause-counts g c =
    counts_so Turns c.answer-in-Turns.result _ _ _ _ _ _ _ _ (λ e. let no : Turns ≡ WriteFault = e in cc) c.in-Turns.ensures.counts c.answer-in-Turns.ensures

pub returns-in-PageFault-clause-reports : goal.returns-in-PageFault-clause-reports
returns-in-PageFault-clause-reports g c = λ s ready.
    cut_so c.answer-in-PageFault.result (Rose (g.F.PageFile.faults c.args.file.now) (g.F.PageFile.faults c.run.new.file)) (setting_of c.args.order.now c.args.steps c.args.turns (pooling c.args.jobs)) s (system_of (pooling c.run.new.self) (machines c.run.new.self) (g.F.PageFile.contents c.run.new.file)) (g.K.Sink.contents c.args.sink.now) (g.K.Sink.contents c.run.new.sink) (g.K.Sink.contents c.answer-in-PageFault.new.sink) _ _ (c.in-PageFault.ensures.counts.fault refl) refl (c.in-PageFault.ensures.runs s ready) c.answer-in-PageFault.ensures

pub returns-in-PageFault-clause-only : goal.returns-in-PageFault-clause-only
returns-in-PageFault-clause-only g c =
    only_so PageFault c.answer-in-PageFault.result _ (g.K.Sink.contents c.args.sink.now) (g.K.Sink.contents c.run.new.sink) (g.K.Sink.contents c.answer-in-PageFault.new.sink) _ _ (λ h. h) c.in-PageFault.ensures.only.0 c.in-PageFault.ensures.only.1 c.answer-in-PageFault.ensures

pub returns-in-PageFault-clause-counts : goal.returns-in-PageFault-clause-counts
returns-in-PageFault-clause-counts g c =
    counts_so PageFault c.answer-in-PageFault.result _ _ _ _ _ _ _ _ (λ e. let no : PageFault ≡ WriteFault = e in cc) c.in-PageFault.ensures.counts c.answer-in-PageFault.ensures

pub returns-clause-reports : goal.returns-clause-reports
returns-clause-reports g c = λ s ready.
    let x = setting_of c.args.order.now c.args.steps c.args.turns (pooling c.args.jobs) in
    let y = system_of (pooling c.args.jobs) (machines c.args.jobs) (g.F.PageFile.contents c.args.file.now) in
    let z = system_of (pooling c.run.new.self) (machines c.run.new.self) (g.F.PageFile.contents c.run.new.file) in
    let w : Ends WriteFault x s z (g.K.Sink.contents c.args.sink.now) (g.K.Sink.contents c.run.new.sink) = c.in-WriteFault.ensures.runs s ready in
    inl (lost_so x s w.count (g.K.Sink.contents c.args.sink.now) (g.K.Sink.contents c.run.new.sink) (order_same x y s refl ready c.requires) w.runs w.wrote)
