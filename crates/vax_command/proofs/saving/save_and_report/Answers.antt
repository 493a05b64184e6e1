use Rattle.std.proofs.Common.{inl, inr, refl}
use Rattle.vax_outside.specs.Channels.{kept_state}
use Rattle.vax_machine.specs.Meaning.{engine}
use Rattle.vax_command.specs.Around.{change, seen_of}
use Rattle.vax_report.specs.declared.Last.TheVariants as last
use Rattle.vax_command.specs.declared.status.Status.TheVariants.{PageFault}
use Rattle.vax_command.proofs.Admitting.{fault_admits, none_admits}
use Rattle.vax_command.proofs.SaveLaws.{answer_lost, same_report, saved_answer, saved_lost, saved_part, saved_whole}
use Rattle.vax_command.proofs.saving.save_and_report.Goals as goal

pub returns-in-Written-clause-saves : goal.returns-in-Written-clause-saves
returns-in-Written-clause-saves g c = λ place means.
    let sink = change g.K.Sink.faults g.K.Sink.contents c.args.sink.now c.report.new.sink in
    let pages = change g.F.PageFile.faults g.F.PageFile.contents c.args.pages.now c.save.new.file in
    saved_whole sink pages (engine c.args.machine) (engine c.save.new.machine) c.args.last c.args.meant c.report.result
    (same_report (engine c.args.machine) (engine c.save.new.machine) _ _ c.save.ensures.kept) (seen_of g.K.Sink.faults g.K.Sink.contents c.save.new.sink) c.in-Written.ensures.sink.quiet
    place (c.in-Written.ensures.saves place means) c.report.ensures

pub returns-in-Written-clause-answers : goal.returns-in-Written-clause-answers
returns-in-Written-clause-answers g c =
    let sink = change g.K.Sink.faults g.K.Sink.contents c.args.sink.now c.report.new.sink in
    let pages = change g.F.PageFile.faults g.F.PageFile.contents c.args.pages.now c.save.new.file in
    let some = c.in-Written.ensures.some in
    saved_answer sink pages (engine c.args.machine) (engine c.save.new.machine) c.args.last c.args.meant c.report.result
    (same_report (engine c.args.machine) (engine c.save.new.machine) _ _ c.save.ensures.kept) (seen_of g.K.Sink.faults g.K.Sink.contents c.save.new.sink) c.in-Written.ensures.sink.quiet
    (kept_state some.0) some.1 c.args.last c.args.meant (inl refl) c.report.ensures

pub returns-in-PageFault-clause-saves : goal.returns-in-PageFault-clause-saves
returns-in-PageFault-clause-saves g c = λ place means.
    let sink = change g.K.Sink.faults g.K.Sink.contents c.args.sink.now c.report-in-PageFault.new.sink in
    let pages = change g.F.PageFile.faults g.F.PageFile.contents c.args.pages.now c.save.new.file in
    saved_part sink pages (engine c.args.machine) (engine c.save.new.machine) c.args.last c.args.meant c.report-in-PageFault.result
    (same_report (engine c.args.machine) (engine c.save.new.machine) _ _ c.save.ensures.kept) (seen_of g.K.Sink.faults g.K.Sink.contents c.save.new.sink) c.in-PageFault.ensures.sink.quiet
    place c.in-PageFault.ensures.file.cause (c.in-PageFault.ensures.saves place means) c.report-in-PageFault.ensures

pub returns-in-PageFault-clause-answers : goal.returns-in-PageFault-clause-answers
returns-in-PageFault-clause-answers g c =
    let sink = change g.K.Sink.faults g.K.Sink.contents c.args.sink.now c.report-in-PageFault.new.sink in
    let pages = change g.F.PageFile.faults g.F.PageFile.contents c.args.pages.now c.save.new.file in
    let some = c.in-PageFault.ensures.some in
    saved_answer sink pages (engine c.args.machine) (engine c.save.new.machine) c.args.last c.args.meant c.report-in-PageFault.result
    (same_report (engine c.args.machine) (engine c.save.new.machine) _ _ c.save.ensures.kept) (seen_of g.K.Sink.faults g.K.Sink.contents c.save.new.sink) c.in-PageFault.ensures.sink.quiet
    some.1.prefix some.1.grew last.PageFault PageFault (inr (c.in-PageFault.ensures.file.cause, refl)) c.report-in-PageFault.ensures

pub returns-in-WriteFault-clause-saves : goal.returns-in-WriteFault-clause-saves
returns-in-WriteFault-clause-saves g c = λ place means.
    saved_lost (change g.K.Sink.faults g.K.Sink.contents c.args.sink.now c.save.new.sink) (change g.F.PageFile.faults g.F.PageFile.contents c.args.pages.now c.save.new.file) (engine c.args.machine) c.args.last c.args.meant
    place c.in-WriteFault.ensures.sink.cause (c.in-WriteFault.ensures.saves place means)

pub returns-in-WriteFault-clause-answers : goal.returns-in-WriteFault-clause-answers
returns-in-WriteFault-clause-answers g c =
    let some = c.in-WriteFault.ensures.some in
    answer_lost (change g.K.Sink.faults g.K.Sink.contents c.args.sink.now c.save.new.sink) (change g.F.PageFile.faults g.F.PageFile.contents c.args.pages.now c.save.new.file) c.args.meant
    some.0 c.in-WriteFault.ensures.sink.cause some.1

pub returns-in-Written-clause-failed : goal.returns-in-Written-clause-failed
returns-in-Written-clause-failed g c = none_admits _ _ _ _ c.in-Written.ensures.file.quiet

pub returns-in-PageFault-clause-failed : goal.returns-in-PageFault-clause-failed
returns-in-PageFault-clause-failed g c = fault_admits _ _ _ _ _ _ _ c.in-PageFault.ensures.file.cause c.report-in-PageFault.ensures

pub returns-in-WriteFault-clause-failed : goal.returns-in-WriteFault-clause-failed
returns-in-WriteFault-clause-failed g c = none_admits _ _ _ _ c.in-WriteFault.ensures.file.quiet
