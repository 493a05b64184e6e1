use Rattle.std.proofs.Common.{inr, refl, ap, subst, ◌∙◌}
use Rattle.vax_machine.specs.Machine.{keeping}
use Rattle.vax_machine.specs.Meaning.{engine}
use Rattle.vax_machine.specs.Paged.{ByEnding, BySteps, ByTurns}
use Rattle.vax_machine.specs.declared.event.RunEnd.TheVariants as run_end
use Rattle.vax_command.proofs.LoadLaws.{rose_from}
use Rattle.vax_word.specs.declared.Core.{Core}
use Rattle.vax_command.specs.Answer.{status_of}
use Rattle.vax_command.specs.Fresh.{IsReported}
use Rattle.vax_command.specs.Went.{last_of}
use Rattle.vax_command.specs.declared.status.Status.{Status}
use Rattle.vax_command.specs.Around.{change, outside, seen_of}
use Rattle.vax_command.specs.Room.{items_of}
use Rattle.vax_command.specs.Course.{Course}
use Rattle.vax_command.proofs.Admitting.{admits_then, fault_admits}
use Rattle.vax_command.proofs.RunLaws.{went_cut, went_lost, went_whole}
use Rattle.vax_command.proofs.run.execute.Goals as goal

pub returns-in-Ended-clause-went : goal.returns-in-Ended-clause-went
returns-in-Ended-clause-went g c = λ b f.
    let course : Course = record { limits = c.args.limits.now; areas = (keeping (engine c.args.machine)).areas; rules = c.args.schedule.now; begins = b; items = items_of c.args.telling.room.blanks.items; strict = c.args.telling.strict } in
    let seen = outside (change g.K.Sink.faults g.K.Sink.contents c.args.sink.now c.report_all.new.sink) (change g.F.PageFile.faults g.F.PageFile.contents c.args.pages.now c.report_all.new.pages) in
    let read = change g.F.PageFile.faults g.F.PageFile.contents c.run.new.file c.report_all.new.pages in
    let ran = c.report_all.ensures.reported in
    let why = ByEnding c.in-Ended.ending in
    let meant = c.answer_ended-meant.ensures ∙ ap (λ (k : Core). status_of c.args.telling.strict k why) c.core.ensures in
    let so = subst (λ (z : Status). IsReported read (engine c.run.new.self) (last_of why) z (items_of c.args.telling.room.blanks.items) ran.meant ran.grown) meant ran.so in
    went_whole seen course (engine c.args.machine) (engine c.run.new.self) f
    (seen_of g.K.Sink.faults g.K.Sink.contents c.run.new.sink) c.report_all.result
    read (λ r. rose_from _ _ _ (c.in-Ended.ensures.unfailed (λ x. cc) (λ x. cc)) r) c.report_all.ensures.reads c.report_all.ensures.unread (run_end.Ended c.in-Ended.ending) (ByEnding c.in-Ended.ending) refl
    c.in-Ended.ensures.ends c.run.ensures.only (c.in-Ended.ensures.written (λ x. cc)) ran.meant ran.grown so ran.ends

pub returns-in-Steps-clause-went : goal.returns-in-Steps-clause-went
returns-in-Steps-clause-went g c = λ b f.
    let course : Course = record { limits = c.args.limits.now; areas = (keeping (engine c.args.machine)).areas; rules = c.args.schedule.now; begins = b; items = items_of c.args.telling.room.blanks.items; strict = c.args.telling.strict } in
    let seen = outside (change g.K.Sink.faults g.K.Sink.contents c.args.sink.now c.report_all-in-Steps.new.sink) (change g.F.PageFile.faults g.F.PageFile.contents c.args.pages.now c.report_all-in-Steps.new.pages) in
    let read = change g.F.PageFile.faults g.F.PageFile.contents c.run.new.file c.report_all-in-Steps.new.pages in
    let ran = c.report_all-in-Steps.ensures.reported in
    let so = subst (λ (z : Status). IsReported read (engine c.run.new.self) (last_of BySteps) z (items_of c.args.telling.room.blanks.items) ran.meant ran.grown) c.answer_unhalted-meant.ensures ran.so in
    went_whole seen course (engine c.args.machine) (engine c.run.new.self) f
    (seen_of g.K.Sink.faults g.K.Sink.contents c.run.new.sink) c.report_all-in-Steps.result
    read (λ r. rose_from _ _ _ (c.in-Steps.ensures.unfailed (λ x. cc) (λ x. cc)) r) c.report_all-in-Steps.ensures.reads c.report_all-in-Steps.ensures.unread run_end.Steps BySteps refl
    c.in-Steps.ensures.ends c.run.ensures.only (c.in-Steps.ensures.written (λ x. cc)) ran.meant ran.grown so ran.ends

pub returns-in-Turns-clause-went : goal.returns-in-Turns-clause-went
returns-in-Turns-clause-went g c = λ b f.
    let course : Course = record { limits = c.args.limits.now; areas = (keeping (engine c.args.machine)).areas; rules = c.args.schedule.now; begins = b; items = items_of c.args.telling.room.blanks.items; strict = c.args.telling.strict } in
    let seen = outside (change g.K.Sink.faults g.K.Sink.contents c.args.sink.now c.report_all-in-Turns.new.sink) (change g.F.PageFile.faults g.F.PageFile.contents c.args.pages.now c.report_all-in-Turns.new.pages) in
    let read = change g.F.PageFile.faults g.F.PageFile.contents c.run.new.file c.report_all-in-Turns.new.pages in
    let ran = c.report_all-in-Turns.ensures.reported in
    went_whole seen course (engine c.args.machine) (engine c.run.new.self) f
    (seen_of g.K.Sink.faults g.K.Sink.contents c.run.new.sink) c.report_all-in-Turns.result
    read (λ r. rose_from _ _ _ (c.in-Turns.ensures.unfailed (λ x. cc) (λ x. cc)) r) c.report_all-in-Turns.ensures.reads c.report_all-in-Turns.ensures.unread run_end.Turns ByTurns refl
    c.in-Turns.ensures.ends c.run.ensures.only (c.in-Turns.ensures.written (λ x. cc)) ran.meant ran.grown ran.so ran.ends

pub returns-in-PageFault-clause-went : goal.returns-in-PageFault-clause-went
returns-in-PageFault-clause-went g c = λ b f.
    let course : Course = record { limits = c.args.limits.now; areas = (keeping (engine c.args.machine)).areas; rules = c.args.schedule.now; begins = b; items = items_of c.args.telling.room.blanks.items; strict = c.args.telling.strict } in
    let seen = outside (change g.K.Sink.faults g.K.Sink.contents c.args.sink.now c.report.new.sink) (change g.F.PageFile.faults g.F.PageFile.contents c.args.pages.now c.run.new.file) in
    went_cut seen course (engine c.args.machine) (engine c.run.new.self) f
    (seen_of g.K.Sink.faults g.K.Sink.contents c.run.new.sink) c.report.result
    (c.in-PageFault.ensures.fault refl) c.in-PageFault.ensures.ends c.run.ensures.only (c.in-PageFault.ensures.written (λ x. cc)) c.report.ensures

pub returns-in-WriteFault-clause-went : goal.returns-in-WriteFault-clause-went
returns-in-WriteFault-clause-went g c = λ b f.
    let course : Course = record { limits = c.args.limits.now; areas = (keeping (engine c.args.machine)).areas; rules = c.args.schedule.now; begins = b; items = items_of c.args.telling.room.blanks.items; strict = c.args.telling.strict } in
    let seen = outside (change g.K.Sink.faults g.K.Sink.contents c.args.sink.now c.run.new.sink) (change g.F.PageFile.faults g.F.PageFile.contents c.args.pages.now c.run.new.file) in
    went_lost seen course (engine c.args.machine) (engine c.run.new.self) f
    c.in-WriteFault.ensures.ends c.run.ensures.only (c.in-WriteFault.ensures.cause refl)

pub returns-in-Ended-clause-failed : goal.returns-in-Ended-clause-failed
returns-in-Ended-clause-failed g c = admits_then _ _ _ _ _ (c.in-Ended.ensures.unfailed (λ x. cc) (λ x. cc)) c.report_all.ensures.failed

pub returns-in-Steps-clause-failed : goal.returns-in-Steps-clause-failed
returns-in-Steps-clause-failed g c = admits_then _ _ _ _ _ (c.in-Steps.ensures.unfailed (λ x. cc) (λ x. cc)) c.report_all-in-Steps.ensures.failed

pub returns-in-Turns-clause-failed : goal.returns-in-Turns-clause-failed
returns-in-Turns-clause-failed g c = admits_then _ _ _ _ _ (c.in-Turns.ensures.unfailed (λ x. cc) (λ x. cc)) c.report_all-in-Turns.ensures.failed

pub returns-in-PageFault-clause-failed : goal.returns-in-PageFault-clause-failed
returns-in-PageFault-clause-failed g c = fault_admits _ _ _ _ _ _ _ (c.in-PageFault.ensures.fault refl) c.report.ensures

pub returns-in-WriteFault-clause-failed : goal.returns-in-WriteFault-clause-failed
returns-in-WriteFault-clause-failed g c = λ n. record { once = c.in-WriteFault.ensures.failed n; answer = inr refl }
