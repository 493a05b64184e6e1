use Rattle.std.proofs.Common.{[], inr, refl, arith}
use Rattle.vax_machine.specs.Machine.{keeping}
use Rattle.vax_machine.specs.Meaning.{engine}
use Rattle.vax_machine.specs.Paged.{BySteps, ByTurns}
use Rattle.vax_machine.specs.declared.event.RunEnd.TheVariants as run_end
use Rattle.vax_cli.specs.declared.command.Strictness.TheVariants.{Off}
use Rattle.vax_command.specs.Around.{change, outside, seen_of}
use Rattle.vax_command.specs.Setup.{Setup}
use Rattle.vax_command.proofs.Admitting.{admits_then, fault_admits, none_admits}
use Rattle.vax_command.proofs.LoadLaws.{rose_from}
use Rattle.vax_command.proofs.RunLaws.{Starts}
use Rattle.vax_command.proofs.SaveLaws.{run_cut, run_ended, run_limited, run_lost}
use Rattle.vax_command.proofs.saving.execute_and_save.Goals as goal

pub returns-in-Ended-clause-went : goal.returns-in-Ended-clause-went
returns-in-Ended-clause-went g c = λ frames m f.
    let setup : Setup = record { limits = c.args.limits.now; areas = (keeping (engine c.args.machine)).areas; rules = c.args.schedule.now; frames = frames; start = m; items = []; strict = Off } in
    let starts : Starts setup (engine c.args.machine) = let t = c.requires.few_turns in record { is_fresh = f; areas = refl; low = omega (arith, t) } in
    let seen = outside (change g.K.Sink.faults g.K.Sink.contents c.args.sink.now c.remove_and_report.new.sink) (change g.F.PageFile.faults g.F.PageFile.contents c.args.pages.now c.run.new.file) in
    let read = change g.F.PageFile.faults g.F.PageFile.contents c.run.new.file c.run.new.file in
    run_ended seen setup (engine c.args.machine) (engine c.run.new.self) starts c.requires.unlisted refl (seen_of g.K.Sink.faults g.K.Sink.contents c.run.new.sink) c.remove_and_report.result
    read refl c.in-Ended.ending c.in-Ended.ensures.ends c.run.ensures.only (c.in-Ended.ensures.written (λ x. cc))
    (λ r. rose_from _ _ _ (c.in-Ended.ensures.unfailed (λ x. cc) (λ x. cc)) r) c.remove_and_report.ensures

pub returns-in-Steps-clause-went : goal.returns-in-Steps-clause-went
returns-in-Steps-clause-went g c = λ frames m f.
    let setup : Setup = record { limits = c.args.limits.now; areas = (keeping (engine c.args.machine)).areas; rules = c.args.schedule.now; frames = frames; start = m; items = []; strict = Off } in
    let starts : Starts setup (engine c.args.machine) = let t = c.requires.few_turns in record { is_fresh = f; areas = refl; low = omega (arith, t) } in
    let seen = outside (change g.K.Sink.faults g.K.Sink.contents c.args.sink.now c.save_and_report.new.sink) (change g.F.PageFile.faults g.F.PageFile.contents c.args.pages.now c.save_and_report.new.pages) in
    let read = change g.F.PageFile.faults g.F.PageFile.contents c.run.new.file c.save_and_report.new.pages in
    let answers = c.save_and_report.ensures.answers in
    run_limited seen setup (engine c.args.machine) (engine c.run.new.self) starts c.requires.unlisted refl (seen_of g.K.Sink.faults g.K.Sink.contents c.run.new.sink) c.save_and_report.result
    read (λ r. rose_from _ _ _ (c.in-Steps.ensures.unfailed (λ x. cc) (λ x. cc)) r) c.save_and_report.ensures.reads run_end.Steps BySteps refl tt
    c.in-Steps.ensures.ends c.run.ensures.only (c.in-Steps.ensures.written (λ x. cc))
    (λ place means. let at = c.save_and_report.ensures.saves place means in (at.meant, at.grown, at.so, at.ends))
    answers.meant answers.grown answers.so answers.ends

pub returns-in-Turns-clause-went : goal.returns-in-Turns-clause-went
returns-in-Turns-clause-went g c = λ frames m f.
    let setup : Setup = record { limits = c.args.limits.now; areas = (keeping (engine c.args.machine)).areas; rules = c.args.schedule.now; frames = frames; start = m; items = []; strict = Off } in
    let starts : Starts setup (engine c.args.machine) = let t = c.requires.few_turns in record { is_fresh = f; areas = refl; low = omega (arith, t) } in
    let seen = outside (change g.K.Sink.faults g.K.Sink.contents c.args.sink.now c.save_and_report-in-Turns.new.sink) (change g.F.PageFile.faults g.F.PageFile.contents c.args.pages.now c.save_and_report-in-Turns.new.pages) in
    let read = change g.F.PageFile.faults g.F.PageFile.contents c.run.new.file c.save_and_report-in-Turns.new.pages in
    let answers = c.save_and_report-in-Turns.ensures.answers in
    run_limited seen setup (engine c.args.machine) (engine c.run.new.self) starts c.requires.unlisted refl (seen_of g.K.Sink.faults g.K.Sink.contents c.run.new.sink) c.save_and_report-in-Turns.result
    read (λ r. rose_from _ _ _ (c.in-Turns.ensures.unfailed (λ x. cc) (λ x. cc)) r) c.save_and_report-in-Turns.ensures.reads run_end.Turns ByTurns refl tt
    c.in-Turns.ensures.ends c.run.ensures.only (c.in-Turns.ensures.written (λ x. cc))
    (λ place means. let at = c.save_and_report-in-Turns.ensures.saves place means in (at.meant, at.grown, at.so, at.ends))
    answers.meant answers.grown answers.so answers.ends

pub returns-in-PageFault-clause-went : goal.returns-in-PageFault-clause-went
returns-in-PageFault-clause-went g c = λ frames m f.
    let setup : Setup = record { limits = c.args.limits.now; areas = (keeping (engine c.args.machine)).areas; rules = c.args.schedule.now; frames = frames; start = m; items = []; strict = Off } in
    let starts : Starts setup (engine c.args.machine) = let t = c.requires.few_turns in record { is_fresh = f; areas = refl; low = omega (arith, t) } in
    let seen = outside (change g.K.Sink.faults g.K.Sink.contents c.args.sink.now c.report.new.sink) (change g.F.PageFile.faults g.F.PageFile.contents c.args.pages.now c.run.new.file) in
    run_cut seen setup (engine c.args.machine) (engine c.run.new.self) starts c.requires.unlisted refl (seen_of g.K.Sink.faults g.K.Sink.contents c.run.new.sink) c.report.result
    (c.in-PageFault.ensures.fault refl) c.in-PageFault.ensures.ends c.run.ensures.only (c.in-PageFault.ensures.written (λ x. cc)) c.report.ensures

pub returns-in-WriteFault-clause-went : goal.returns-in-WriteFault-clause-went
returns-in-WriteFault-clause-went g c = λ frames m f.
    let setup : Setup = record { limits = c.args.limits.now; areas = (keeping (engine c.args.machine)).areas; rules = c.args.schedule.now; frames = frames; start = m; items = []; strict = Off } in
    let starts : Starts setup (engine c.args.machine) = let t = c.requires.few_turns in record { is_fresh = f; areas = refl; low = omega (arith, t) } in
    let seen = outside (change g.K.Sink.faults g.K.Sink.contents c.args.sink.now c.run.new.sink) (change g.F.PageFile.faults g.F.PageFile.contents c.args.pages.now c.run.new.file) in
    run_lost seen setup (engine c.args.machine) (engine c.run.new.self) starts c.requires.unlisted refl
    c.in-WriteFault.ensures.ends c.run.ensures.only (c.in-WriteFault.ensures.cause refl)

pub returns-in-Ended-clause-failed : goal.returns-in-Ended-clause-failed
returns-in-Ended-clause-failed g c = none_admits _ _ _ _ (c.in-Ended.ensures.unfailed (λ x. cc) (λ x. cc))

pub returns-in-Steps-clause-failed : goal.returns-in-Steps-clause-failed
returns-in-Steps-clause-failed g c = admits_then _ _ _ _ _ (c.in-Steps.ensures.unfailed (λ x. cc) (λ x. cc)) c.save_and_report.ensures.failed

pub returns-in-Turns-clause-failed : goal.returns-in-Turns-clause-failed
returns-in-Turns-clause-failed g c = admits_then _ _ _ _ _ (c.in-Turns.ensures.unfailed (λ x. cc) (λ x. cc)) c.save_and_report-in-Turns.ensures.failed

pub returns-in-PageFault-clause-failed : goal.returns-in-PageFault-clause-failed
returns-in-PageFault-clause-failed g c = fault_admits _ _ _ _ _ _ _ (c.in-PageFault.ensures.fault refl) c.report.ensures

pub returns-in-WriteFault-clause-failed : goal.returns-in-WriteFault-clause-failed
returns-in-WriteFault-clause-failed g c = λ n. record { once = c.in-WriteFault.ensures.failed n; answer = inr refl }
