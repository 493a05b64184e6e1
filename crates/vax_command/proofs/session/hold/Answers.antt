use Rattle.std.proofs.Common.{inr, refl}
use Rattle.vax_machine.specs.Meaning.{engine}
use Rattle.vax_script.specs.Requests.{readings}
use Rattle.vax_command.specs.Around.{change, outside, seen_of}
use Rattle.vax_command.proofs.Admitting.{fault_admits, none_admits}
use Rattle.vax_command.proofs.SessionLaws.{cut_off, lost, read_out, timed_out}
use Rattle.vax_command.proofs.session.hold.Goals as goal

pub returns-in-Read-clause-went : goal.returns-in-Read-clause-went
returns-in-Read-clause-went g c = λ frames m f.
    let seen = outside (change g.K.Sink.faults g.K.Sink.contents c.args.sink.now c.session.new.sink) (change g.F.PageFile.faults g.F.PageFile.contents c.args.pages.now c.session.new.file) in
    read_out seen c.args.limits.now c.args.schedule.now (readings c.args.script.now) (engine c.args.machine) (engine c.session.new.machine) frames m f
    (g.F.PageFile.contents c.args.pages.now) c.in-Read.ensures.ends c.in-Read.ensures.turns c.session.ensures.only (c.in-Read.ensures.written (λ x. cc))

pub returns-in-Turns-clause-went : goal.returns-in-Turns-clause-went
returns-in-Turns-clause-went g c = λ frames m f.
    let seen = outside (change g.K.Sink.faults g.K.Sink.contents c.args.sink.now c.report.new.sink) (change g.F.PageFile.faults g.F.PageFile.contents c.args.pages.now c.session.new.file) in
    timed_out seen c.args.limits.now c.args.schedule.now (readings c.args.script.now) (engine c.args.machine) (engine c.session.new.machine) frames m f
    (seen_of g.K.Sink.faults g.K.Sink.contents c.session.new.sink) c.report.result
    (g.F.PageFile.contents c.args.pages.now) c.in-Turns.ensures.ends c.in-Turns.ensures.few c.in-Turns.ensures.turns c.session.ensures.only (c.in-Turns.ensures.written (λ x. cc)) c.report.ensures

pub returns-in-PageFault-clause-went : goal.returns-in-PageFault-clause-went
returns-in-PageFault-clause-went g c = λ frames m f.
    let seen = outside (change g.K.Sink.faults g.K.Sink.contents c.args.sink.now c.report-in-PageFault.new.sink) (change g.F.PageFile.faults g.F.PageFile.contents c.args.pages.now c.session.new.file) in
    cut_off seen c.args.limits.now c.args.schedule.now (readings c.args.script.now) (engine c.args.machine) (engine c.session.new.machine) frames m f
    (seen_of g.K.Sink.faults g.K.Sink.contents c.session.new.sink) c.report-in-PageFault.result
    (g.F.PageFile.contents c.args.pages.now) (c.in-PageFault.ensures.fault refl) c.in-PageFault.ensures.ends c.in-PageFault.ensures.turns c.session.ensures.only (c.in-PageFault.ensures.written (λ x. cc)) c.report-in-PageFault.ensures

pub returns-clause-went : goal.returns-clause-went
returns-clause-went g c = λ frames m f.
    let seen = outside (change g.K.Sink.faults g.K.Sink.contents c.args.sink.now c.session.new.sink) (change g.F.PageFile.faults g.F.PageFile.contents c.args.pages.now c.session.new.file) in
    lost seen c.args.limits.now c.args.schedule.now (readings c.args.script.now) (engine c.args.machine) (engine c.session.new.machine) frames m f
    (g.F.PageFile.contents c.args.pages.now) c.in-WriteFault.ensures.ends c.in-WriteFault.ensures.turns c.session.ensures.only (c.in-WriteFault.ensures.cause refl)

pub returns-in-Read-clause-failed : goal.returns-in-Read-clause-failed
returns-in-Read-clause-failed g c = none_admits _ _ _ _ (c.in-Read.ensures.unfailed (λ x. cc) (λ x. cc))

pub returns-in-Turns-clause-failed : goal.returns-in-Turns-clause-failed
returns-in-Turns-clause-failed g c = none_admits _ _ _ _ (c.in-Turns.ensures.unfailed (λ x. cc) (λ x. cc))

pub returns-in-PageFault-clause-failed : goal.returns-in-PageFault-clause-failed
returns-in-PageFault-clause-failed g c = fault_admits _ _ _ _ _ _ _ (c.in-PageFault.ensures.fault refl) c.report-in-PageFault.ensures

pub returns-clause-failed : goal.returns-clause-failed
returns-clause-failed g c = λ n. record { once = c.session.ensures.failed n; answer = inr refl }
