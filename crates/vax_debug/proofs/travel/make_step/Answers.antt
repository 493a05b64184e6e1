use Rattle.std.proofs.Common.{◌≡◌, ◌+◌}
use Rattle.vax_flat.specs.Parts.{At}
use Rattle.vax_machine.specs.Machine.{keeping}
use Rattle.vax_machine.specs.Meaning.{engine}
use Rattle.vax_machine.specs.declared.event.RunEnd.TheVariants as run_end
use Rattle.vax_console.specs.Ends.{scene}
use Rattle.vax_console.proofs.Running.{pins_none}
use Rattle.vax_debug.proofs.Arriving.{rest_most, run_arrives, run_resumes, step_most, touches_none}
use Rattle.vax_console.proofs.Only.{run_only}
use Rattle.vax_debug.proofs.travel.make_step.Goals as goal

pub returns-in-Ended-clause-goes : goal.returns-in-Ended-clause-goes
returns-in-Ended-clause-goes g c = λ o s replies here few.
    let v = scene (engine c.args.machine.now) (g.F.PageFile.contents c.args.file.now) (g.K.Sink.contents c.args.sink.now) in
    let w = scene (engine c.run.new.self) (g.F.PageFile.contents c.run.new.file) (g.K.Sink.contents c.run.new.sink) in
    let most : c.saturating_add.result ≡ (engine c.args.machine.now).steps + 1 = step_most o s replies v c.steps.result c.saturating_add.result here few c.steps.ensures c.saturating_add.ensures in
    run_arrives (run_end.Ended c.in-Ended.field-0) c.args.limits.now c.saturating_add.result (keeping (engine c.args.machine.now)).areas c.args.schedule.now o s replies v w here (λ t. c.in-Ended.ensures.between t here.between) most
    (c.in-Ended.ensures.ends (At s.machine) here.at.means (pins_none (engine c.args.machine.now) (At s.machine) here.between))

pub returns-in-Steps-clause-goes : goal.returns-in-Steps-clause-goes
returns-in-Steps-clause-goes g c = λ o s replies here few.
    let v = scene (engine c.args.machine.now) (g.F.PageFile.contents c.args.file.now) (g.K.Sink.contents c.args.sink.now) in
    let w = scene (engine c.run.new.self) (g.F.PageFile.contents c.run.new.file) (g.K.Sink.contents c.run.new.sink) in
    let most : c.saturating_add.result ≡ (engine c.args.machine.now).steps + 1 = step_most o s replies v c.steps.result c.saturating_add.result here few c.steps.ensures c.saturating_add.ensures in
    run_arrives run_end.Steps c.args.limits.now c.saturating_add.result (keeping (engine c.args.machine.now)).areas c.args.schedule.now o s replies v w here (λ t. c.in-Steps.ensures.between t here.between) most
    (c.in-Steps.ensures.ends (At s.machine) here.at.means (pins_none (engine c.args.machine.now) (At s.machine) here.between))

pub returns-in-Turns-clause-goes : goal.returns-in-Turns-clause-goes
returns-in-Turns-clause-goes g c = λ o s replies here few.
    let v = scene (engine c.args.machine.now) (g.F.PageFile.contents c.args.file.now) (g.K.Sink.contents c.args.sink.now) in
    let w = scene (engine c.run.new.self) (g.F.PageFile.contents c.run.new.file) (g.K.Sink.contents c.run.new.sink) in
    let most : c.saturating_add.result ≡ (engine c.args.machine.now).steps + 1 = step_most o s replies v c.steps.result c.saturating_add.result here few c.steps.ensures c.saturating_add.ensures in
    run_arrives run_end.Turns c.args.limits.now c.saturating_add.result (keeping (engine c.args.machine.now)).areas c.args.schedule.now o s replies v w here (λ t. c.in-Turns.ensures.between t here.between) most
    (c.in-Turns.ensures.ends (At s.machine) here.at.means (pins_none (engine c.args.machine.now) (At s.machine) here.between))

pub returns-in-PageFault-clause-goes : goal.returns-in-PageFault-clause-goes
returns-in-PageFault-clause-goes g c = λ o s replies here few.
    let v = scene (engine c.args.machine.now) (g.F.PageFile.contents c.args.file.now) (g.K.Sink.contents c.args.sink.now) in
    let w = scene (engine c.run.new.self) (g.F.PageFile.contents c.run.new.file) (g.K.Sink.contents c.run.new.sink) in
    let most : c.saturating_add.result ≡ (engine c.args.machine.now).steps + 1 = step_most o s replies v c.steps.result c.saturating_add.result here few c.steps.ensures c.saturating_add.ensures in
    run_arrives run_end.PageFault c.args.limits.now c.saturating_add.result (keeping (engine c.args.machine.now)).areas c.args.schedule.now o s replies v w here (λ t. c.in-PageFault.ensures.between t here.between) most
    (c.in-PageFault.ensures.ends (At s.machine) here.at.means (pins_none (engine c.args.machine.now) (At s.machine) here.between))

pub returns-in-WriteFault-clause-goes : goal.returns-in-WriteFault-clause-goes
returns-in-WriteFault-clause-goes g c = λ o s replies here few.
    let v = scene (engine c.args.machine.now) (g.F.PageFile.contents c.args.file.now) (g.K.Sink.contents c.args.sink.now) in
    let w = scene (engine c.run.new.self) (g.F.PageFile.contents c.run.new.file) (g.K.Sink.contents c.run.new.sink) in
    let most : c.saturating_add.result ≡ (engine c.args.machine.now).steps + 1 = step_most o s replies v c.steps.result c.saturating_add.result here few c.steps.ensures c.saturating_add.ensures in
    run_arrives run_end.WriteFault c.args.limits.now c.saturating_add.result (keeping (engine c.args.machine.now)).areas c.args.schedule.now o s replies v w here (λ t. c.in-WriteFault.ensures.between t here.between) most
    (c.in-WriteFault.ensures.ends (At s.machine) here.at.means (pins_none (engine c.args.machine.now) (At s.machine) here.between))

pub returns-in-Ended-clause-only : goal.returns-in-Ended-clause-only
returns-in-Ended-clause-only g c = run_only _ _ c.run.ensures.only

pub returns-in-Steps-clause-only : goal.returns-in-Steps-clause-only
returns-in-Steps-clause-only g c = run_only _ _ c.run.ensures.only

pub returns-in-Turns-clause-only : goal.returns-in-Turns-clause-only
returns-in-Turns-clause-only g c = run_only _ _ c.run.ensures.only

pub returns-in-PageFault-clause-only : goal.returns-in-PageFault-clause-only
returns-in-PageFault-clause-only g c = run_only _ _ c.run.ensures.only

pub returns-in-WriteFault-clause-only : goal.returns-in-WriteFault-clause-only
returns-in-WriteFault-clause-only g c = run_only _ _ c.run.ensures.only

pub returns-in-Ended-clause-resumes : goal.returns-in-Ended-clause-resumes
returns-in-Ended-clause-resumes g c = λ o s replies under few.
    let v = scene (engine c.args.machine.now) (g.F.PageFile.contents c.args.file.now) (g.K.Sink.contents c.args.sink.now) in
    let w = scene (engine c.run.new.self) (g.F.PageFile.contents c.run.new.file) (g.K.Sink.contents c.run.new.sink) in
    let most : c.saturating_add.result ≡ (engine c.args.machine.now).steps + 1 = rest_most s (engine c.args.machine.now) c.steps.result c.saturating_add.result under.steps few c.steps.ensures c.saturating_add.ensures in
    run_resumes (run_end.Ended c.in-Ended.field-0) c.args.limits.now c.saturating_add.result (keeping (engine c.args.machine.now)).areas c.args.schedule.now o s replies v w under c.in-Ended.ensures.reaches most
    (c.in-Ended.ensures.ends under.place under.means (touches_none (engine c.args.machine.now) under.place under.pinned))

pub returns-in-Steps-clause-resumes : goal.returns-in-Steps-clause-resumes
returns-in-Steps-clause-resumes g c = λ o s replies under few.
    let v = scene (engine c.args.machine.now) (g.F.PageFile.contents c.args.file.now) (g.K.Sink.contents c.args.sink.now) in
    let w = scene (engine c.run.new.self) (g.F.PageFile.contents c.run.new.file) (g.K.Sink.contents c.run.new.sink) in
    let most : c.saturating_add.result ≡ (engine c.args.machine.now).steps + 1 = rest_most s (engine c.args.machine.now) c.steps.result c.saturating_add.result under.steps few c.steps.ensures c.saturating_add.ensures in
    run_resumes run_end.Steps c.args.limits.now c.saturating_add.result (keeping (engine c.args.machine.now)).areas c.args.schedule.now o s replies v w under c.in-Steps.ensures.reaches most
    (c.in-Steps.ensures.ends under.place under.means (touches_none (engine c.args.machine.now) under.place under.pinned))

pub returns-in-Turns-clause-resumes : goal.returns-in-Turns-clause-resumes
returns-in-Turns-clause-resumes g c = λ o s replies under few.
    let v = scene (engine c.args.machine.now) (g.F.PageFile.contents c.args.file.now) (g.K.Sink.contents c.args.sink.now) in
    let w = scene (engine c.run.new.self) (g.F.PageFile.contents c.run.new.file) (g.K.Sink.contents c.run.new.sink) in
    let most : c.saturating_add.result ≡ (engine c.args.machine.now).steps + 1 = rest_most s (engine c.args.machine.now) c.steps.result c.saturating_add.result under.steps few c.steps.ensures c.saturating_add.ensures in
    run_resumes run_end.Turns c.args.limits.now c.saturating_add.result (keeping (engine c.args.machine.now)).areas c.args.schedule.now o s replies v w under c.in-Turns.ensures.reaches most
    (c.in-Turns.ensures.ends under.place under.means (touches_none (engine c.args.machine.now) under.place under.pinned))

pub returns-in-PageFault-clause-resumes : goal.returns-in-PageFault-clause-resumes
returns-in-PageFault-clause-resumes g c = λ o s replies under few.
    let v = scene (engine c.args.machine.now) (g.F.PageFile.contents c.args.file.now) (g.K.Sink.contents c.args.sink.now) in
    let w = scene (engine c.run.new.self) (g.F.PageFile.contents c.run.new.file) (g.K.Sink.contents c.run.new.sink) in
    let most : c.saturating_add.result ≡ (engine c.args.machine.now).steps + 1 = rest_most s (engine c.args.machine.now) c.steps.result c.saturating_add.result under.steps few c.steps.ensures c.saturating_add.ensures in
    run_resumes run_end.PageFault c.args.limits.now c.saturating_add.result (keeping (engine c.args.machine.now)).areas c.args.schedule.now o s replies v w under c.in-PageFault.ensures.reaches most
    (c.in-PageFault.ensures.ends under.place under.means (touches_none (engine c.args.machine.now) under.place under.pinned))

pub returns-in-WriteFault-clause-resumes : goal.returns-in-WriteFault-clause-resumes
returns-in-WriteFault-clause-resumes g c = λ o s replies under few.
    let v = scene (engine c.args.machine.now) (g.F.PageFile.contents c.args.file.now) (g.K.Sink.contents c.args.sink.now) in
    let w = scene (engine c.run.new.self) (g.F.PageFile.contents c.run.new.file) (g.K.Sink.contents c.run.new.sink) in
    let most : c.saturating_add.result ≡ (engine c.args.machine.now).steps + 1 = rest_most s (engine c.args.machine.now) c.steps.result c.saturating_add.result under.steps few c.steps.ensures c.saturating_add.ensures in
    run_resumes run_end.WriteFault c.args.limits.now c.saturating_add.result (keeping (engine c.args.machine.now)).areas c.args.schedule.now o s replies v w under c.in-WriteFault.ensures.reaches most
    (c.in-WriteFault.ensures.ends under.place under.means (touches_none (engine c.args.machine.now) under.place under.pinned))
