use Rattle.vax_flat.specs.Parts.{At}
use Rattle.vax_machine.specs.Machine.{keeping}
use Rattle.vax_machine.specs.Meaning.{engine}
use Rattle.vax_console.proofs.Spending.{steps_spend_from}
use Rattle.vax_console.proofs.Only.{run_only}
use Rattle.vax_console.proofs.Running.{advances_from, between_ok, causes_of, pins_none}
use Rattle.vax_console.specs.Ends.{scene}
use Rattle.vax_console.proofs.Turned.{steps_hold_from}
use Rattle.vax_console.proofs.runs.advance.Goals as goal

pub returns-clause-goes : goal.returns-clause-goes
returns-clause-goes g c m means =
    rw c.answer_of.ensures
    (advances_from c.run.result c.args.limits.now c.args.count c.steps.result (keeping (engine c.args.machine.now)).areas c.args.schedule.now m (engine c.args.machine.now) (engine c.run.new.self) (g.F.PageFile.contents c.args.file.now) (g.F.PageFile.contents c.run.new.file) (g.K.Sink.contents c.args.sink.now) (g.K.Sink.contents c.run.new.sink) c.steps.ensures (λ t. c.run.ensures.between t c.requires.between)
    (c.run.ensures.ends (At m) means (pins_none (engine c.args.machine.now) (At m) c.requires.between)))

pub returns-clause-holds : goal.returns-clause-holds
returns-clause-holds g c m means =
    rw c.answer_of.ensures
    (steps_hold_from c.run.result c.args.limits.now c.args.schedule.now c.args.count c.steps.result (scene (engine c.args.machine.now) (g.F.PageFile.contents c.args.file.now) (g.K.Sink.contents c.args.sink.now)) (scene (engine c.run.new.self) (g.F.PageFile.contents c.run.new.file) (g.K.Sink.contents c.run.new.sink)) m c.steps.ensures (λ t. c.run.ensures.between t c.requires.between) (λ t. c.run.ensures.areas t)
    (c.run.ensures.ends (At m) means (pins_none (engine c.args.machine.now) (At m) c.requires.between)))

pub returns-clause-spends : goal.returns-clause-spends
returns-clause-spends g c m means =
    rw c.answer_of.ensures
    (steps_spend_from c.run.result c.args.limits.now c.args.count c.steps.result (keeping (engine c.args.machine.now)).areas c.args.schedule.now m (engine c.args.machine.now) (engine c.run.new.self) (g.F.PageFile.contents c.args.file.now) (g.F.PageFile.contents c.run.new.file) (g.K.Sink.contents c.args.sink.now) (g.K.Sink.contents c.run.new.sink) c.steps.ensures (λ t. c.run.ensures.between t c.requires.between)
    (c.run.ensures.ends (At m) means (pins_none (engine c.args.machine.now) (At m) c.requires.between)))

pub returns-clause-between : goal.returns-clause-between
returns-clause-between g c ok = c.run.ensures.between (between_ok c.run.result (rw c.answer_of.ensures at ok)) c.requires.between

pub returns-clause-causes : goal.returns-clause-causes
returns-clause-causes g c =
    rw c.answer_of.ensures
    (causes_of c.run.result _ _ _ _ (record { later = c.run.ensures.later; sunk = c.run.ensures.sunk; fault = c.run.ensures.fault; cause = c.run.ensures.cause; unfailed = c.run.ensures.unfailed; failed = c.run.ensures.failed; written = c.run.ensures.written }))

pub returns-clause-only : goal.returns-clause-only
returns-clause-only g c = run_only _ _ c.run.ensures.only
