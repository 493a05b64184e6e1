use Rattle.std.specs.Prelude.{[]}
use Rattle.vax_outside.specs.declared.traits.Chan.TheVariants.{Report}
use Rattle.vax_outside.specs.Channels.{only}
use Rattle.vax_machine.specs.Meaning.{engine}
use Rattle.vax_command.specs.Around.{change, seen_of}
use Rattle.vax_command.specs.Fresh.{machine_report}
use Rattle.vax_command.specs.declared.status.Status.TheVariants.{Done}
use Rattle.vax_command.proofs.SaveLaws.{removed_not, removed_whole}
use Rattle.vax_command.proofs.saving.remove_and_report.Goals as goal

pub returns-in-Ok : goal.returns-in-Ok
returns-in-Ok g c =
    removed_whole (change g.K.Sink.faults g.K.Sink.contents c.args.sink.now c.report.new.sink) (seen_of g.K.Sink.faults g.K.Sink.contents c.remove_state.new.self) Done c.report.result
    (only Report (machine_report (engine c.args.machine.now) c.args.last [])) c.in-Ok.ensures.ok c.in-Ok.ensures.counts.quiet c.report.ensures

pub returns-in-Err : goal.returns-in-Err
returns-in-Err g c =
    removed_not (change g.K.Sink.faults g.K.Sink.contents c.args.sink.now c.remove_state.new.self) Done
    (only Report (machine_report (engine c.args.machine.now) c.args.last [])) c.in-Err.ensures.counts.cause c.in-Err.ensures.err
