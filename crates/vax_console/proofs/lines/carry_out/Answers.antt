use Rattle.std.proofs.Common.{refl}
use Rattle.vax_machine.specs.Meaning.{engine}
use Rattle.vax_script.specs.declared.request.Line.TheVariants as line
use Rattle.vax_console.specs.Ends.{scene, session_on}
use Rattle.vax_console.proofs.Spending.{line_spends, none_same, simple_spends}
use Rattle.vax_console.proofs.Only.{reply_only}
use Rattle.vax_console.proofs.Requested.{blank_goes, malformed_goes}
use Rattle.vax_console.proofs.Turned.{blank_held, malformed_held}
use Rattle.vax_console.proofs.lines.carry_out.Goals as goal

pub returns-in-Blank-clause-goes : goal.returns-in-Blank-clause-goes
returns-in-Blank-clause-goes g c m means = rw c.in-Blank.is (blank_goes c.args.limits.now m (engine c.args.machine.now) (g.F.PageFile.contents c.args.file.now) (g.K.Sink.contents c.args.sink.now) means)

pub returns-in-Malformed-clause-goes : goal.returns-in-Malformed-clause-goes
returns-in-Malformed-clause-goes g c m means = rw c.in-Malformed.is (malformed_goes c.reply.result c.args.limits.now m (engine c.args.machine.now) (g.F.PageFile.contents c.args.file.now) (g.K.Sink.faults c.args.sink.now) (g.K.Sink.faults c.reply.new.sink) (g.K.Sink.contents c.args.sink.now) (g.K.Sink.contents c.reply.new.sink) means c.reply.ensures)

pub returns-in-Malformed-clause-only : goal.returns-in-Malformed-clause-only
returns-in-Malformed-clause-only g c = reply_only _ _ _ _ _ _ c.reply.ensures

pub returns-in-Blank-clause-spends : goal.returns-in-Blank-clause-spends
returns-in-Blank-clause-spends g c m means = rw c.in-Blank.is (line_spends c.args.limits.now.steps c.args.schedule.now (session_on (engine c.args.machine.now) m) line.Blank (engine c.args.machine.now) (engine c.args.machine.now) refl (none_same (engine c.args.machine.now)))

pub returns-in-Malformed-clause-spends : goal.returns-in-Malformed-clause-spends
returns-in-Malformed-clause-spends g c m means = rw c.in-Malformed.is (simple_spends c.reply.result c.args.limits.now.steps c.args.schedule.now (session_on (engine c.args.machine.now) m) line.Malformed (engine c.args.machine.now) (engine c.args.machine.now) (g.F.PageFile.contents c.args.file.now) (g.K.Sink.faults c.args.sink.now) (g.K.Sink.faults c.reply.new.sink) (g.K.Sink.contents c.args.sink.now) (g.K.Sink.contents c.reply.new.sink) _ refl (none_same (engine c.args.machine.now)) c.reply.ensures)

pub returns-in-Blank-clause-holds : goal.returns-in-Blank-clause-holds
returns-in-Blank-clause-holds g c m means = rw c.in-Blank.is (blank_held c.args.limits.now c.args.schedule.now (scene (engine c.args.machine.now) (g.F.PageFile.contents c.args.file.now) (g.K.Sink.contents c.args.sink.now)) m means)

pub returns-in-Malformed-clause-holds : goal.returns-in-Malformed-clause-holds
returns-in-Malformed-clause-holds g c m means = rw c.in-Malformed.is (malformed_held c.reply.result c.args.limits.now c.args.schedule.now (scene (engine c.args.machine.now) (g.F.PageFile.contents c.args.file.now) (g.K.Sink.contents c.args.sink.now)) (scene (engine c.args.machine.now) (g.F.PageFile.contents c.args.file.now) (g.K.Sink.contents c.reply.new.sink)) m (g.K.Sink.faults c.args.sink.now) (g.K.Sink.faults c.reply.new.sink) refl refl means c.reply.ensures)
