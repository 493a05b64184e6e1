use Rattle.std.proofs.Common.{ap, refl}
use Rattle.vax_machine.specs.Machine.{Keeping}
use Rattle.vax_machine.specs.Meaning.{engine}
use Rattle.vax_console.specs.Ends.{scene, session_on}
use Rattle.vax_script.specs.declared.request.Request.TheVariants.{DepositRegister}
use Rattle.vax_script.specs.declared.request.Line.TheVariants.{Request as Asks}
use Rattle.vax_console.proofs.Spending.{none_register, simple_spends}
use Rattle.vax_console.proofs.Only.{reply_only}
use Rattle.vax_console.proofs.Requested.{put_in_goes}
use Rattle.vax_console.proofs.Turned.{put_in_held}
use Rattle.vax_console.proofs.requests.deposit_register.Goals as goal

pub returns-clause-goes : goal.returns-clause-goes
returns-clause-goes g c m means =
    put_in_goes c.reply.result c.args.limits.now m c.args.n c.args.value (engine c.args.machine.now) (engine c.set_reg.new.self) (g.F.PageFile.contents c.args.file.now) (g.K.Sink.faults c.args.sink.now) (g.K.Sink.faults c.reply.new.sink) (g.K.Sink.contents c.args.sink.now) (g.K.Sink.contents c.reply.new.sink)
    (ap (λ (z : Keeping). z.steps) c.set_reg.ensures.keeps) (c.set_reg.ensures.deposits (g.F.PageFile.contents c.args.file.now) m means) c.reply.ensures

pub returns-clause-only : goal.returns-clause-only
returns-clause-only g c = reply_only _ _ _ _ _ _ c.reply.ensures

pub returns-clause-spends : goal.returns-clause-spends
returns-clause-spends g c rules m means =
    simple_spends c.reply.result c.args.limits.now.steps rules (session_on (engine c.args.machine.now) m) (Asks (DepositRegister c.args.n c.args.value)) (engine c.args.machine.now) (engine c.set_reg.new.self) (g.F.PageFile.contents c.args.file.now) (g.K.Sink.faults c.args.sink.now) (g.K.Sink.faults c.reply.new.sink) (g.K.Sink.contents c.args.sink.now) (g.K.Sink.contents c.reply.new.sink) _ refl (none_register (engine c.args.machine.now) (engine c.set_reg.new.self) c.set_reg.ensures.keeps) c.reply.ensures

pub returns-clause-holds : goal.returns-clause-holds
returns-clause-holds g c rules m means =
    put_in_held c.reply.result c.args.limits.now rules (scene (engine c.args.machine.now) (g.F.PageFile.contents c.args.file.now) (g.K.Sink.contents c.args.sink.now)) (scene (engine c.set_reg.new.self) (g.F.PageFile.contents c.args.file.now) (g.K.Sink.contents c.reply.new.sink)) m c.args.n c.args.value (g.K.Sink.faults c.args.sink.now) (g.K.Sink.faults c.reply.new.sink)
    c.requires.between c.set_reg.ensures.keeps c.set_reg.ensures.marks c.set_reg.ensures.blocks refl (c.set_reg.ensures.deposits (g.F.PageFile.contents c.args.file.now) m means) c.reply.ensures
