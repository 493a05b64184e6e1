use Rattle.std.proofs.Common.{◌≡◌, ◌∙◌, ◌++◌, List, ℕ, ap, refl, slice_index}
use Rattle.vax_report.specs.Lines.{register_line}
use Rattle.vax_word.specs.declared.Core.{Core}
use Rattle.vax_machine.specs.Meaning.{engine}
use Rattle.vax_console.specs.Ends.{session_on}
use Rattle.vax_script.specs.declared.request.Request.TheVariants.{ExamineRegister}
use Rattle.vax_script.specs.declared.request.Line.TheVariants.{Request as Asks}
use Rattle.vax_console.proofs.Spending.{none_same, simple_spends}
use Rattle.vax_console.proofs.Only.{reply_only}
use Rattle.vax_console.proofs.Replying.{replies_as}
use Rattle.vax_console.proofs.Requested.{register_goes}
use Rattle.vax_console.specs.Ends.{scene}
use Rattle.vax_console.proofs.Turned.{register_held}
use Rattle.vax_console.proofs.requests.examine_register.Goals as goal

pub returns-clause-goes : goal.returns-clause-goes
returns-clause-goes g c m means =
    let said : c.as_slice.result.now ≡ register_line c.args.n (slice_index (engine c.args.machine.now).cpu.core.regs c.args.n) =
    c.as_slice.ensures ∙ (c.push_register.ensures.exact ∙ (ap (λ (z : List ℕ). z ++ register_line c.args.n (slice_index c.core.result.now.regs c.args.n)) c.new-text.ensures ∙ ap (λ (z : Core). register_line c.args.n (slice_index z.regs c.args.n)) c.core.ensures)) in
    register_goes c.reply.result c.args.limits.now m c.args.n (engine c.args.machine.now) (g.F.PageFile.contents c.args.file.now) (g.K.Sink.faults c.args.sink.now) (g.K.Sink.faults c.reply.new.sink) (g.K.Sink.contents c.args.sink.now) (g.K.Sink.contents c.reply.new.sink) means
    (replies_as c.reply.result (g.K.Sink.faults c.args.sink.now) (g.K.Sink.faults c.reply.new.sink) (g.K.Sink.contents c.args.sink.now) (g.K.Sink.contents c.reply.new.sink) c.as_slice.result.now _ said c.reply.ensures)

pub returns-clause-only : goal.returns-clause-only
returns-clause-only g c = reply_only _ _ _ _ _ _ c.reply.ensures

pub returns-clause-spends : goal.returns-clause-spends
returns-clause-spends g c rules m means =
    simple_spends c.reply.result c.args.limits.now.steps rules (session_on (engine c.args.machine.now) m) (Asks (ExamineRegister c.args.n)) (engine c.args.machine.now) (engine c.args.machine.now) (g.F.PageFile.contents c.args.file.now) (g.K.Sink.faults c.args.sink.now) (g.K.Sink.faults c.reply.new.sink) (g.K.Sink.contents c.args.sink.now) (g.K.Sink.contents c.reply.new.sink) c.as_slice.result.now refl (none_same (engine c.args.machine.now)) c.reply.ensures

pub returns-clause-holds : goal.returns-clause-holds
returns-clause-holds g c rules m means =
    let said : c.as_slice.result.now ≡ register_line c.args.n (slice_index (engine c.args.machine.now).cpu.core.regs c.args.n) =
    c.as_slice.ensures ∙ (c.push_register.ensures.exact ∙ (ap (λ (z : List ℕ). z ++ register_line c.args.n (slice_index c.core.result.now.regs c.args.n)) c.new-text.ensures ∙ ap (λ (z : Core). register_line c.args.n (slice_index z.regs c.args.n)) c.core.ensures)) in
    register_held c.reply.result c.args.limits.now rules (scene (engine c.args.machine.now) (g.F.PageFile.contents c.args.file.now) (g.K.Sink.contents c.args.sink.now)) (scene (engine c.args.machine.now) (g.F.PageFile.contents c.args.file.now) (g.K.Sink.contents c.reply.new.sink)) m c.args.n (g.K.Sink.faults c.args.sink.now) (g.K.Sink.faults c.reply.new.sink) refl refl means
    (replies_as c.reply.result (g.K.Sink.faults c.args.sink.now) (g.K.Sink.faults c.reply.new.sink) (g.K.Sink.contents c.args.sink.now) (g.K.Sink.contents c.reply.new.sink) c.as_slice.result.now _ said c.reply.ensures)
