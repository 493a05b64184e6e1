use Rattle.std.proofs.Common.{◌≡◌, ◌∙◌, ◌∷◌, [], Option, refl, sym, subst, true, false, length}
use Rattle.vax_outside.specs.Blocks.{BlockFile}
use Rattle.vax_flat.specs.Parts.{At}
use Rattle.vax_machine.specs.Depositing.{filed}
use Rattle.vax_machine.specs.Meaning.{engine}
use Rattle.vax_machine.specs.declared.engine.Engine.{Engine}
use Rattle.vax_script.specs.declared.request.Request.TheVariants.{DepositMemory}
use Rattle.vax_script.specs.declared.request.Line.TheVariants.{Request as Asks}
use Rattle.vax_console.specs.Ends.{Goes, scene, session_on}
use Rattle.vax_console.specs.Transcript.{may_deposit}
use Rattle.vax_console.specs.Parts.{MakesNone}
use Rattle.vax_console.proofs.Spending.{cut_spends, none_let_go, none_same, simple_spends}
use Rattle.vax_console.proofs.Only.{reply_only}
use Rattle.vax_console.proofs.Replying.{line_cut}
use Rattle.vax_console.proofs.Requested.{deposits_as, put_at_goes, refused_goes, same_right}
use Rattle.vax_console.proofs.Turned.{bytes_unset, deposits_in_as, put_at_held, refused_held}
use Rattle.vax_console.proofs.requests.deposit_memory.Goals as goal

pub returns-in-Ok-true-clause-goes : goal.returns-in-Ok-true-clause-goes
returns-in-Ok-true-clause-goes g c m means =
    let may : may_deposit m.memory c.args.addr (length c.args.bytes.now) ≡ true = sym (same_right (engine c.args.machine.now) (g.F.PageFile.contents c.args.file.now) m c.args.addr (length c.args.bytes.now) means) ∙ (sym c.in-Ok-true.ensures.answer ∙ c.in-Ok-true.field-0-test) in
    let done = deposits_as c.in-Ok-true.field-0 true c.args.addr c.args.bytes.now (engine c.args.machine.now) (engine c.poke.new.self) (g.F.PageFile.contents c.args.file.now) (g.F.PageFile.contents c.poke.new.file) c.in-Ok-true.field-0-test c.in-Ok-true.ensures.deposits in
    put_at_goes c.reply.result c.args.limits.now m c.args.addr c.args.bytes.now (engine c.args.machine.now) (engine c.poke.new.self) (g.F.PageFile.contents c.poke.new.file) (g.K.Sink.faults c.args.sink.now) (g.K.Sink.faults c.reply.new.sink) (g.K.Sink.contents c.args.sink.now) (g.K.Sink.contents c.reply.new.sink) may done.0.steps (done.1 m means) c.reply.ensures

pub returns-in-Ok-true-clause-only : goal.returns-in-Ok-true-clause-only
returns-in-Ok-true-clause-only g c = reply_only _ _ _ _ _ _ c.reply.ensures

pub returns-in-Ok-false-clause-goes : goal.returns-in-Ok-false-clause-goes
returns-in-Ok-false-clause-goes g c m means =
    let may : may_deposit m.memory c.args.addr (length c.args.bytes.now) ≡ false = sym (same_right (engine c.args.machine.now) (g.F.PageFile.contents c.args.file.now) m c.args.addr (length c.args.bytes.now) means) ∙ (sym c.in-Ok-false.ensures.answer ∙ c.in-Ok-false.field-0-test) in
    let done = deposits_as c.in-Ok-false.field-0 false c.args.addr c.args.bytes.now (engine c.args.machine.now) (engine c.poke.new.self) (g.F.PageFile.contents c.args.file.now) (g.F.PageFile.contents c.poke.new.file) c.in-Ok-false.field-0-test c.in-Ok-false.ensures.deposits in
    let here = refused_goes c.reply-in-Ok-false.result c.args.limits.now m c.args.addr c.args.bytes.now (engine c.args.machine.now) (g.F.PageFile.contents c.args.file.now) (g.K.Sink.faults c.args.sink.now) (g.K.Sink.faults c.reply-in-Ok-false.new.sink) (g.K.Sink.contents c.args.sink.now) (g.K.Sink.contents c.reply-in-Ok-false.new.sink) may means c.reply-in-Ok-false.ensures in
    subst (λ (z : Engine). Goes c.reply-in-Ok-false.result c.args.limits.now (session_on (engine c.args.machine.now) m) (Asks (DepositMemory c.args.addr c.args.bytes.now) ∷ []) z (g.F.PageFile.contents c.poke.new.file) (g.K.Sink.contents c.args.sink.now) (g.K.Sink.contents c.reply-in-Ok-false.new.sink)) (sym done.0)
    (subst (λ (z : Option BlockFile). Goes c.reply-in-Ok-false.result c.args.limits.now (session_on (engine c.args.machine.now) m) (Asks (DepositMemory c.args.addr c.args.bytes.now) ∷ []) (engine c.args.machine.now) z (g.K.Sink.contents c.args.sink.now) (g.K.Sink.contents c.reply-in-Ok-false.new.sink)) (sym done.1) here)

pub returns-in-Ok-false-clause-only : goal.returns-in-Ok-false-clause-only
returns-in-Ok-false-clause-only g c = reply_only _ _ _ _ _ _ c.reply-in-Ok-false.ensures

pub returns-in-Err-clause-goes : goal.returns-in-Err-clause-goes
returns-in-Err-clause-goes g c m means =
    line_cut c.args.limits.now (session_on (engine c.args.machine.now) m) (Asks (DepositMemory c.args.addr c.args.bytes.now)) (engine c.poke.new.self) (g.F.PageFile.contents c.poke.new.file) (g.K.Sink.contents c.args.sink.now)
    (c.in-Err.ensures.deposits.0.steps) (c.in-Err.ensures.deposits.1 (At m) means)

pub returns-in-Ok-true-clause-spends : goal.returns-in-Ok-true-clause-spends
returns-in-Ok-true-clause-spends g c rules m means =
    let done = deposits_as c.in-Ok-true.field-0 true c.args.addr c.args.bytes.now (engine c.args.machine.now) (engine c.poke.new.self) (g.F.PageFile.contents c.args.file.now) (g.F.PageFile.contents c.poke.new.file) c.in-Ok-true.field-0-test c.in-Ok-true.ensures.deposits in
    simple_spends c.reply.result c.args.limits.now.steps rules (session_on (engine c.args.machine.now) m) (Asks (DepositMemory c.args.addr c.args.bytes.now)) (engine c.args.machine.now) (engine c.poke.new.self) (g.F.PageFile.contents c.poke.new.file) (g.K.Sink.faults c.args.sink.now) (g.K.Sink.faults c.reply.new.sink) (g.K.Sink.contents c.args.sink.now) (g.K.Sink.contents c.reply.new.sink) _ refl (none_let_go (engine c.args.machine.now) (engine c.poke.new.self) done.0) c.reply.ensures

pub returns-in-Ok-false-clause-spends : goal.returns-in-Ok-false-clause-spends
returns-in-Ok-false-clause-spends g c rules m means =
    let done = deposits_as c.in-Ok-false.field-0 false c.args.addr c.args.bytes.now (engine c.args.machine.now) (engine c.poke.new.self) (g.F.PageFile.contents c.args.file.now) (g.F.PageFile.contents c.poke.new.file) c.in-Ok-false.field-0-test c.in-Ok-false.ensures.deposits in
    simple_spends c.reply-in-Ok-false.result c.args.limits.now.steps rules (session_on (engine c.args.machine.now) m) (Asks (DepositMemory c.args.addr c.args.bytes.now)) (engine c.args.machine.now) (engine c.poke.new.self) (g.F.PageFile.contents c.poke.new.file) (g.K.Sink.faults c.args.sink.now) (g.K.Sink.faults c.reply-in-Ok-false.new.sink) (g.K.Sink.contents c.args.sink.now) (g.K.Sink.contents c.reply-in-Ok-false.new.sink) _ refl
    (subst (λ (z : Engine). MakesNone (engine c.args.machine.now) z) (sym done.0) (none_same (engine c.args.machine.now))) c.reply-in-Ok-false.ensures

pub returns-in-Err-clause-spends : goal.returns-in-Err-clause-spends
returns-in-Err-clause-spends g c rules m means =
    cut_spends c.args.limits.now.steps rules (session_on (engine c.args.machine.now) m) (Asks (DepositMemory c.args.addr c.args.bytes.now)) (engine c.args.machine.now) (engine c.poke.new.self) (g.F.PageFile.contents c.poke.new.file) refl (c.in-Err.ensures.deposits.1 (At m) means) (none_let_go (engine c.args.machine.now) (engine c.poke.new.self) c.in-Err.ensures.deposits.0)

pub returns-in-Ok-true-clause-holds : goal.returns-in-Ok-true-clause-holds
returns-in-Ok-true-clause-holds g c rules m means =
    let may : may_deposit m.memory c.args.addr (length c.args.bytes.now) ≡ true = sym (same_right (engine c.args.machine.now) (g.F.PageFile.contents c.args.file.now) m c.args.addr (length c.args.bytes.now) means) ∙ (sym c.in-Ok-true.ensures.answer ∙ c.in-Ok-true.field-0-test) in
    let done = deposits_as c.in-Ok-true.field-0 true c.args.addr c.args.bytes.now (engine c.args.machine.now) (engine c.poke.new.self) (g.F.PageFile.contents c.args.file.now) (g.F.PageFile.contents c.poke.new.file) c.in-Ok-true.field-0-test c.in-Ok-true.ensures.deposits in
    let is = deposits_in_as c.in-Ok-true.field-0 true c.args.addr c.args.bytes.now (filed (engine c.args.machine.now) (g.F.PageFile.contents c.args.file.now)) (filed (engine c.poke.new.self) (g.F.PageFile.contents c.poke.new.file)) c.in-Ok-true.field-0-test c.in-Ok-true.ensures.paged in
    put_at_held c.reply.result c.args.limits.now rules (scene (engine c.args.machine.now) (g.F.PageFile.contents c.args.file.now) (g.K.Sink.contents c.args.sink.now)) (scene (engine c.poke.new.self) (g.F.PageFile.contents c.poke.new.file) (g.K.Sink.contents c.reply.new.sink)) m c.args.addr c.args.bytes.now (g.K.Sink.faults c.args.sink.now) (g.K.Sink.faults c.reply.new.sink)
    may done.0 (is m means) c.reply.ensures

pub returns-in-Ok-false-clause-holds : goal.returns-in-Ok-false-clause-holds
returns-in-Ok-false-clause-holds g c rules m means =
    let may : may_deposit m.memory c.args.addr (length c.args.bytes.now) ≡ false = sym (same_right (engine c.args.machine.now) (g.F.PageFile.contents c.args.file.now) m c.args.addr (length c.args.bytes.now) means) ∙ (sym c.in-Ok-false.ensures.answer ∙ c.in-Ok-false.field-0-test) in
    let done = deposits_as c.in-Ok-false.field-0 false c.args.addr c.args.bytes.now (engine c.args.machine.now) (engine c.poke.new.self) (g.F.PageFile.contents c.args.file.now) (g.F.PageFile.contents c.poke.new.file) c.in-Ok-false.field-0-test c.in-Ok-false.ensures.deposits in
    refused_held c.reply-in-Ok-false.result c.args.limits.now rules (scene (engine c.args.machine.now) (g.F.PageFile.contents c.args.file.now) (g.K.Sink.contents c.args.sink.now)) (scene (engine c.poke.new.self) (g.F.PageFile.contents c.poke.new.file) (g.K.Sink.contents c.reply-in-Ok-false.new.sink)) m c.args.addr c.args.bytes.now (g.K.Sink.faults c.args.sink.now) (g.K.Sink.faults c.reply-in-Ok-false.new.sink)
    may done.0 done.1 means c.reply-in-Ok-false.ensures

pub returns-in-Err-clause-holds : goal.returns-in-Err-clause-holds
returns-in-Err-clause-holds g c rules m means =
    bytes_unset c.args.limits.now rules (scene (engine c.args.machine.now) (g.F.PageFile.contents c.args.file.now) (g.K.Sink.contents c.args.sink.now)) (scene (engine c.poke.new.self) (g.F.PageFile.contents c.poke.new.file) (g.K.Sink.contents c.args.sink.now)) m c.args.addr c.args.bytes.now
    c.in-Err.ensures.deposits.0 c.in-Err.ensures.marks (c.in-Err.ensures.paged m means) (c.in-Err.ensures.deposits.1 (At m) means) refl
