use Rattle.std.proofs.Common.{◌≡◌, ◌∙◌, List, ℕ, Option, ap, refl, subst}
use Rattle.std.proofs.lemmas.List.{length-take-le}
use Rattle.vax_report.specs.Lines.{memory_line}
use Rattle.vax_flat.specs.Parts.{At}
use Rattle.vax_pager.specs.Poking.{ReadsAtMost}
use Rattle.vax_machine.specs.Console.{memory_from, pages_in}
use Rattle.vax_machine.specs.Machine.{Keeping}
use Rattle.vax_machine.specs.Meaning.{engine}
use Rattle.vax_script.specs.declared.request.Request.TheVariants.{ExamineMemory}
use Rattle.vax_script.specs.declared.request.Line.TheVariants.{Request as Asks}
use Rattle.vax_console.specs.Ends.{session_on}
use Rattle.vax_console.proofs.Spending.{cut_spends, none_kept, simple_spends}
use Rattle.vax_console.proofs.Only.{reply_only}
use Rattle.vax_console.proofs.Replying.{line_cut, replies_as}
use Rattle.vax_console.proofs.Requested.{memory_goes}
use Rattle.vax_console.specs.Ends.{scene}
use Rattle.vax_console.proofs.Turned.{memory_held, memory_unread}
use Rattle.vax_console.proofs.requests.examine_memory.Goals as goal

pub returns-in-Ok-clause-goes : goal.returns-in-Ok-clause-goes
returns-in-Ok-clause-goes g c m means =
    let cells : c.dump.new.cells ≡ memory_from m.memory c.args.addr c.args.count = c.in-Ok.ensures.bytes (At m) means ∙ ap (λ (n : ℕ). memory_from m.memory c.args.addr n) (length-take-le c.args.count _ c.requires.few) in
    memory_goes c.reply_memory.result c.args.limits.now m c.args.addr c.args.count (engine c.args.machine.now) (engine c.dump.new.self) (g.F.PageFile.contents c.dump.new.file) (g.K.Sink.faults c.args.sink.now) (g.K.Sink.faults c.reply_memory.new.sink) (g.K.Sink.contents c.args.sink.now) (g.K.Sink.contents c.reply_memory.new.sink)
    (ap (λ (z : Keeping). z.steps) c.dump.ensures.keeps) (c.dump.ensures.means (At m) means)
    (replies_as c.reply_memory.result (g.K.Sink.faults c.args.sink.now) (g.K.Sink.faults c.reply_memory.new.sink) (g.K.Sink.contents c.args.sink.now) (g.K.Sink.contents c.reply_memory.new.sink) _ _ (ap (λ (z : List (Option ℕ)). memory_line c.args.addr z) cells) c.reply_memory.ensures)

pub returns-in-Ok-clause-only : goal.returns-in-Ok-clause-only
returns-in-Ok-clause-only g c = reply_only _ _ _ _ _ _ c.reply_memory.ensures

pub returns-in-Err-clause-goes : goal.returns-in-Err-clause-goes
returns-in-Err-clause-goes g c m means =
    line_cut c.args.limits.now (session_on (engine c.args.machine.now) m) (Asks (ExamineMemory c.args.addr c.args.count)) (engine c.dump.new.self) (g.F.PageFile.contents c.dump.new.file) (g.K.Sink.contents c.args.sink.now)
    (ap (λ (z : Keeping). z.steps) c.dump.ensures.keeps) (c.dump.ensures.means (At m) means)

pub returns-in-Ok-clause-spends : goal.returns-in-Ok-clause-spends
returns-in-Ok-clause-spends g c rules m means =
    simple_spends c.reply_memory.result c.args.limits.now.steps rules (session_on (engine c.args.machine.now) m) (Asks (ExamineMemory c.args.addr c.args.count)) (engine c.args.machine.now) (engine c.dump.new.self) (g.F.PageFile.contents c.dump.new.file) (g.K.Sink.faults c.args.sink.now) (g.K.Sink.faults c.reply_memory.new.sink) (g.K.Sink.contents c.args.sink.now) (g.K.Sink.contents c.reply_memory.new.sink) _ refl (none_kept (engine c.args.machine.now) (engine c.dump.new.self) c.dump.ensures.keeps) c.reply_memory.ensures

pub returns-in-Err-clause-spends : goal.returns-in-Err-clause-spends
returns-in-Err-clause-spends g c rules m means =
    cut_spends c.args.limits.now.steps rules (session_on (engine c.args.machine.now) m) (Asks (ExamineMemory c.args.addr c.args.count)) (engine c.args.machine.now) (engine c.dump.new.self) (g.F.PageFile.contents c.dump.new.file) refl (c.dump.ensures.means (At m) means) (none_kept (engine c.args.machine.now) (engine c.dump.new.self) c.dump.ensures.keeps)

pub returns-in-Ok-clause-holds : goal.returns-in-Ok-clause-holds
returns-in-Ok-clause-holds g c rules m means =
    let cells : c.dump.new.cells ≡ memory_from m.memory c.args.addr c.args.count = c.in-Ok.ensures.bytes (At m) means ∙ ap (λ (n : ℕ). memory_from m.memory c.args.addr n) (length-take-le c.args.count _ c.requires.few) in
    let once = subst (λ (n : ℕ). ReadsAtMost (pages_in c.args.addr n) (g.F.PageFile.contents c.args.file.now) (g.F.PageFile.contents c.dump.new.file)) (length-take-le c.args.count _ c.requires.few) c.dump.ensures.once in
    memory_held c.reply_memory.result c.args.limits.now rules (scene (engine c.args.machine.now) (g.F.PageFile.contents c.args.file.now) (g.K.Sink.contents c.args.sink.now)) (scene (engine c.dump.new.self) (g.F.PageFile.contents c.dump.new.file) (g.K.Sink.contents c.reply_memory.new.sink)) m c.args.addr c.args.count (g.K.Sink.faults c.args.sink.now) (g.K.Sink.faults c.reply_memory.new.sink)
    c.dump.ensures.keeps c.dump.ensures.same c.dump.ensures.reads once (c.dump.ensures.means (At m) means)
    (replies_as c.reply_memory.result (g.K.Sink.faults c.args.sink.now) (g.K.Sink.faults c.reply_memory.new.sink) (g.K.Sink.contents c.args.sink.now) (g.K.Sink.contents c.reply_memory.new.sink) _ _ (ap (λ (z : List (Option ℕ)). memory_line c.args.addr z) cells) c.reply_memory.ensures)

pub returns-in-Err-clause-holds : goal.returns-in-Err-clause-holds
returns-in-Err-clause-holds g c rules m means =
    let once = subst (λ (n : ℕ). ReadsAtMost (pages_in c.args.addr n) (g.F.PageFile.contents c.args.file.now) (g.F.PageFile.contents c.dump.new.file)) (length-take-le c.args.count _ c.requires.few) c.dump.ensures.once in
    memory_unread c.args.limits.now rules (scene (engine c.args.machine.now) (g.F.PageFile.contents c.args.file.now) (g.K.Sink.contents c.args.sink.now)) (scene (engine c.dump.new.self) (g.F.PageFile.contents c.dump.new.file) (g.K.Sink.contents c.args.sink.now)) m c.args.addr c.args.count
    c.dump.ensures.keeps c.dump.ensures.same c.dump.ensures.reads once (c.dump.ensures.means (At m) means) refl
