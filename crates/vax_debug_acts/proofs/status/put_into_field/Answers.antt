use Rattle.std.proofs.Common.{◌≡◌, ◌∙◌, ap}
use Rattle.vax_machine.specs.Meaning.{engine}
use Rattle.vax_console.specs.Ends.{scene}
use Rattle.vax_debug.specs.Status.{may_have, session_with_field}
use Rattle.vax_debug_acts.specs.Attempts.{status_line}
use Rattle.vax_debug_acts.proofs.Telling.{done, reply_counts, reply_only, tells, tells_as}
use Rattle.vax_debug_acts.proofs.status.put_into_field.Goals as goal

pub returns-clause-acts : goal.returns-clause-acts
returns-clause-acts g c = λ limits o s replies here.
    let sink = g.K.Sink.contents c.args.sink.now in
    let w = scene (engine c.deposit_field-put.new.machine) (g.F.PageFile.contents c.args.file.now) (g.K.Sink.contents c.reply_with.new.sink) in
    let d = c.deposit_field-put.ensures sink o s replies here in
    let t = session_with_field c.args.field c.args.value s in
    let text = status_line (may_have c.args.field c.args.value s.machine.core.psl) in
    let is : c.status_line.result.now ≡ text = c.status_line.ensures ∙ ap status_line d.0 in
    done c.reply_with.result limits.turns 0 o s t replies text w
    (tells_as c.reply_with.result o t replies c.status_line.result.now text w is
    (tells c.reply_with.result (g.K.Sink.faults c.args.sink.now) (g.K.Sink.faults c.reply_with.new.sink) o t replies c.status_line.result.now (engine c.deposit_field-put.new.machine) (g.F.PageFile.contents c.args.file.now) sink (g.K.Sink.contents c.reply_with.new.sink) d.1 c.reply_with.ensures))

pub returns-clause-counts : goal.returns-clause-counts
returns-clause-counts g c = reply_counts c.reply_with.result (g.F.PageFile.faults c.args.file.now) (g.K.Sink.faults c.args.sink.now) (g.K.Sink.faults c.reply_with.new.sink) (g.K.Sink.contents c.args.sink.now) (g.K.Sink.contents c.reply_with.new.sink) c.status_line.result.now c.reply_with.ensures

pub returns-clause-only : goal.returns-clause-only
returns-clause-only g c = reply_only _ _ _ _ _ _ c.reply_with.ensures
