use Rattle.std.proofs.Common.{◌≡◌, ◌∙◌, length, refl, ap}
use Rattle.vax_machine.specs.Meaning.{engine}
use Rattle.vax_console.specs.Ends.{scene}
use Rattle.vax_debug_acts.proofs.Telling.{counts_then, done, not_done, reply_counts, reply_only, tells, tells_as}
use Rattle.vax_console.specs.Transcript.{may_deposit}
use Rattle.vax_debug.specs.Sessions.{session_with_bytes}
use Rattle.vax_debug_acts.specs.Acts.{put_act, put_line}
use Rattle.vax_console.proofs.Only.{only_none}
use Rattle.vax_debug_acts.proofs.deposits.put.Goals as goal

pub returns-in-Ok-clause-acts : goal.returns-in-Ok-clause-acts
returns-in-Ok-clause-acts g c = λ limits o s replies here.
    let sink = g.K.Sink.contents c.args.sink.now in
    let w = scene (engine c.deposit.new.machine) (g.F.PageFile.contents c.deposit.new.file) (g.K.Sink.contents c.reply_with.new.sink) in
    let d = c.in-Ok.ensures.deposits sink o s replies here in
    let t = session_with_bytes c.args.address c.args.bytes.now s in
    let text = put_line (may_deposit s.machine.memory c.args.address (length c.args.bytes.now)) in
    let is : c.put_line.result.now ≡ text = c.put_line.ensures ∙ ap put_line d.0 in
    done c.reply_with.result limits.turns 0 o s t replies text w
    (tells_as c.reply_with.result o t replies c.put_line.result.now text w is
    (tells c.reply_with.result (g.K.Sink.faults c.args.sink.now) (g.K.Sink.faults c.reply_with.new.sink) o t replies c.put_line.result.now (engine c.deposit.new.machine) (g.F.PageFile.contents c.deposit.new.file) sink (g.K.Sink.contents c.reply_with.new.sink) d.1 c.reply_with.ensures))

pub returns-in-Err-clause-acts : goal.returns-in-Err-clause-acts
returns-in-Err-clause-acts g c = λ limits o s replies here.
    let sink = g.K.Sink.contents c.args.sink.now in
    not_done limits.turns (put_act c.args.address c.args.bytes.now s) o s replies (scene (engine c.deposit.new.machine) (g.F.PageFile.contents c.deposit.new.file) (g.K.Sink.contents c.args.sink.now)) (c.in-Err.ensures.deposits sink o s replies here)

pub returns-in-Ok-clause-counts : goal.returns-in-Ok-clause-counts
returns-in-Ok-clause-counts g c = counts_then c.reply_with.result (g.F.PageFile.faults c.args.file.now) (g.F.PageFile.faults c.deposit.new.file) (g.F.PageFile.faults c.deposit.new.file) (g.K.Sink.faults c.args.sink.now) (g.K.Sink.faults c.args.sink.now) (g.K.Sink.faults c.reply_with.new.sink) c.in-Ok.ensures.counts.quiet refl (reply_counts c.reply_with.result (g.F.PageFile.faults c.deposit.new.file) (g.K.Sink.faults c.args.sink.now) (g.K.Sink.faults c.reply_with.new.sink) (g.K.Sink.contents c.args.sink.now) (g.K.Sink.contents c.reply_with.new.sink) c.put_line.result.now c.reply_with.ensures)

pub returns-in-Err-clause-counts : goal.returns-in-Err-clause-counts
returns-in-Err-clause-counts g c = (c.in-Err.ensures.counts.later, c.in-Err.ensures.counts.cause, refl)

pub returns-in-Ok-clause-only : goal.returns-in-Ok-clause-only
returns-in-Ok-clause-only g c = reply_only _ _ _ _ _ _ c.reply_with.ensures

pub returns-in-Err-clause-only : goal.returns-in-Err-clause-only
returns-in-Err-clause-only g c = only_none _
