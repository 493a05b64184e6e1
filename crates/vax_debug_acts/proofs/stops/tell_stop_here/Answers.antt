use Rattle.std.proofs.Common.{◌≡◌, ◌++◌, refl}
use Rattle.vax_machine.specs.Meaning.{engine}
use Rattle.vax_console.specs.Ends.{scene}
use Rattle.vax_debug_acts.proofs.Telling.{counts_then, not_told, reply_counts, reply_only, tells, tells_as}
use Rattle.vax_debug_replies.specs.Stops.{here, reason}
use Rattle.vax_debug_acts.specs.Acts.{changes, stop_text}
use Rattle.vax_debug_acts.proofs.Stopping.{told_stop}
use Rattle.vax_console.proofs.Only.{only_none}
use Rattle.vax_debug_acts.proofs.stops.tell_stop_here.Goals as goal

pub returns-in-Ok-clause-replies : goal.returns-in-Ok-clause-replies
returns-in-Ok-clause-replies g c = λ o s replies begun.
    let limit = c.args.setting.now.limits.now.steps in
    let sink = g.K.Sink.contents c.args.sink.now in
    let v = scene (engine c.args.machine.now) (g.F.PageFile.contents c.args.file.now) (g.K.Sink.contents c.args.sink.now) in
    let w = scene (engine c.examine.new.machine) (g.F.PageFile.contents c.examine.new.file) (g.K.Sink.contents c.reply_stop.new.sink) in
    let text = reason c.why-last.result ++ changes c.args.setting.now.legend.now c.args.seen.now.before.now c.args.seen.now.after.now ++ here c.args.setting.now.legend.now c.pc_of-address.result c.examine.new.cells in
    let is : text ≡ stop_text limit c.args.setting.now.legend.now c.args.plan.now.breaks (changes c.args.setting.now.legend.now c.args.seen.now.before.now c.args.seen.now.after.now) s = told_stop limit c.args.setting.now.legend.now c.args.plan.now.breaks (changes c.args.setting.now.legend.now c.args.seen.now.before.now c.args.seen.now.after.now) o s replies v c.why-last.result c.pc_of-address.result c.examine.new.cells begun c.why-last.ensures c.pc_of-address.ensures (c.in-Ok.ensures.shows sink o s replies begun) in
    tells_as c.reply_stop.result o s replies text (stop_text limit c.args.setting.now.legend.now c.args.plan.now.breaks (changes c.args.setting.now.legend.now c.args.seen.now.before.now c.args.seen.now.after.now) s) w is
    (tells c.reply_stop.result (g.K.Sink.faults c.args.sink.now) (g.K.Sink.faults c.reply_stop.new.sink) o s replies text (engine c.examine.new.machine) (g.F.PageFile.contents c.examine.new.file) sink (g.K.Sink.contents c.reply_stop.new.sink) (c.examine.ensures.stays sink o s replies begun) c.reply_stop.ensures)

pub returns-in-Err-clause-replies : goal.returns-in-Err-clause-replies
returns-in-Err-clause-replies g c = λ o s replies here.
    let sink = g.K.Sink.contents c.args.sink.now in
    not_told o s replies (stop_text c.args.setting.now.limits.now.steps c.args.setting.now.legend.now c.args.plan.now.breaks (changes c.args.setting.now.legend.now c.args.seen.now.before.now c.args.seen.now.after.now) s) (scene (engine c.examine.new.machine) (g.F.PageFile.contents c.examine.new.file) (g.K.Sink.contents c.args.sink.now)) (c.examine.ensures.stays sink o s replies here)

pub returns-in-Ok-clause-counts : goal.returns-in-Ok-clause-counts
returns-in-Ok-clause-counts g c = counts_then c.reply_stop.result (g.F.PageFile.faults c.args.file.now) (g.F.PageFile.faults c.examine.new.file) (g.F.PageFile.faults c.examine.new.file) (g.K.Sink.faults c.args.sink.now) (g.K.Sink.faults c.args.sink.now) (g.K.Sink.faults c.reply_stop.new.sink) c.in-Ok.ensures.counts.quiet refl (reply_counts c.reply_stop.result (g.F.PageFile.faults c.examine.new.file) (g.K.Sink.faults c.args.sink.now) (g.K.Sink.faults c.reply_stop.new.sink) (g.K.Sink.contents c.args.sink.now) (g.K.Sink.contents c.reply_stop.new.sink) (reason c.why-last.result ++ changes c.args.setting.now.legend.now c.args.seen.now.before.now c.args.seen.now.after.now ++ here c.args.setting.now.legend.now c.pc_of-address.result c.examine.new.cells) c.reply_stop.ensures)

pub returns-in-Err-clause-counts : goal.returns-in-Err-clause-counts
returns-in-Err-clause-counts g c = (c.in-Err.ensures.counts.later, c.in-Err.ensures.counts.cause, refl)

pub returns-in-Ok-clause-only : goal.returns-in-Ok-clause-only
returns-in-Ok-clause-only g c = reply_only _ _ _ _ _ _ c.reply_stop.ensures

pub returns-in-Err-clause-only : goal.returns-in-Err-clause-only
returns-in-Err-clause-only g c = only_none _
