use Rattle.std.proofs.Common.{[], ◌++◌, Ok, Err, refl}
use Rattle.vax_machine.specs.Meaning.{engine}
use Rattle.vax_console.specs.Ends.{scene}
use Rattle.vax_console.proofs.Only.{only_then}
use Rattle.vax_debug_acts.specs.Acts.{stop_reply}
use Rattle.vax_debug_acts.specs.Attempts.{parts_line}
use Rattle.vax_debug_acts.proofs.Telling.{counts_then, reply_counts, reply_only, tells, tells_behind, tells_first}
use Rattle.vax_debug_acts.proofs.attempts.tell_parted_stop.Goals as goal

pub returns-in-Ok-clause-replies : goal.returns-in-Ok-clause-replies
returns-in-Ok-clause-replies g c = λ o s replies here.
    let stop = stop_reply c.args.setting.now.limits.now.steps c.args.setting.now.legend.now c.args.plan.now [] s in
    let w = scene (engine c.tell_plain_stop.new.machine) (g.F.PageFile.contents c.tell_plain_stop.new.file) (g.K.Sink.contents c.tell_plain_stop.new.sink) in
    let here2 = tells (Ok tt) (g.K.Sink.faults c.args.sink.now) (g.K.Sink.faults c.tell_parts.new.sink) o s replies parts_line (engine c.args.machine.now) (g.F.PageFile.contents c.args.file.now) (g.K.Sink.contents c.args.sink.now) (g.K.Sink.contents c.tell_parts.new.sink) here c.in-Ok.ensures in
    tells_behind c.tell_plain_stop.result o s replies parts_line stop w (c.tell_plain_stop.ensures.replies o s (replies ++ parts_line) here2)

pub returns-in-Err-clause-replies : goal.returns-in-Err-clause-replies
returns-in-Err-clause-replies g c = λ o s replies here.
    let stop = stop_reply c.args.setting.now.limits.now.steps c.args.setting.now.legend.now c.args.plan.now [] s in
    let w = scene (engine c.args.machine.now) (g.F.PageFile.contents c.args.file.now) (g.K.Sink.contents c.tell_parts.new.sink) in
    tells_first c.in-Err.failure o s replies parts_line stop w
    (tells (Err c.in-Err.failure) (g.K.Sink.faults c.args.sink.now) (g.K.Sink.faults c.tell_parts.new.sink) o s replies parts_line (engine c.args.machine.now) (g.F.PageFile.contents c.args.file.now) (g.K.Sink.contents c.args.sink.now) (g.K.Sink.contents c.tell_parts.new.sink) here c.in-Err.ensures)

pub returns-in-Ok-clause-counts : goal.returns-in-Ok-clause-counts
returns-in-Ok-clause-counts g c = counts_then c.tell_plain_stop.result (g.F.PageFile.faults c.args.file.now) (g.F.PageFile.faults c.args.file.now) (g.F.PageFile.faults c.tell_plain_stop.new.file) (g.K.Sink.faults c.args.sink.now) (g.K.Sink.faults c.tell_parts.new.sink) (g.K.Sink.faults c.tell_plain_stop.new.sink) refl c.in-Ok.ensures.0 c.tell_plain_stop.ensures.counts

pub returns-in-Err-clause-counts : goal.returns-in-Err-clause-counts
returns-in-Err-clause-counts g c = reply_counts (Err c.in-Err.failure) (g.F.PageFile.faults c.args.file.now) (g.K.Sink.faults c.args.sink.now) (g.K.Sink.faults c.tell_parts.new.sink) (g.K.Sink.contents c.args.sink.now) (g.K.Sink.contents c.tell_parts.new.sink) parts_line c.in-Err.ensures

pub returns-in-Ok-clause-only : goal.returns-in-Ok-clause-only
returns-in-Ok-clause-only g c = only_then _ _ _ (reply_only (Ok tt) (g.K.Sink.faults c.args.sink.now) (g.K.Sink.faults c.tell_parts.new.sink) (g.K.Sink.contents c.args.sink.now) (g.K.Sink.contents c.tell_parts.new.sink) parts_line c.in-Ok.ensures) c.tell_plain_stop.ensures.only

pub returns-in-Err-clause-only : goal.returns-in-Err-clause-only
returns-in-Err-clause-only g c = reply_only (Err c.in-Err.failure) (g.K.Sink.faults c.args.sink.now) (g.K.Sink.faults c.tell_parts.new.sink) (g.K.Sink.contents c.args.sink.now) (g.K.Sink.contents c.tell_parts.new.sink) parts_line c.in-Err.ensures
