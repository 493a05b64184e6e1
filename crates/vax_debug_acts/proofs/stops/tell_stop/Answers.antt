use Rattle.std.proofs.Common.{List, ap, refl}
use Rattle.vax_machine.specs.Meaning.{engine}
use Rattle.vax_console.specs.Ends.{scene}
use Rattle.vax_debug.specs.declared.watches.Seen.{Seen}
use Rattle.vax_debug_acts.proofs.Telling.{counts_then, not_told, tells_as}
use Rattle.vax_debug_acts.specs.Acts.{changes, stop_reply, stop_text}
use Rattle.vax_console.proofs.Only.{only_none}
use Rattle.vax_debug_acts.proofs.stops.tell_stop.Goals as goal

pub returns-in-Ok-clause-replies : goal.returns-in-Ok-clause-replies
returns-in-Ok-clause-replies g c = λ o s replies here.
    let limit = c.args.setting.now.limits.now.steps in
    let legend = c.args.setting.now.legend.now in
    let sink = g.K.Sink.contents c.args.sink.now in
    let w = scene (engine c.tell_stop_here.new.machine) (g.F.PageFile.contents c.tell_stop_here.new.file) (g.K.Sink.contents c.tell_stop_here.new.sink) in
    let said = λ (z : List Seen). stop_text limit legend c.args.plan.now.breaks (changes legend c.args.seen.now z) s in
    tells_as c.tell_stop_here.result o s replies (said c.in-Ok.after) (stop_reply limit legend c.args.plan.now c.args.seen.now s) w
    (ap said (c.in-Ok.ensures.tells sink o s replies here))
    (c.tell_stop_here.ensures.replies o s replies (c.look.ensures.stays sink o s replies here))

pub returns-in-Err-clause-replies : goal.returns-in-Err-clause-replies
returns-in-Err-clause-replies g c = λ o s replies here.
    let sink = g.K.Sink.contents c.args.sink.now in
    not_told o s replies (stop_reply c.args.setting.now.limits.now.steps c.args.setting.now.legend.now c.args.plan.now c.args.seen.now s) (scene (engine c.look.new.machine) (g.F.PageFile.contents c.look.new.file) sink) (c.look.ensures.stays sink o s replies here)

pub returns-in-Ok-clause-counts : goal.returns-in-Ok-clause-counts
returns-in-Ok-clause-counts g c = counts_then c.tell_stop_here.result (g.F.PageFile.faults c.args.file.now) (g.F.PageFile.faults c.look.new.file) (g.F.PageFile.faults c.tell_stop_here.new.file) (g.K.Sink.faults c.args.sink.now) (g.K.Sink.faults c.args.sink.now) (g.K.Sink.faults c.tell_stop_here.new.sink) c.in-Ok.ensures.counts.quiet refl c.tell_stop_here.ensures.counts

pub returns-in-Err-clause-counts : goal.returns-in-Err-clause-counts
returns-in-Err-clause-counts g c = (c.in-Err.ensures.counts.later, c.in-Err.ensures.counts.cause, refl)

pub returns-in-Err-clause-only : goal.returns-in-Err-clause-only
returns-in-Err-clause-only g c = only_none _
