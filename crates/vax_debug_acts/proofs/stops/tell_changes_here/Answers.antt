use Rattle.vax_debug_replies.specs.Stops.{here}
use Rattle.vax_debug_acts.specs.Acts.{changes}
use Rattle.vax_debug_acts.proofs.Telling.{replies_first, replies_then}
use Rattle.vax_debug_acts.proofs.stops.tell_changes_here.Goals as goal

pub returns-in-Ok : goal.returns-in-Ok
returns-in-Ok g c =
    replies_then c.tell_here.result tt (g.K.Sink.faults c.args.sink.now) (g.K.Sink.faults c.tell_all_changes.new.sink) (g.K.Sink.faults c.tell_here.new.sink) (g.K.Sink.contents c.args.sink.now) (g.K.Sink.contents c.tell_all_changes.new.sink) (g.K.Sink.contents c.tell_here.new.sink)
    (changes c.args.legend.now c.args.seen.now.before.now c.args.seen.now.after.now)
    (here c.args.legend.now c.args.address c.args.cells.now)
    c.in-Ok.ensures c.tell_here.ensures

pub returns-in-Err : goal.returns-in-Err
returns-in-Err g c =
    replies_first c.in-Err.failure (g.K.Sink.faults c.args.sink.now) (g.K.Sink.faults c.tell_all_changes.new.sink) (g.K.Sink.contents c.args.sink.now) (g.K.Sink.contents c.tell_all_changes.new.sink)
    (changes c.args.legend.now c.args.seen.now.before.now c.args.seen.now.after.now)
    (here c.args.legend.now c.args.address c.args.cells.now)
    c.in-Err.ensures
