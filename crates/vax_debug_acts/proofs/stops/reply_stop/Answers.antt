use Rattle.std.proofs.Common.{◌++◌, ℕ, List, Err, sym, subst, append_assoc}
use Rattle.vax_debug_replies.specs.Stops.{here, reason}
use Rattle.vax_debug_acts.specs.Acting.{Replies}
use Rattle.vax_debug_acts.specs.Acts.{changes}
use Rattle.vax_debug_acts.proofs.Telling.{replies_first, replies_then}
use Rattle.vax_debug_acts.proofs.stops.reply_stop.Goals as goal

pub returns-in-Ok : goal.returns-in-Ok
returns-in-Ok g c =
    subst (λ (t : List ℕ). Replies c.tell_changes_here.result (g.K.Sink.faults c.args.sink.now) (g.K.Sink.faults c.tell_changes_here.new.sink) (g.K.Sink.contents c.args.sink.now) (g.K.Sink.contents c.tell_changes_here.new.sink) t)
    (sym (append_assoc (reason c.args.last) (changes c.args.legend.now c.args.seen.now.before.now c.args.seen.now.after.now) (here c.args.legend.now c.args.place.now.address c.args.place.now.cells.now)))
    (replies_then c.tell_changes_here.result tt (g.K.Sink.faults c.args.sink.now) (g.K.Sink.faults c.tell_reason.new.sink) (g.K.Sink.faults c.tell_changes_here.new.sink) (g.K.Sink.contents c.args.sink.now) (g.K.Sink.contents c.tell_reason.new.sink) (g.K.Sink.contents c.tell_changes_here.new.sink)
    (reason c.args.last)
    (changes c.args.legend.now c.args.seen.now.before.now c.args.seen.now.after.now ++ here c.args.legend.now c.args.place.now.address c.args.place.now.cells.now)
    c.in-Ok.ensures c.tell_changes_here.ensures)

pub returns-in-Err : goal.returns-in-Err
returns-in-Err g c =
    subst (λ (t : List ℕ). Replies (Err c.in-Err.failure) (g.K.Sink.faults c.args.sink.now) (g.K.Sink.faults c.tell_reason.new.sink) (g.K.Sink.contents c.args.sink.now) (g.K.Sink.contents c.tell_reason.new.sink) t)
    (sym (append_assoc (reason c.args.last) (changes c.args.legend.now c.args.seen.now.before.now c.args.seen.now.after.now) (here c.args.legend.now c.args.place.now.address c.args.place.now.cells.now)))
    (replies_first c.in-Err.failure (g.K.Sink.faults c.args.sink.now) (g.K.Sink.faults c.tell_reason.new.sink) (g.K.Sink.contents c.args.sink.now) (g.K.Sink.contents c.tell_reason.new.sink)
    (reason c.args.last)
    (changes c.args.legend.now c.args.seen.now.before.now c.args.seen.now.after.now ++ here c.args.legend.now c.args.place.now.address c.args.place.now.cells.now)
    c.in-Err.ensures)
