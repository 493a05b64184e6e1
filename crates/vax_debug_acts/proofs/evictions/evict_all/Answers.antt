use Rattle.std.proofs.Common.{refl}
use Rattle.vax_machine.specs.Meaning.{engine}
use Rattle.vax_console.specs.Ends.{scene}
use Rattle.vax_debug_acts.proofs.Telling.{counts_then, not_told, reply_counts, reply_only, tells}
use Rattle.vax_debug_acts.specs.Acts.{done_line}
use Rattle.vax_console.proofs.Only.{only_none}
use Rattle.vax_debug_acts.proofs.evictions.evict_all.Goals as goal

pub returns-in-Ok-clause-replies : goal.returns-in-Ok-clause-replies
returns-in-Ok-clause-replies g c = λ o s replies here.
    let sink = g.K.Sink.contents c.args.sink.now in
    tells c.tell_done.result (g.K.Sink.faults c.args.sink.now) (g.K.Sink.faults c.tell_done.new.sink) o s replies done_line (engine c.evict_areas.new.machine) (g.F.PageFile.contents c.evict_areas.new.file) sink (g.K.Sink.contents c.tell_done.new.sink) (c.evict_areas.ensures.stays sink o s replies here) c.tell_done.ensures

pub returns-in-Err-clause-replies : goal.returns-in-Err-clause-replies
returns-in-Err-clause-replies g c = λ o s replies here.
    let sink = g.K.Sink.contents c.args.sink.now in
    not_told o s replies done_line (scene (engine c.evict_areas.new.machine) (g.F.PageFile.contents c.evict_areas.new.file) (g.K.Sink.contents c.args.sink.now)) (c.evict_areas.ensures.stays sink o s replies here)

pub returns-in-Ok-clause-counts : goal.returns-in-Ok-clause-counts
returns-in-Ok-clause-counts g c = counts_then c.tell_done.result (g.F.PageFile.faults c.args.file.now) (g.F.PageFile.faults c.evict_areas.new.file) (g.F.PageFile.faults c.evict_areas.new.file) (g.K.Sink.faults c.args.sink.now) (g.K.Sink.faults c.args.sink.now) (g.K.Sink.faults c.tell_done.new.sink) c.in-Ok.ensures.counts.quiet refl (reply_counts c.tell_done.result (g.F.PageFile.faults c.evict_areas.new.file) (g.K.Sink.faults c.args.sink.now) (g.K.Sink.faults c.tell_done.new.sink) (g.K.Sink.contents c.args.sink.now) (g.K.Sink.contents c.tell_done.new.sink) done_line c.tell_done.ensures)

pub returns-in-Err-clause-counts : goal.returns-in-Err-clause-counts
returns-in-Err-clause-counts g c = (c.in-Err.ensures.counts.later, c.in-Err.ensures.counts.cause, refl)

pub returns-in-Ok-clause-only : goal.returns-in-Ok-clause-only
returns-in-Ok-clause-only g c = reply_only _ _ _ _ _ _ c.tell_done.ensures

pub returns-in-Err-clause-only : goal.returns-in-Err-clause-only
returns-in-Err-clause-only g c = only_none _
