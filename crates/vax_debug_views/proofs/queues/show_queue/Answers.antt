use Rattle.std.proofs.Common.{◌≡◌, None, Some, refl}
use Rattle.vax_flat.specs.Step.{Flat}
use Rattle.vax_machine.specs.Meaning.{engine}
use Rattle.vax_console.specs.Ends.{scene}
use Rattle.vax_debug.proofs.Arriving.{counts_then}
use Rattle.vax_debug.specs.Values.{evaluated}
use Rattle.vax_debug_views.specs.Views.{entries_from, nowhere_line, queue_shown}
use Rattle.vax_debug_views.proofs.Telling.{fault_counts, replied_shows, shows_behind, shows_cut}
use Rattle.vax_debug_views.proofs.Wholes.{queue_nowhere, queue_there}
use Rattle.vax_debug_views.proofs.queues.show_queue.Goals as goal

pub returns-in-Ok-Some-clause-shows : goal.returns-in-Ok-Some-clause-shows
returns-in-Ok-Some-clause-shows g c =
    shows_behind (scene (engine c.args.machine.now) (g.F.PageFile.contents c.args.file.now) (g.K.Sink.contents c.args.sink.now)) (scene (engine c.evaluate.new.machine) (g.F.PageFile.contents c.evaluate.new.file) (g.K.Sink.contents c.args.sink.now)) (scene (engine c.show_entries.new.machine) (g.F.PageFile.contents c.show_entries.new.file) (g.K.Sink.contents c.show_entries.new.sink)) c.show_entries.result (entries_from c.args.legend.now c.in-Ok-Some.head 64 c.in-Ok-Some.head) (queue_shown c.args.legend.now c.args.head.now) c.evaluate.ensures.stays
    (λ sink o s replies here.
    let is : Some c.in-Ok-Some.head ≡ evaluated c.args.legend.now c.args.head.now s.machine = (rw c.in-Ok-Some.field-0-is at c.in-Ok-Some.ensures.tells) sink o s replies here in
    queue_there c.args.legend.now c.args.head.now c.in-Ok-Some.head s.machine is)
    c.show_entries.ensures.shows

pub returns-in-Ok-None-clause-shows : goal.returns-in-Ok-None-clause-shows
returns-in-Ok-None-clause-shows g c =
    shows_behind (scene (engine c.args.machine.now) (g.F.PageFile.contents c.args.file.now) (g.K.Sink.contents c.args.sink.now)) (scene (engine c.evaluate.new.machine) (g.F.PageFile.contents c.evaluate.new.file) (g.K.Sink.contents c.args.sink.now)) (scene (engine c.evaluate.new.machine) (g.F.PageFile.contents c.evaluate.new.file) (g.K.Sink.contents c.reply_nowhere.new.sink)) c.reply_nowhere.result (λ (m : Flat). nowhere_line) (queue_shown c.args.legend.now c.args.head.now) c.evaluate.ensures.stays
    (λ sink o s replies here.
    let is : None ≡ evaluated c.args.legend.now c.args.head.now s.machine = (rw c.in-Ok-None.field-0-is at c.in-Ok-None.ensures.tells) sink o s replies here in
    queue_nowhere c.args.legend.now c.args.head.now s.machine is)
    (replied_shows (scene (engine c.evaluate.new.machine) (g.F.PageFile.contents c.evaluate.new.file) (g.K.Sink.contents c.args.sink.now)) (g.K.Sink.contents c.reply_nowhere.new.sink) c.reply_nowhere.result nowhere_line (λ (m : Flat). nowhere_line) (λ sink o s replies here. refl) c.reply_nowhere.ensures.replied)

pub returns-in-Err-clause-shows : goal.returns-in-Err-clause-shows
returns-in-Err-clause-shows g c = shows_cut (scene (engine c.args.machine.now) (g.F.PageFile.contents c.args.file.now) (g.K.Sink.contents c.args.sink.now)) (scene (engine c.evaluate.new.machine) (g.F.PageFile.contents c.evaluate.new.file) (g.K.Sink.contents c.args.sink.now)) (queue_shown c.args.legend.now c.args.head.now) c.evaluate.ensures.stays

pub returns-in-Ok-Some-clause-counts : goal.returns-in-Ok-Some-clause-counts
returns-in-Ok-Some-clause-counts g c = counts_then c.show_entries.result (g.F.PageFile.faults c.args.file.now) (g.F.PageFile.faults c.evaluate.new.file) (g.F.PageFile.faults c.show_entries.new.file) (g.K.Sink.faults c.args.sink.now) (g.K.Sink.faults c.args.sink.now) (g.K.Sink.faults c.show_entries.new.sink) c.in-Ok-Some.ensures.counts.quiet refl c.show_entries.ensures.counts

pub returns-in-Ok-None-clause-counts : goal.returns-in-Ok-None-clause-counts
returns-in-Ok-None-clause-counts g c = counts_then c.reply_nowhere.result (g.F.PageFile.faults c.args.file.now) (g.F.PageFile.faults c.evaluate.new.file) (g.F.PageFile.faults c.evaluate.new.file) (g.K.Sink.faults c.args.sink.now) (g.K.Sink.faults c.args.sink.now) (g.K.Sink.faults c.reply_nowhere.new.sink) c.in-Ok-None.ensures.counts.quiet refl (c.reply_nowhere.ensures.counts (g.F.PageFile.faults c.evaluate.new.file))

pub returns-in-Err-clause-counts : goal.returns-in-Err-clause-counts
returns-in-Err-clause-counts g c = fault_counts (g.F.PageFile.faults c.args.file.now) (g.F.PageFile.faults c.args.file.now) (g.F.PageFile.faults c.evaluate.new.file) (g.K.Sink.faults c.args.sink.now) (g.K.Sink.faults c.args.sink.now) refl refl c.in-Err.ensures.counts
