use Rattle.std.proofs.Common.{Ok, Err, refl}
use Rattle.vax_flat.specs.Step.{Flat}
use Rattle.vax_machine.specs.Meaning.{engine}
use Rattle.vax_console.specs.Ends.{scene}
use Rattle.vax_debug.proofs.Arriving.{counts_then}
use Rattle.vax_debug_replies.specs.Frames.{frame_line}
use Rattle.vax_debug_views.specs.Views.{contents_shown, frame_shown}
use Rattle.vax_debug_views.proofs.Keeping.{with_contents}
use Rattle.vax_debug_views.proofs.Telling.{replied_shows, shows_first, shows_then}
use Rattle.vax_debug_views.proofs.frames.show_frame.Goals as goal

pub returns-in-Ok-clause-shows : goal.returns-in-Ok-clause-shows
returns-in-Ok-clause-shows g c =
    shows_then (scene (engine c.args.machine.now) (g.F.PageFile.contents c.args.file.now) (g.K.Sink.contents c.args.sink.now)) (scene (engine c.args.machine.now) (g.F.PageFile.contents c.args.file.now) (g.K.Sink.contents c.reply_frame.new.sink)) (scene (engine c.show_contents.new.machine) (g.F.PageFile.contents c.show_contents.new.file) (g.K.Sink.contents c.show_contents.new.sink)) tt c.show_contents.result (λ (m : Flat). frame_line c.args.legend.now c.args.number c.args.frame) (contents_shown c.args.frame) (frame_shown c.args.legend.now c.args.number c.args.frame) (λ m. with_contents c.args.legend.now c.args.number c.args.frame m)
    (replied_shows (scene (engine c.args.machine.now) (g.F.PageFile.contents c.args.file.now) (g.K.Sink.contents c.args.sink.now)) (g.K.Sink.contents c.reply_frame.new.sink) (Ok tt) (frame_line c.args.legend.now c.args.number c.args.frame) (λ (m : Flat). frame_line c.args.legend.now c.args.number c.args.frame) (λ sink o s replies here. refl) c.in-Ok.ensures.replied) c.show_contents.ensures.shows

pub returns-in-Ok-clause-counts : goal.returns-in-Ok-clause-counts
returns-in-Ok-clause-counts g c = counts_then c.show_contents.result (g.F.PageFile.faults c.args.file.now) (g.F.PageFile.faults c.args.file.now) (g.F.PageFile.faults c.show_contents.new.file) (g.K.Sink.faults c.args.sink.now) (g.K.Sink.faults c.reply_frame.new.sink) (g.K.Sink.faults c.show_contents.new.sink) refl (c.in-Ok.ensures.counts (g.F.PageFile.faults c.args.file.now)).1 c.show_contents.ensures.counts

pub returns-in-Err-clause-shows : goal.returns-in-Err-clause-shows
returns-in-Err-clause-shows g c =
    shows_first (scene (engine c.args.machine.now) (g.F.PageFile.contents c.args.file.now) (g.K.Sink.contents c.args.sink.now)) (scene (engine c.args.machine.now) (g.F.PageFile.contents c.args.file.now) (g.K.Sink.contents c.reply_frame.new.sink)) c.in-Err.failure (λ (m : Flat). frame_line c.args.legend.now c.args.number c.args.frame) (contents_shown c.args.frame) (frame_shown c.args.legend.now c.args.number c.args.frame) (λ m. with_contents c.args.legend.now c.args.number c.args.frame m)
    (replied_shows (scene (engine c.args.machine.now) (g.F.PageFile.contents c.args.file.now) (g.K.Sink.contents c.args.sink.now)) (g.K.Sink.contents c.reply_frame.new.sink) (Err c.in-Err.failure) (frame_line c.args.legend.now c.args.number c.args.frame) (λ (m : Flat). frame_line c.args.legend.now c.args.number c.args.frame) (λ sink o s replies here. refl) c.in-Err.ensures.replied)
