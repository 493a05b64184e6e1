use Rattle.std.proofs.Common.{◌∙◌, sym}
use Rattle.vax_machine.specs.Meaning.{engine}
use Rattle.vax_console.specs.Ends.{scene}
use Rattle.vax_console.proofs.Requested.{same_core}
use Rattle.vax_debug_views.specs.Views.{frames_from, frames_shown}
use Rattle.vax_debug_views.proofs.Telling.{shows_behind}
use Rattle.vax_debug_views.proofs.Wholes.{frames_here}
use Rattle.vax_debug_views.proofs.frames.show_frames.Goals as goal

pub returns-clause-shows : goal.returns-clause-shows
returns-clause-shows g c =
    let file = g.F.PageFile.contents c.args.file.now in
    shows_behind (scene (engine c.args.machine.now) (g.F.PageFile.contents c.args.file.now) (g.K.Sink.contents c.args.sink.now)) (scene (engine c.args.machine.now) (g.F.PageFile.contents c.args.file.now) (g.K.Sink.contents c.args.sink.now)) (scene (engine c.show_frames_from.new.machine) (g.F.PageFile.contents c.show_frames_from.new.file) (g.K.Sink.contents c.show_frames_from.new.sink)) c.show_frames_from.result (frames_from c.args.legend.now 64 0 c.innermost-frame.result) (frames_shown c.args.legend.now) (λ sink o s replies here. here)
    (λ sink o s replies here. frames_here c.args.legend.now c.innermost-frame.result c.core.result.now s.machine c.innermost-frame.ensures (c.core.ensures ∙ sym (same_core (engine c.args.machine.now) file s.machine here.at.means))) c.show_frames_from.ensures.shows
