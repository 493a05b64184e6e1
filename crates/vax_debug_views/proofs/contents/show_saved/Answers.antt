use Rattle.vax_flat.specs.Step.{Flat}
use Rattle.vax_machine.specs.Meaning.{engine}
use Rattle.vax_console.specs.Ends.{scene}
use Rattle.vax_debug_replies.specs.Frames.{saved_line}
use Rattle.vax_debug_views.specs.Views.{saved_below, saved_shown}
use Rattle.vax_debug_views.proofs.Keeping.{saved_told}
use Rattle.vax_debug_views.proofs.Telling.{shows_behind, shows_cut}
use Rattle.vax_debug_views.proofs.contents.show_saved.Goals as goal

pub returns-in-Ok-clause-shows : goal.returns-in-Ok-clause-shows
returns-in-Ok-clause-shows g c =
    shows_behind (scene (engine c.args.machine.now) (g.F.PageFile.contents c.args.file.now) (g.K.Sink.contents c.args.sink.now)) (scene (engine c.saved.new.machine) (g.F.PageFile.contents c.saved.new.file) (g.K.Sink.contents c.args.sink.now)) (scene (engine c.show_saved_of.new.machine) (g.F.PageFile.contents c.show_saved_of.new.file) (g.K.Sink.contents c.show_saved_of.new.sink)) c.show_saved_of.result (λ (m : Flat). saved_line (saved_below 12 c.mask_in.result c.args.frame m)) (saved_shown c.args.frame) c.saved.ensures.stays
    (λ sink o s replies here. saved_told c.args.frame s.machine c.in-Ok.word c.mask_in.result c.mask_in.ensures (c.in-Ok.ensures.tells sink o s replies here)) c.show_saved_of.ensures.shows

pub returns-in-Err-clause-shows : goal.returns-in-Err-clause-shows
returns-in-Err-clause-shows g c = shows_cut (scene (engine c.args.machine.now) (g.F.PageFile.contents c.args.file.now) (g.K.Sink.contents c.args.sink.now)) (scene (engine c.saved.new.machine) (g.F.PageFile.contents c.saved.new.file) (g.K.Sink.contents c.args.sink.now)) (saved_shown c.args.frame) c.saved.ensures.stays
