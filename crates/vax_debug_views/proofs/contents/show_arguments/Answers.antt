use Rattle.vax_machine.specs.Meaning.{engine}
use Rattle.vax_console.specs.Ends.{scene}
use Rattle.vax_debug_views.specs.Views.{arguments_of, arguments_shown}
use Rattle.vax_debug_views.proofs.Keeping.{arguments_told}
use Rattle.vax_debug_views.proofs.Telling.{shows_behind, shows_cut}
use Rattle.vax_debug_views.proofs.contents.show_arguments.Goals as goal

pub returns-in-Ok-clause-shows : goal.returns-in-Ok-clause-shows
returns-in-Ok-clause-shows g c =
    shows_behind (scene (engine c.args.machine.now) (g.F.PageFile.contents c.args.file.now) (g.K.Sink.contents c.args.sink.now)) (scene (engine c.longword.new.machine) (g.F.PageFile.contents c.longword.new.file) (g.K.Sink.contents c.args.sink.now)) (scene (engine c.show_arguments_of.new.machine) (g.F.PageFile.contents c.show_arguments_of.new.file) (g.K.Sink.contents c.show_arguments_of.new.sink)) c.show_arguments_of.result (arguments_of c.count_in.result c.args.frame) (arguments_shown c.args.frame) c.longword.ensures.stays
    (λ sink o s replies here. arguments_told c.args.frame s.machine c.in-Ok.first c.count_in.result c.count_in.ensures (c.in-Ok.ensures.tells sink o s replies here)) c.show_arguments_of.ensures.shows

pub returns-in-Err-clause-shows : goal.returns-in-Err-clause-shows
returns-in-Err-clause-shows g c = shows_cut (scene (engine c.args.machine.now) (g.F.PageFile.contents c.args.file.now) (g.K.Sink.contents c.args.sink.now)) (scene (engine c.longword.new.machine) (g.F.PageFile.contents c.longword.new.file) (g.K.Sink.contents c.args.sink.now)) (arguments_shown c.args.frame) c.longword.ensures.stays
