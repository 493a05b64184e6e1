use Rattle.std.proofs.Common.{◌≡◌, ◌==◌, false}
use Rattle.std.proofs.lemmas.Bool.{ne_eqb}
use Rattle.vax_machine.specs.Meaning.{engine}
use Rattle.vax_console.specs.Ends.{scene}
use Rattle.vax_debug_views.specs.Views.{arguments_shown, contents_shown, saved_shown}
use Rattle.vax_debug_views.proofs.Keeping.{no_contents, some_contents}
use Rattle.vax_debug_views.proofs.Telling.{nothing_shows, shows_first, shows_then}
use Rattle.vax_debug_views.proofs.contents.show_contents.Goals as goal

pub returns-then-frame-eq0-clause-shows : goal.returns-then-frame-eq0-clause-shows
returns-then-frame-eq0-clause-shows g c = nothing_shows (scene (engine c.args.machine.now) (g.F.PageFile.contents c.args.file.now) (g.K.Sink.contents c.args.sink.now)) (contents_shown c.args.frame) (λ m. no_contents c.args.frame m c.if-frame-eq0.true)

pub returns-in-Ok-clause-shows : goal.returns-in-Ok-clause-shows
returns-in-Ok-clause-shows g c =
    let f = c.args.frame in
    let some : (f.fp == 0) ≡ false = ne_eqb f.fp 0 c.if-frame-eq0.false in
    shows_then (scene (engine c.args.machine.now) (g.F.PageFile.contents c.args.file.now) (g.K.Sink.contents c.args.sink.now)) (scene (engine c.show_arguments.new.machine) (g.F.PageFile.contents c.show_arguments.new.file) (g.K.Sink.contents c.show_arguments.new.sink)) (scene (engine c.show_saved.new.machine) (g.F.PageFile.contents c.show_saved.new.file) (g.K.Sink.contents c.show_saved.new.sink)) tt c.show_saved.result (arguments_shown f) (saved_shown f) (contents_shown f) (λ m. some_contents f m some) c.in-Ok.ensures.shows c.show_saved.ensures.shows

pub returns-in-Err-clause-shows : goal.returns-in-Err-clause-shows
returns-in-Err-clause-shows g c =
    let f = c.args.frame in
    let some : (f.fp == 0) ≡ false = ne_eqb f.fp 0 c.if-frame-eq0.false in
    shows_first (scene (engine c.args.machine.now) (g.F.PageFile.contents c.args.file.now) (g.K.Sink.contents c.args.sink.now)) (scene (engine c.show_arguments.new.machine) (g.F.PageFile.contents c.show_arguments.new.file) (g.K.Sink.contents c.show_arguments.new.sink)) c.in-Err.failure (arguments_shown f) (saved_shown f) (contents_shown f) (λ m. some_contents f m some) c.in-Err.ensures.shows
