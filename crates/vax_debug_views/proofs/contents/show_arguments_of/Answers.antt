use Rattle.std.proofs.Common.{◌≡◌, ◌∙◌, ℕ, List, Option, min, refl, ap, subst}
use Rattle.vax_machine.specs.Meaning.{engine}
use Rattle.vax_console.specs.Ends.{scene}
use Rattle.vax_debug.proofs.Arriving.{counts_then}
use Rattle.vax_debug_replies.specs.Frames.{arguments_line}
use Rattle.vax_debug_views.specs.Showing.{Replied}
use Rattle.vax_debug_views.specs.Views.{arguments_of, first_arguments}
use Rattle.vax_debug_views.proofs.Telling.{shows_cut, told_shows}
use Rattle.vax_debug_views.proofs.contents.show_arguments_of.Goals as goal

pub returns-in-Ok-clause-shows : goal.returns-in-Ok-clause-shows
returns-in-Ok-clause-shows g c =
    let count = c.args.count in
    let few : c.min.result ≡ min count 16 = c.min.ensures in
    let text : List (Option ℕ) → List ℕ = arguments_line count in
    told_shows (scene (engine c.args.machine.now) (g.F.PageFile.contents c.args.file.now) (g.K.Sink.contents c.args.sink.now)) (scene (engine c.first_arguments.new.machine) (g.F.PageFile.contents c.first_arguments.new.file) (g.K.Sink.contents c.args.sink.now)) (g.K.Sink.contents c.reply_arguments.new.sink) c.reply_arguments.result text (first_arguments (min count 16) c.args.frame) c.in-Ok.arguments c.first_arguments.ensures.stays
    (λ sink o s replies here. c.in-Ok.ensures.tells sink o s replies here ∙ ap (λ (n : ℕ). first_arguments n c.args.frame s.machine) few)
    (subst (λ (z : List (Option ℕ)). Replied c.reply_arguments.result (g.K.Sink.contents c.args.sink.now) (g.K.Sink.contents c.reply_arguments.new.sink) (text z)) c.as_slice.ensures.exact c.reply_arguments.ensures.replied)

pub returns-in-Ok-clause-counts : goal.returns-in-Ok-clause-counts
returns-in-Ok-clause-counts g c = counts_then c.reply_arguments.result (g.F.PageFile.faults c.args.file.now) (g.F.PageFile.faults c.first_arguments.new.file) (g.F.PageFile.faults c.first_arguments.new.file) (g.K.Sink.faults c.args.sink.now) (g.K.Sink.faults c.args.sink.now) (g.K.Sink.faults c.reply_arguments.new.sink) c.in-Ok.ensures.counts.quiet refl (c.reply_arguments.ensures.counts (g.F.PageFile.faults c.first_arguments.new.file))

pub returns-in-Err-clause-shows : goal.returns-in-Err-clause-shows
returns-in-Err-clause-shows g c = shows_cut (scene (engine c.args.machine.now) (g.F.PageFile.contents c.args.file.now) (g.K.Sink.contents c.args.sink.now)) (scene (engine c.first_arguments.new.machine) (g.F.PageFile.contents c.first_arguments.new.file) (g.K.Sink.contents c.args.sink.now)) (arguments_of c.args.count c.args.frame) c.first_arguments.ensures.stays
