use Rattle.std.proofs.Common.{ℕ, List, Option, refl, subst}
use Rattle.std.proofs.lemmas.List.{length-take-le}
use Rattle.vax_flat.specs.Step.{Flat}
use Rattle.vax_machine.specs.Console.{memory_from}
use Rattle.vax_machine.specs.Meaning.{engine}
use Rattle.vax_console.specs.Ends.{scene}
use Rattle.vax_debug.specs.Sessions.{ShowsFrom}
use Rattle.vax_debug.proofs.Arriving.{counts_then}
use Rattle.vax_debug_replies.specs.Values.{value_line}
use Rattle.vax_debug_views.proofs.Telling.{fault_counts, looked_shows, shows_cut}
use Rattle.vax_debug_views.proofs.values.show_value.Goals as goal

pub returns-in-Ok-clause-shows : goal.returns-in-Ok-clause-shows
returns-in-Ok-clause-shows g c =
    looked_shows (scene (engine c.args.machine.now) (g.F.PageFile.contents c.args.file.now) (g.K.Sink.contents c.args.sink.now)) (scene (engine c.examine.new.machine) (g.F.PageFile.contents c.examine.new.file) (g.K.Sink.contents c.args.sink.now)) (g.K.Sink.contents c.reply_value.new.sink) c.reply_value.result (λ (z : List (Option ℕ)). value_line c.args.legend.now c.args.address z) c.args.address c.args.size c.examine.new.cells c.examine.ensures.stays
    (λ sink. subst (λ (n : ℕ). ShowsFrom (scene (engine c.args.machine.now) (g.F.PageFile.contents c.args.file.now) sink) c.args.address n c.examine.new.cells) (length-take-le c.args.size _ c.requires) (c.in-Ok.ensures.shows sink)) c.reply_value.ensures.replied

pub returns-in-Err-clause-shows : goal.returns-in-Err-clause-shows
returns-in-Err-clause-shows g c = shows_cut (scene (engine c.args.machine.now) (g.F.PageFile.contents c.args.file.now) (g.K.Sink.contents c.args.sink.now)) (scene (engine c.examine.new.machine) (g.F.PageFile.contents c.examine.new.file) (g.K.Sink.contents c.args.sink.now)) (λ (m : Flat). value_line c.args.legend.now c.args.address (memory_from m.memory c.args.address c.args.size)) c.examine.ensures.stays

pub returns-in-Ok-clause-counts : goal.returns-in-Ok-clause-counts
returns-in-Ok-clause-counts g c = counts_then c.reply_value.result (g.F.PageFile.faults c.args.file.now) (g.F.PageFile.faults c.examine.new.file) (g.F.PageFile.faults c.examine.new.file) (g.K.Sink.faults c.args.sink.now) (g.K.Sink.faults c.args.sink.now) (g.K.Sink.faults c.reply_value.new.sink) c.in-Ok.ensures.counts.quiet refl (c.reply_value.ensures.counts (g.F.PageFile.faults c.examine.new.file))

pub returns-in-Err-clause-counts : goal.returns-in-Err-clause-counts
returns-in-Err-clause-counts g c = fault_counts (g.F.PageFile.faults c.args.file.now) (g.F.PageFile.faults c.args.file.now) (g.F.PageFile.faults c.examine.new.file) (g.K.Sink.faults c.args.sink.now) (g.K.Sink.faults c.args.sink.now) refl refl c.in-Err.ensures.counts
