use Rattle.std.proofs.Common.{ℕ, List, Option, refl}
use Rattle.vax_machine.specs.Meaning.{engine}
use Rattle.vax_console.specs.Ends.{scene}
use Rattle.vax_debug.proofs.Arriving.{counts_then}
use Rattle.vax_debug_replies.specs.Instructions.{listed_instruction}
use Rattle.vax_debug_views.specs.Views.{instruction_shown}
use Rattle.vax_debug_views.proofs.Telling.{fault_counts, looked_shows, shows_cut}
use Rattle.vax_debug_views.proofs.instructions.show_instruction.Goals as goal

pub returns-in-Ok-clause-shows : goal.returns-in-Ok-clause-shows
returns-in-Ok-clause-shows g c =
    looked_shows (scene (engine c.args.machine.now) (g.F.PageFile.contents c.args.file.now) (g.K.Sink.contents c.args.sink.now)) (scene (engine c.examine.new.machine) (g.F.PageFile.contents c.examine.new.file) (g.K.Sink.contents c.args.sink.now)) (g.K.Sink.contents c.reply_instruction.new.sink) c.reply_instruction.result (λ (z : List (Option ℕ)). listed_instruction c.args.legend.now c.args.address z) c.args.address 64 c.examine.new.cells c.examine.ensures.stays
    c.in-Ok.ensures.shows c.reply_instruction.ensures.replied

pub returns-in-Err-clause-shows : goal.returns-in-Err-clause-shows
returns-in-Err-clause-shows g c = shows_cut (scene (engine c.args.machine.now) (g.F.PageFile.contents c.args.file.now) (g.K.Sink.contents c.args.sink.now)) (scene (engine c.examine.new.machine) (g.F.PageFile.contents c.examine.new.file) (g.K.Sink.contents c.args.sink.now)) (instruction_shown c.args.legend.now c.args.address) c.examine.ensures.stays

pub returns-in-Ok-clause-counts : goal.returns-in-Ok-clause-counts
returns-in-Ok-clause-counts g c = counts_then c.reply_instruction.result (g.F.PageFile.faults c.args.file.now) (g.F.PageFile.faults c.examine.new.file) (g.F.PageFile.faults c.examine.new.file) (g.K.Sink.faults c.args.sink.now) (g.K.Sink.faults c.args.sink.now) (g.K.Sink.faults c.reply_instruction.new.sink) c.in-Ok.ensures.counts.quiet refl (c.reply_instruction.ensures.counts (g.F.PageFile.faults c.examine.new.file))

pub returns-in-Err-clause-counts : goal.returns-in-Err-clause-counts
returns-in-Err-clause-counts g c = fault_counts (g.F.PageFile.faults c.args.file.now) (g.F.PageFile.faults c.args.file.now) (g.F.PageFile.faults c.examine.new.file) (g.K.Sink.faults c.args.sink.now) (g.K.Sink.faults c.args.sink.now) refl refl c.in-Err.ensures.counts
