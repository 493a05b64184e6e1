use Rattle.std.proofs.Common.{List, refl, subst}
use Rattle.vax_flat.specs.Step.{Flat}
use Rattle.vax_machine.specs.Meaning.{engine}
use Rattle.vax_console.specs.Ends.{scene}
use Rattle.vax_debug.proofs.Arriving.{counts_then}
use Rattle.vax_debug_replies.specs.Frames.{saved_line}
use Rattle.vax_debug_replies.specs.declared.frames.SavedRegister.{SavedRegister}
use Rattle.vax_debug_views.specs.Showing.{Replied}
use Rattle.vax_debug_views.specs.Views.{saved_below}
use Rattle.vax_debug_views.proofs.Telling.{shows_cut, told_shows}
use Rattle.vax_debug_views.proofs.contents.show_saved_of.Goals as goal

pub returns-in-Ok-clause-shows : goal.returns-in-Ok-clause-shows
returns-in-Ok-clause-shows g c =
    told_shows (scene (engine c.args.machine.now) (g.F.PageFile.contents c.args.file.now) (g.K.Sink.contents c.args.sink.now)) (scene (engine c.saved_registers.new.machine) (g.F.PageFile.contents c.saved_registers.new.file) (g.K.Sink.contents c.args.sink.now)) (g.K.Sink.contents c.reply_saved.new.sink) c.reply_saved.result saved_line (saved_below 12 c.args.mask c.args.frame) c.in-Ok.registers c.saved_registers.ensures.stays
    (λ sink o s replies here. c.in-Ok.ensures.tells sink o s replies here)
    (subst (λ (z : List SavedRegister). Replied c.reply_saved.result (g.K.Sink.contents c.args.sink.now) (g.K.Sink.contents c.reply_saved.new.sink) (saved_line z)) c.as_slice.ensures.exact c.reply_saved.ensures.replied)

pub returns-in-Ok-clause-counts : goal.returns-in-Ok-clause-counts
returns-in-Ok-clause-counts g c = counts_then c.reply_saved.result (g.F.PageFile.faults c.args.file.now) (g.F.PageFile.faults c.saved_registers.new.file) (g.F.PageFile.faults c.saved_registers.new.file) (g.K.Sink.faults c.args.sink.now) (g.K.Sink.faults c.args.sink.now) (g.K.Sink.faults c.reply_saved.new.sink) c.in-Ok.ensures.counts.quiet refl (c.reply_saved.ensures.counts (g.F.PageFile.faults c.saved_registers.new.file))

pub returns-in-Err-clause-shows : goal.returns-in-Err-clause-shows
returns-in-Err-clause-shows g c = shows_cut (scene (engine c.args.machine.now) (g.F.PageFile.contents c.args.file.now) (g.K.Sink.contents c.args.sink.now)) (scene (engine c.saved_registers.new.machine) (g.F.PageFile.contents c.saved_registers.new.file) (g.K.Sink.contents c.args.sink.now)) (λ (m : Flat). saved_line (saved_below 12 c.args.mask c.args.frame m)) c.saved_registers.ensures.stays
