use Rattle.std.proofs.Common.{◌≡◌, ◌∙◌, ◌++◌, List, ℕ, ap, slice_index, sym}
use Rattle.vax_word.specs.declared.Core.{Core}
use Rattle.vax_report.specs.Lines.{register_line}
use Rattle.vax_machine.specs.Meaning.{engine}
use Rattle.vax_console.specs.Ends.{scene}
use Rattle.vax_console.proofs.Requested.{same_core}
use Rattle.vax_debug_views.specs.Views.{register_shown}
use Rattle.vax_debug_views.proofs.Telling.{replied_shows}
use Rattle.vax_debug_views.proofs.registers.show_register.Goals as goal

pub returns-clause-shows : goal.returns-clause-shows
returns-clause-shows g c =
    let file = g.F.PageFile.contents c.args.file.now in
    let said : c.as_slice.result.now ≡ register_line c.args.register (slice_index (engine c.args.machine.now).cpu.core.regs c.args.register) =
    c.as_slice.ensures ∙ (c.push_register.ensures.exact ∙ (ap (λ (z : List ℕ). z ++ register_line c.args.register (slice_index c.core.result.now.regs c.args.register)) c.new-text.ensures ∙ ap (λ (z : Core). register_line c.args.register (slice_index z.regs c.args.register)) c.core.ensures)) in
    replied_shows (scene (engine c.args.machine.now) file (g.K.Sink.contents c.args.sink.now)) (g.K.Sink.contents c.reply.new.sink) c.reply.result c.as_slice.result.now (register_shown c.args.register)
    (λ sink o s replies here. said ∙ ap (λ (z : Core). register_line c.args.register (slice_index z.regs c.args.register)) (sym (same_core (engine c.args.machine.now) file s.machine here.at.means))) c.reply.ensures.replied

pub returns-clause-counts : goal.returns-clause-counts
returns-clause-counts g c = c.reply.ensures.counts (g.F.PageFile.faults c.args.file.now)
