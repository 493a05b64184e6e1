use Rattle.std.proofs.Common.{◌≡◌, ◌∙◌, ◌++◌, List, ℕ, ap, sym}
use Rattle.vax_word.specs.declared.Core.{Core}
use Rattle.vax_machine.specs.Meaning.{engine}
use Rattle.vax_console.specs.Ends.{scene}
use Rattle.vax_console.proofs.Requested.{same_core}
use Rattle.vax_debug_replies.specs.Status.{field_line}
use Rattle.vax_debug_views.specs.Views.{field_shown}
use Rattle.vax_debug_views.proofs.Telling.{replied_shows}
use Rattle.vax_debug_views.proofs.registers.show_field.Goals as goal

pub returns-clause-shows : goal.returns-clause-shows
returns-clause-shows g c =
    let file = g.F.PageFile.contents c.args.file.now in
    let said : c.as_slice.result.now ≡ field_line c.args.field (engine c.args.machine.now).cpu.core.psl.0 =
    c.as_slice.ensures ∙ (c.push_field_line.ensures.exact ∙ (ap (λ (z : List ℕ). z ++ field_line c.args.field c.core.result.now.psl.0) c.new-text.ensures ∙ ap (λ (z : Core). field_line c.args.field z.psl.0) c.core.ensures)) in
    replied_shows (scene (engine c.args.machine.now) file (g.K.Sink.contents c.args.sink.now)) (g.K.Sink.contents c.reply.new.sink) c.reply.result c.as_slice.result.now (field_shown c.args.field)
    (λ sink o s replies here. said ∙ ap (λ (z : Core). field_line c.args.field z.psl.0) (sym (same_core (engine c.args.machine.now) file s.machine here.at.means))) c.reply.ensures.replied

pub returns-clause-counts : goal.returns-clause-counts
returns-clause-counts g c = c.reply.ensures.counts (g.F.PageFile.faults c.args.file.now)
