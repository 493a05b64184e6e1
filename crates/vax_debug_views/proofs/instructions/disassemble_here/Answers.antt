use Rattle.std.proofs.Common.{◌∙◌, slice_index, sym}
use Rattle.vax_machine.specs.Meaning.{engine}
use Rattle.vax_console.specs.Ends.{scene}
use Rattle.vax_console.proofs.Requested.{same_core}
use Rattle.vax_debug_views.specs.Views.{disassembled_here, instructions_shown}
use Rattle.vax_debug_views.proofs.Telling.{shows_behind}
use Rattle.vax_debug_views.proofs.Wholes.{instructions_here}
use Rattle.vax_debug_views.proofs.instructions.disassemble_here.Goals as goal

pub returns-clause-shows : goal.returns-clause-shows
returns-clause-shows g c =
    let file = g.F.PageFile.contents c.args.file.now in
    shows_behind (scene (engine c.args.machine.now) (g.F.PageFile.contents c.args.file.now) (g.K.Sink.contents c.args.sink.now)) (scene (engine c.args.machine.now) (g.F.PageFile.contents c.args.file.now) (g.K.Sink.contents c.args.sink.now)) (scene (engine c.show_instructions.new.machine) (g.F.PageFile.contents c.show_instructions.new.file) (g.K.Sink.contents c.show_instructions.new.sink)) c.show_instructions.result (instructions_shown c.args.legend.now 10 (slice_index c.core.result.now.regs 15)) (disassembled_here c.args.legend.now) (λ sink o s replies here. here)
    (λ sink o s replies here. instructions_here c.args.legend.now c.core.result.now s.machine (c.core.ensures ∙ sym (same_core (engine c.args.machine.now) file s.machine here.at.means))) c.show_instructions.ensures.shows
