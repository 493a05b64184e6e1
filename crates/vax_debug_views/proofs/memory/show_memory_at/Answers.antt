use Rattle.vax_machine.specs.Meaning.{engine}
use Rattle.vax_console.specs.Ends.{scene}
use Rattle.vax_debug_views.specs.Views.{characters_shown, instructions_shown, memory_at_shown, values_shown}
use Rattle.vax_debug_views.proofs.Telling.{shows_behind}
use Rattle.vax_debug_views.proofs.Forms.{as_ascii, as_byte, as_instruction, as_long, as_quad, as_word}
use Rattle.vax_debug_views.proofs.memory.show_memory_at.Goals as goal

pub returns-in-Byte-clause-shows : goal.returns-in-Byte-clause-shows
returns-in-Byte-clause-shows g c =
    shows_behind (scene (engine c.args.machine.now) (g.F.PageFile.contents c.args.file.now) (g.K.Sink.contents c.args.sink.now)) (scene (engine c.args.machine.now) (g.F.PageFile.contents c.args.file.now) (g.K.Sink.contents c.args.sink.now)) (scene (engine c.show_values.new.machine) (g.F.PageFile.contents c.show_values.new.file) (g.K.Sink.contents c.show_values.new.sink)) c.show_values.result (values_shown c.args.legend.now 1 c.args.count c.args.address) (memory_at_shown c.args.legend.now c.args.form c.args.count c.args.address) (λ sink o s replies here. here)
    (λ sink o s replies here. as_byte c.args.legend.now c.args.form c.args.count c.args.address s.machine c.in-Byte.is) c.show_values.ensures.shows

pub returns-in-Word-clause-shows : goal.returns-in-Word-clause-shows
returns-in-Word-clause-shows g c =
    shows_behind (scene (engine c.args.machine.now) (g.F.PageFile.contents c.args.file.now) (g.K.Sink.contents c.args.sink.now)) (scene (engine c.args.machine.now) (g.F.PageFile.contents c.args.file.now) (g.K.Sink.contents c.args.sink.now)) (scene (engine c.show_values-in-Word.new.machine) (g.F.PageFile.contents c.show_values-in-Word.new.file) (g.K.Sink.contents c.show_values-in-Word.new.sink)) c.show_values-in-Word.result (values_shown c.args.legend.now 2 c.args.count c.args.address) (memory_at_shown c.args.legend.now c.args.form c.args.count c.args.address) (λ sink o s replies here. here)
    (λ sink o s replies here. as_word c.args.legend.now c.args.form c.args.count c.args.address s.machine c.in-Word.is) c.show_values-in-Word.ensures.shows

pub returns-in-Long-clause-shows : goal.returns-in-Long-clause-shows
returns-in-Long-clause-shows g c =
    shows_behind (scene (engine c.args.machine.now) (g.F.PageFile.contents c.args.file.now) (g.K.Sink.contents c.args.sink.now)) (scene (engine c.args.machine.now) (g.F.PageFile.contents c.args.file.now) (g.K.Sink.contents c.args.sink.now)) (scene (engine c.show_values-in-Long.new.machine) (g.F.PageFile.contents c.show_values-in-Long.new.file) (g.K.Sink.contents c.show_values-in-Long.new.sink)) c.show_values-in-Long.result (values_shown c.args.legend.now 4 c.args.count c.args.address) (memory_at_shown c.args.legend.now c.args.form c.args.count c.args.address) (λ sink o s replies here. here)
    (λ sink o s replies here. as_long c.args.legend.now c.args.form c.args.count c.args.address s.machine c.in-Long.is) c.show_values-in-Long.ensures.shows

pub returns-in-Quad-clause-shows : goal.returns-in-Quad-clause-shows
returns-in-Quad-clause-shows g c =
    shows_behind (scene (engine c.args.machine.now) (g.F.PageFile.contents c.args.file.now) (g.K.Sink.contents c.args.sink.now)) (scene (engine c.args.machine.now) (g.F.PageFile.contents c.args.file.now) (g.K.Sink.contents c.args.sink.now)) (scene (engine c.show_values-in-Quad.new.machine) (g.F.PageFile.contents c.show_values-in-Quad.new.file) (g.K.Sink.contents c.show_values-in-Quad.new.sink)) c.show_values-in-Quad.result (values_shown c.args.legend.now 8 c.args.count c.args.address) (memory_at_shown c.args.legend.now c.args.form c.args.count c.args.address) (λ sink o s replies here. here)
    (λ sink o s replies here. as_quad c.args.legend.now c.args.form c.args.count c.args.address s.machine c.in-Quad.is) c.show_values-in-Quad.ensures.shows

pub returns-in-Ascii-clause-shows : goal.returns-in-Ascii-clause-shows
returns-in-Ascii-clause-shows g c =
    shows_behind (scene (engine c.args.machine.now) (g.F.PageFile.contents c.args.file.now) (g.K.Sink.contents c.args.sink.now)) (scene (engine c.args.machine.now) (g.F.PageFile.contents c.args.file.now) (g.K.Sink.contents c.args.sink.now)) (scene (engine c.show_characters.new.machine) (g.F.PageFile.contents c.show_characters.new.file) (g.K.Sink.contents c.show_characters.new.sink)) c.show_characters.result (characters_shown c.args.legend.now c.args.count c.args.address) (memory_at_shown c.args.legend.now c.args.form c.args.count c.args.address) (λ sink o s replies here. here)
    (λ sink o s replies here. as_ascii c.args.legend.now c.args.form c.args.count c.args.address s.machine c.in-Ascii.is) c.show_characters.ensures.shows

pub returns-in-Instruction-clause-shows : goal.returns-in-Instruction-clause-shows
returns-in-Instruction-clause-shows g c =
    shows_behind (scene (engine c.args.machine.now) (g.F.PageFile.contents c.args.file.now) (g.K.Sink.contents c.args.sink.now)) (scene (engine c.args.machine.now) (g.F.PageFile.contents c.args.file.now) (g.K.Sink.contents c.args.sink.now)) (scene (engine c.show_instructions.new.machine) (g.F.PageFile.contents c.show_instructions.new.file) (g.K.Sink.contents c.show_instructions.new.sink)) c.show_instructions.result (instructions_shown c.args.legend.now c.args.count c.args.address) (memory_at_shown c.args.legend.now c.args.form c.args.count c.args.address) (λ sink o s replies here. here)
    (λ sink o s replies here. as_instruction c.args.legend.now c.args.form c.args.count c.args.address s.machine c.in-Instruction.is) c.show_instructions.ensures.shows
