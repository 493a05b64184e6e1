use Rattle.std.proofs.Common.{refl, ◌∙◌}
use Rattle.vax_undo.specs.Plain.{view_of}
use Rattle.vax_vector_memory.proofs.Filling.{filled_so, resident_mapped}
use Rattle.vax_vector_memory.proofs.fill.fill.Goals as goal

pub hide_all-requires : goal.hide_all-requires
hide_all-requires c = resident_mapped c.args.pages.now c.put.new.memory.space c.put.new.memory.blocks.items c.put.new.memory.owners.items c.put.new.memory.sound
    (c.in_ok-put.ensures.areas ∙ (c.in_ok-clear.ensures.areas ∙ c.requires))

pub returns-clause-view : goal.returns-clause-view
returns-clause-view c = filled_so c.args.pages.now c.args.ram.now c.put.new.memory.space c.put.new.memory.blocks.items (view_of c.put.new.memory) (view_of c.hide_all.new.memory)
    (c.in_ok-put.ensures.areas ∙ (c.in_ok-clear.ensures.areas ∙ c.requires)) refl refl c.in_ok-put.ensures.bytes c.hide_all.ensures
