use Rattle.std.proofs.Common.{rules}
use Rattle.vax_asm_names.specs.ByName.{by_name}
use Rattle.vax_asm_sections.proofs.Numbering.{known_still, same_name}
use Rattle.vax_asm_sections.specs.View.{part_of}
use Rattle.vax_asm_sections.proofs.Undoing.{added_keeps}
use Rattle.vax_asm_sections.proofs.types.Layout.add.Goals as goal

pub invariant_of-self : goal.invariant_of-self
invariant_of-self g c = record {
  in_range = search rules;
  known = known_still (by_name c.args.self.now.numbers) c.args.self.now.sections.items c.args.self.now.current c.add.new.self c.index_mut.result.now c.args.self.now.in_range (same_name c.index_mut.result.now c.add.new.self _ c.add.ensures.named c.index_mut.ensures.value) c.args.self.now.known;
}

pub invariant_of-self-2 : goal.invariant_of-self-2
invariant_of-self-2 g c = record {
  in_range = search rules;
  known = known_still (by_name c.args.self.now.numbers) c.args.self.now.sections.items c.args.self.now.current c.add.new.self c.index_mut.result.now c.args.self.now.in_range (same_name c.index_mut.result.now c.add.new.self _ c.add.ensures.named c.index_mut.ensures.value) c.args.self.now.known;
}

pub returns-clause-mark : goal.returns-clause-mark
returns-clause-mark g c = λ m e.
    let old = c.args.self.now in
    added_keeps old.journal c.note_put.new.journal old.sections.items old.current old.total c.args.more (part_of c.args.piece) c.index.result.now c.index_mut.result.now c.add.new.self m old.in_range c.index.ensures c.index_mut.ensures.value
    c.in_default.ensures.longer c.note_put.ensures e
