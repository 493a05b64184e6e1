use Rattle.vax_asm_names.specs.ByName.{by_name}
use Rattle.vax_asm_sections.proofs.Numbering.{known_still, same_name}
use Rattle.vax_asm_sections.proofs.types.Layout.set_back.Goals as goal

pub invariant_of-self-2-clause-known : goal.invariant_of-self-2-clause-known
invariant_of-self-2-clause-known g c =
    known_still (by_name c.args.self.now.numbers) c.args.self.now.sections.items c.args.self.now.current c.set_back.new.self c.index_mut.result.now c.args.self.now.in_range (same_name c.index_mut.result.now c.set_back.new.self _ c.set_back.ensures.named c.index_mut.ensures.value) c.args.self.now.known
