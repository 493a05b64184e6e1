use Rattle.vax_asm_sections.specs.View.{sections_of}
use Rattle.vax_asm_sections.proofs.Undoing.{marked_here}
use Rattle.vax_asm_sections.proofs.types.Layout.mark.Goals as goal

pub returns-clause-marked : goal.returns-clause-marked
returns-clause-marked g c = marked_here c.mark.new.self (sections_of c.args.self.now) c.mark.ensures.marked c.mark.ensures.empty
