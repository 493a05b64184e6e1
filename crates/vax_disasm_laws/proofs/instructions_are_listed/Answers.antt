use Rattle.vax_disasm_laws.proofs.Laws.{assembled_listed}
use Rattle.vax_disasm_laws.proofs.instructions_are_listed.Goals as goal

pub returns : goal.returns
returns c = λ i before after has held rest address are w. assembled_listed i before after has held rest address are w
