use Rattle.vax_asm_errors.proofs.Beginning.{none_told}
use Rattle.vax_asm_errors.proofs.laws.sources_that_assemble_have_no_errors.Goals as goal

pub returns : goal.returns
returns c = λ dialect title source before after m errors assembles. none_told dialect title source before after m errors assembles
