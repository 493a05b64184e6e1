use Rattle.vax_asm_faults.proofs.Refusing.{refused_first}
use Rattle.vax_asm_faults.proofs.sources_are_refused_for_their_first_fault.Goals as goal

pub returns : goal.returns
returns c = λ dialect source. refused_first dialect source
