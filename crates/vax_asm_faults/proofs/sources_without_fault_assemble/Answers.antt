use Rattle.vax_asm_faults.proofs.Leasting.{assembles, has_none}
use Rattle.vax_asm_faults.proofs.sources_without_fault_assemble.Goals as goal

pub returns-clause-only : goal.returns-clause-only
returns-clause-only c = λ dialect source m made. has_none dialect source m made

pub returns-clause-every : goal.returns-clause-every
returns-clause-every c = λ dialect source m none. assembles dialect source m none
