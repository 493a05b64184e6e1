use Rattle.vax_asm_faults.proofs.Leasting.{first_is_least, whole_is_least}
use Rattle.vax_asm_faults.proofs.first_faults_are_the_least.Goals as goal

pub returns-clause-lines : goal.returns-clause-lines
returns-clause-lines c = λ faults f told. first_is_least faults f told

pub returns-clause-whole : goal.returns-clause-whole
returns-clause-whole c = λ faults f told. whole_is_least faults f told
