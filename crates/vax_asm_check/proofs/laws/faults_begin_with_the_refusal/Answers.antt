use Rattle.vax_asm_check.proofs.Beginning.{begin_refused}
use Rattle.vax_asm_check.proofs.laws.faults_begin_with_the_refusal.Goals as goal

pub returns : goal.returns
returns c = λ dialect source told f all refused. begin_refused dialect source told f all refused
