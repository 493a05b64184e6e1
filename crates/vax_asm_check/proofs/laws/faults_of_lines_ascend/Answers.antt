use Rattle.vax_asm_check.proofs.Beginning.{lines_ascend}
use Rattle.vax_asm_check.proofs.laws.faults_of_lines_ascend.Goals as goal

pub returns : goal.returns
returns c = λ dialect source. lines_ascend dialect source
