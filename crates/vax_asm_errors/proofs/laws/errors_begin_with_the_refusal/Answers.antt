use Rattle.vax_asm_errors.proofs.Beginning.{refused_told}
use Rattle.vax_asm_errors.proofs.laws.errors_begin_with_the_refusal.Goals as goal

pub returns : goal.returns
returns c = λ dialect title source before after f errors refused. refused_told dialect title source before after f errors refused
