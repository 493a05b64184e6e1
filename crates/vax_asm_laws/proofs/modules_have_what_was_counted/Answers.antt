use Rattle.vax_asm_laws.proofs.Walking.{is_stated}
use Rattle.vax_asm_laws.proofs.modules_have_what_was_counted.Goals as goal

pub returns : goal.returns
returns c = λ dialect source m assembled. is_stated dialect source m assembled
