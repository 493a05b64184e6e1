use Rattle.vax_asm_errors.proofs.Noting.{remarks_alone}
use Rattle.vax_asm_errors.proofs.laws.sources_without_further_directives_have_remarks_alone.Goals as goal

pub returns : goal.returns
returns c = λ dialect title asked source before after is smaller. remarks_alone dialect title source asked before after smaller is
