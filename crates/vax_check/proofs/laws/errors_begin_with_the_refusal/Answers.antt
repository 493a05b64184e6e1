use Rattle.vax_check.proofs.Beginning.{refused_told}
use Rattle.vax_check.proofs.laws.errors_begin_with_the_refusal.Goals as goal

pub returns : goal.returns
returns c = λ dialect names files before after file line kind many told refused. refused_told dialect 1 names files before after file line kind many told refused
