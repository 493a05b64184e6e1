use Rattle.vax_flat.proofs.StringCompare.{compare_agrees}
use Rattle.vax_flat.proofs.string_laws.comparisons_agree.Goals as goal

pub returns : goal.returns
returns c = λ p s memory next behind ready proper is. compare_agrees p s memory next behind ready proper is.layout is.first is.second is.delta
