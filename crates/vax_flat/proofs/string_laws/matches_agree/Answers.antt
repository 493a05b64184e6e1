use Rattle.vax_flat.proofs.StringMatch.{match_agrees}
use Rattle.vax_flat.proofs.string_laws.matches_agree.Goals as goal

pub returns : goal.returns
returns c = λ p s memory next behind ready proper is. match_agrees p s memory next behind ready proper is.layout is.delta is.within
