use Rattle.vax_link_laws.proofs.Apart.{apart}
use Rattle.vax_link_laws.proofs.sections_lie_apart.Goals as goal

pub returns : goal.returns
returns c = λ region modules image owner number other index s t linked one two full filled differ. apart region modules image owner number other index s t linked one two full filled differ
