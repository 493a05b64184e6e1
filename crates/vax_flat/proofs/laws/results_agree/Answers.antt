use Rattle.vax_flat.proofs.Results.{negated, added, subtracted, turned, unshifted}
use Rattle.vax_flat.proofs.laws.results_agree.Goals as goal

pub returns : goal.returns
returns c = record { negated = negated; added = added; subtracted = subtracted; turned = turned; unshifted = unshifted }
