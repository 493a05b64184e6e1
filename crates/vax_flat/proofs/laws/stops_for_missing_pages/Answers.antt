use Rattle.vax_flat.proofs.Inside.{stops_missing}
use Rattle.vax_flat.proofs.laws.stops_for_missing_pages.Goals as goal

pub returns : goal.returns
returns c = λ tree view page marked stops. stops_missing tree view page marked stops
