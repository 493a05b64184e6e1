use Rattle.vax_flat_laws.proofs.Fielding.{compared_as}
use Rattle.vax_flat_laws.proofs.fields.comparisons_follow_extraction.Goals as goal

pub returns : goal.returns
returns c = λ signed position size source n base s t u memory end after full few came other. compared_as signed position size source n base s t u memory end after full few came other
