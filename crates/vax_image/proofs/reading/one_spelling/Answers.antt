use Rattle.vax_image.proofs.Whole.{one_spelling_law}
use Rattle.vax_image.proofs.reading.one_spelling.Goals as goal

pub returns : goal.returns
returns c = one_spelling_law
