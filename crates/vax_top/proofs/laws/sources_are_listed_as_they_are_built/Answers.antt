use Rattle.vax_top.proofs.SourceLaws.{same_image}
use Rattle.vax_top.proofs.laws.sources_are_listed_as_they_are_built.Goals as goal

pub returns : goal.returns
returns c = same_image
