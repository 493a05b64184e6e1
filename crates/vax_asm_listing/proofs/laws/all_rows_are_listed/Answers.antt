use Rattle.vax_asm_listing.proofs.Left.{all_listed}
use Rattle.vax_asm_listing.proofs.laws.all_rows_are_listed.Goals as goal

pub returns : goal.returns
returns c = all_listed
