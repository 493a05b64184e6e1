use Rattle.vax_asm_listing.proofs.Leading.{leads_on}
use Rattle.vax_asm_listing.proofs.laws.rows_are_statements.Goals as goal

pub returns : goal.returns
returns c = leads_on
