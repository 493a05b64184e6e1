use Rattle.vax_asm_listing.proofs.Rows.{lead_all}
use Rattle.vax_asm_listing.proofs.laws.opened_rows_lead_on.Goals as goal

pub returns : goal.returns
returns c = lead_all
