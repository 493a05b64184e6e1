use Rattle.vax_disasm_laws.proofs.Listings.{lines_are_rows}
use Rattle.vax_disasm_laws.proofs.listings_are_rows.Goals as goal

pub returns : goal.returns
returns c = λ bytes address. lines_are_rows bytes 0 address
