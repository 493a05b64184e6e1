use Rattle.vax_disasm_laws.proofs.Laws.{source_stands}
use Rattle.vax_disasm_laws.proofs.sources_of_listings_give_their_bytes.Goals as goal

pub returns : goal.returns
returns c = λ dialect source bytes m p owner are linked there e is low. source_stands dialect source bytes m p owner are linked there e is low
