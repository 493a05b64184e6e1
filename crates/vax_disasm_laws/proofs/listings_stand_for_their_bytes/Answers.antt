use Rattle.vax_disasm_laws.proofs.Laws.{rows_stand}
use Rattle.vax_disasm_laws.proofs.listings_stand_for_their_bytes.Goals as goal

pub returns : goal.returns
returns c = λ bytes p owner h are linked part low b. rows_stand bytes p owner h are linked part low b
