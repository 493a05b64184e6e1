use Rattle.vax_disasm_laws.proofs.Laws.{text_stands}
use Rattle.vax_disasm_laws.proofs.texts_stand_for_their_bytes.Goals as goal

pub returns : goal.returns
returns c = λ bytes l p owner h are linked part e b. text_stands bytes l p owner h are linked part e b
