use Rattle.vax_disasm_laws.proofs.Laws.{source_accepted}
use Rattle.vax_disasm_laws.proofs.listings_assemble.Goals as goal

pub returns : goal.returns
returns c = λ dialect source bytes address are room is. source_accepted dialect source bytes address are room is
