use Rattle.vax_disasm_laws.proofs.Laws.{is_statement}
use Rattle.vax_disasm_laws.proofs.texts_are_statements.Goals as goal

pub returns : goal.returns
returns c = λ bytes address l origin s are e within room. is_statement bytes address l origin s are e within room
