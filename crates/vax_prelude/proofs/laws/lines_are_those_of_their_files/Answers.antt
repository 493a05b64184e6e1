use Rattle.vax_prelude.proofs.Telling.{told_so}
use Rattle.vax_prelude.proofs.laws.lines_are_those_of_their_files.Goals as goal

pub returns : goal.returns
returns c = λ preludes text line ended. told_so preludes text line ended
