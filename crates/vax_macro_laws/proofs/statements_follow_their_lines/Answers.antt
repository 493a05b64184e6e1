use Rattle.vax_macro_laws.proofs.Moving.{follows}
use Rattle.vax_macro_laws.proofs.statements_follow_their_lines.Goals as goal

pub returns : goal.returns
returns c = λ names before after st e. follows names before st after e
