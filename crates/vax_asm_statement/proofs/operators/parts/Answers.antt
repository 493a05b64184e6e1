use Rattle.vax_asm_statement.proofs.Within.{parts_within}
use Rattle.vax_asm_statement.proofs.operators.parts.Goals as goal

pub returns-else-is_empty-clause-within : goal.returns-else-is_empty-clause-within
returns-else-is_empty-clause-within c = λ line. parts_within line c.args.tokens.now
