use Rattle.vax_asm_statement.proofs.Within.{pieces_within}
use Rattle.vax_asm_statement.proofs.items.pieces.Goals as goal

pub returns-clause-within : goal.returns-clause-within
returns-clause-within c = λ line. pieces_within line c.args.tokens.now
