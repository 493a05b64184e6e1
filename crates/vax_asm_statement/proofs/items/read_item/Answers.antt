use Rattle.vax_asm_statement.proofs.Within.{item_within}
use Rattle.vax_asm_statement.proofs.items.read_item.Goals as goal

pub returns-clause-within : goal.returns-clause-within
returns-clause-within c = λ line. item_within line c.args.tokens.now
