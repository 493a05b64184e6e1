use Rattle.vax_asm_statement.proofs.Within.{parsed_within}
use Rattle.vax_asm_statement.proofs.reading.read_statement.Goals as goal

pub returns-in-Some-clause-within : goal.returns-in-Some-clause-within
returns-in-Some-clause-within c = λ line. parsed_within line c.args.tokens.now

pub returns-in-Some-headed-clause-within : goal.returns-in-Some-headed-clause-within
returns-in-Some-headed-clause-within c = λ line. parsed_within line c.args.tokens.now

pub returns-clause-within : goal.returns-clause-within
returns-clause-within c = λ line. parsed_within line c.args.tokens.now
