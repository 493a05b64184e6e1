use Rattle.std.proofs.Common.{sym, subst}
use Rattle.vax_asm_statement.specs.Reading.{Parsed, statement_seen}
use Rattle.vax_asm_statement.specs.Within.{Within}
use Rattle.vax_asm.proofs.Parsing.{statement_sound}
use Rattle.vax_asm.proofs.placing.statement_of.Goals as goal

pub returns-clause-within : goal.returns-clause-within
returns-clause-within c = λ line h. subst (λ (p : Parsed). Within line p) (sym c.read_statement.ensures.statement) (c.read_statement.ensures.within line h)

pub returns-clause-sound : goal.returns-clause-sound
returns-clause-sound c = statement_sound c.args.tokens.now (statement_seen c.read_statement.result) c.requires.few c.read_statement.ensures.statement
