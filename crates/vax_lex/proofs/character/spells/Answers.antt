use Rattle.std.proofs.Common.{sym}
use Rattle.vax_lex.proofs.Spelling.{spells_length}
use Rattle.vax_lex.proofs.character.spells.Goals as goal

pub returns-then-text-word : goal.returns-then-text-word
returns-then-text-word c = sym (spells_length _ _ c.if-text-word.true)
