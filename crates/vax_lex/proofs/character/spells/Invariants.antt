use Rattle.std.proofs.Common.{◌≡◌, drop}
use Rattle.vax_lex.specs.Characters.{spells}
use Rattle.vax_lex.proofs.character.spells.Given as goal

abbrev pub invariant-loop-i : goal.invariant-loop-i
invariant-loop-i l = spells (drop l.i l.word) (drop l.i l.text) ≡ spells l.word l.text
