use Rattle.std.proofs.Common.{◌≡◌, take}
use Rattle.std.specs.List.{filter}
use Rattle.vax_debug_words.specs.Commands.{begins, name_of, only_one}
use Rattle.vax_debug_words.proofs.command.meaning_among.Given as goal

-- what the word means among the commands so far
abbrev pub invariant-loop-command : goal.invariant-loop-command
invariant-loop-command l = l.found ≡ only_one (filter (λ command. begins (name_of command) l.word) (take l.command-index l.commands))
