use Rattle.std.proofs.Common.{◌≡◌, ◌∙◌, List, ap, arith, take}
use Rattle.std.proofs.lemmas.Grind.{common_steps}
use Rattle.std.specs.List.{filter}
use Rattle.vax_debug_words.specs.Commands.{begins, name_of, only_one}
use Rattle.vax_debug_words.specs.declared.command.Command.{Command}
use Rattle.vax_debug_words.proofs.command.meaning_among.Goals as goal

pub returns : goal.returns
returns c =
    let all : take c.loop-command.command-index c.args.commands.now ≡ c.args.commands.now = grind (arith, common_steps) in
    c.loop-command.invariant ∙ ap (λ (xs : List Command). only_one (filter (λ command. begins (name_of command) c.args.word.now) xs)) all
