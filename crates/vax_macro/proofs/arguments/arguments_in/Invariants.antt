use Rattle.std.proofs.Common.{◌≡◌, ◌<◌, ◌+◌, length, map, ℕ}
use Rattle.vax_macro.specs.Arguments.{arguments_from}
use Rattle.vax_macro.specs.ArgumentViews.{argument_view}
use Rattle.vax_macro.proofs.Gathering.{joined}
use Rattle.vax_macro.proofs.arguments.arguments_in.Given as goal

abbrev pub invariant-loop-found : goal.invariant-loop-found
invariant-loop-found g l = (steps : ℕ) × (length l.rest < steps)
    × (joined (map argument_view l.found.items) (arguments_from steps l.larger (g.K.Keywords.is_keyword l.keywords) l.rest)
    ≡ arguments_from (length l.text + 1) l.larger (g.K.Keywords.is_keyword l.keywords) l.text)

abbrev pub decreases-loop-found : goal.decreases-loop-found
decreases-loop-found g l = length l.rest
