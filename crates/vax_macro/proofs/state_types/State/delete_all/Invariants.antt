use Rattle.std.proofs.Common.{◌≡◌, map, drop}
use Rattle.vax_macro.specs.ArgumentViews.{argument_view}
use Rattle.vax_macro.specs.Directives.{delete_all}
use Rattle.vax_macro.specs.View.{rest_in}
use Rattle.vax_macro.proofs.state_types.State.delete_all.Given as goal

abbrev pub invariant-loop-argument : goal.invariant-loop-argument
invariant-loop-argument l =
    delete_all (map argument_view (drop l.argument-index l.found)) (rest_in l.read l.self) ≡ delete_all (map argument_view l.found) (rest_in l.read l.fn.self)
