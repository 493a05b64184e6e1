use Rattle.std.proofs.Common.{◌≡◌, ◌++◌, ◌-◌, None}
use Rattle.std.specs.Prelude.{replicate}
use Rattle.vax_macro.specs.TemplateViews.{given_view}
use Rattle.vax_macro.proofs.templates.nothing_given.Given as goal

abbrev pub invariant-loop : goal.invariant-loop
invariant-loop l = given_view l.given ++ replicate (l.count - l.counter) None ≡ replicate l.count None
