use Rattle.std.proofs.Common.{◌≡◌, map, length}
use Rattle.std.specs.Vec.Iter.{into_iter_items, into_iter_len}
use Rattle.vax_macro.specs.Templates.{assigned, given_from}
use Rattle.vax_macro.specs.ArgumentViews.{argument_view}
use Rattle.vax_macro.specs.TemplateViews.{formals_view, giving_view}
use Rattle.vax_macro.proofs.templates.assigned.Given as goal

abbrev pub invariant-loop-argument : goal.invariant-loop-argument
invariant-loop-argument l = record {
  same : given_from (formals_view l.formals) (map argument_view (into_iter_items l.argument-iterator)) (giving_view l.giving) ≡ assigned (formals_view l.formals) (map argument_view l.fn.arguments.items);
  counted : into_iter_len l.argument-iterator ≡ length (into_iter_items l.argument-iterator);
}
