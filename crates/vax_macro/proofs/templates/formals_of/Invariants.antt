use Rattle.std.proofs.Common.{◌≡◌, map, length}
use Rattle.std.specs.Vec.Iter.{into_iter_items, into_iter_len}
use Rattle.vax_macro.specs.Templates.{no_formals, formals_from}
use Rattle.vax_macro.specs.ArgumentViews.{argument_view}
use Rattle.vax_macro.specs.TemplateViews.{formals_view}
use Rattle.vax_macro.proofs.templates.formals_of.Given as goal

abbrev pub invariant-loop-argument : goal.invariant-loop-argument
invariant-loop-argument l = record {
  same : formals_from (formals_view l.formals) (map argument_view (into_iter_items l.argument-iterator)) ≡ formals_from no_formals (map argument_view l.fn.arguments.items);
  counted : into_iter_len l.argument-iterator ≡ length (into_iter_items l.argument-iterator);
}
