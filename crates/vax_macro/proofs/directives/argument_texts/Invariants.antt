use Rattle.std.proofs.Common.{◌≡◌, ◌++◌, map, length}
use Rattle.std.specs.Vec.Iter.{into_iter_items, into_iter_len}
use Rattle.vax_macro.specs.Directives.{argument_texts}
use Rattle.vax_macro.specs.ArgumentViews.{argument_view}
use Rattle.vax_macro.specs.TemplateViews.{texts_view}
use Rattle.vax_macro.proofs.directives.argument_texts.Given as goal

abbrev pub invariant-loop-argument : goal.invariant-loop-argument
invariant-loop-argument l = record {
  same : texts_view l.texts ++ argument_texts (map argument_view (into_iter_items l.argument-iterator)) ≡ argument_texts (map argument_view l.fn.arguments.items);
  counted : into_iter_len l.argument-iterator ≡ length (into_iter_items l.argument-iterator);
}
