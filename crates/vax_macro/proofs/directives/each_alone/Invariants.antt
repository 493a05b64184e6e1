use Rattle.std.proofs.Common.{◌≡◌, ◌++◌, ◌∷◌, [], map, length}
use Rattle.std.specs.Vec.Iter.{into_iter_items, into_iter_len}
use Rattle.vax_macro.specs.TemplateViews.{texts_view}
use Rattle.vax_macro.proofs.directives.each_alone.Given as goal

abbrev pub invariant-loop-text : goal.invariant-loop-text
invariant-loop-text l = record {
  same : map texts_view l.others.items ++ map (λ t. t.items ∷ []) (into_iter_items l.text-iterator) ≡ map (λ t. t.items ∷ []) l.fn.texts.items;
  counted : into_iter_len l.text-iterator ≡ length (into_iter_items l.text-iterator);
}
