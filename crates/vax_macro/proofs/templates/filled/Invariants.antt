use Rattle.std.proofs.Common.{◌≡◌, ◌≤◌, map, drop, length}
use Rattle.std.specs.Vec.Iter.{into_iter_items, into_iter_len}
use Rattle.vax_macro.specs.Templates.{filled}
use Rattle.vax_macro.specs.ArgumentViews.{owned_view}
use Rattle.vax_macro.specs.TemplateViews.{formal_view, given_view, texts_view}
use Rattle.vax_macro.proofs.Slots.{after_texts}
use Rattle.vax_macro.proofs.templates.filled.Given as goal

abbrev pub invariant-loop-text : goal.invariant-loop-text
invariant-loop-text l = record {
  same : after_texts (texts_view l.texts) (filled l.made (map formal_view (drop l.place l.formals)) (map owned_view (into_iter_items l.text-iterator)))
      ≡ filled l.fn.made (map formal_view l.formals) (given_view l.fn.given);
  in_range : l.place ≤ length l.formals;
  counted : into_iter_len l.text-iterator ≡ length (into_iter_items l.text-iterator);
}
