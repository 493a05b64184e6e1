use Rattle.std.proofs.Common.{◌≡◌, ◌≤◌, ◌++◌, map, length}
use Rattle.std.specs.Prelude.{All}
use Rattle.std.specs.Vec.Iter.{into_iter_items, into_iter_len}
use Rattle.vax_macro.specs.Templates.{body_line}
use Rattle.vax_macro.specs.TemplateViews.{formals_view, line_view}
use Rattle.vax_macro.proofs.templates.template.Given as goal

abbrev pub invariant-loop-text : goal.invariant-loop-text
invariant-loop-text l = record {
  same : map line_view l.lines.items ++ map (λ t. body_line (formals_view l.formals).index t.items) (into_iter_items l.text-iterator)
      ≡ map (λ t. body_line (formals_view l.formals).index t.items) l.fn.texts.items;
  short : All (λ t. length t.items ≤ 1024) (into_iter_items l.text-iterator);
  counted : into_iter_len l.text-iterator ≡ length (into_iter_items l.text-iterator);
}
