use Rattle.std.proofs.Common.{◌≡◌, ◌≤◌, ◌++◌, take, map, length}
use Rattle.std.specs.Prelude.{All}
use Rattle.vax_macro.specs.TemplateViews.{texts_view}
use Rattle.vax_macro.proofs.state.add_all.Given as goal

abbrev pub invariant-loop-part : goal.invariant-loop-part
invariant-loop-part l = record {
  same : texts_view l.lines ≡ texts_view l.fn.lines ++ map (λ t. t.items) (take l.part-index l.parts);
  short : All (λ t. length t.items ≤ 1024) l.lines.items;
}
