use Rattle.std.proofs.Common.{◌≡◌, map, length}
use Rattle.std.specs.Vec.Iter.{into_iter_items, into_iter_len}
use Rattle.vax_macro.specs.ArgumentViews.{argument_view}
use Rattle.vax_macro.specs.Values.{all_by_value}
use Rattle.vax_macro.proofs.Passing.{behind}
use Rattle.vax_macro.proofs.values.all_by_value.Given as goal

abbrev pub invariant-loop-argument : goal.invariant-loop-argument
invariant-loop-argument g l = record {
  same : behind (map argument_view l.passed.items) (all_by_value (g.N.Names.meaning l.names) (map argument_view (into_iter_items l.argument-iterator)))
      ≡ all_by_value (g.N.Names.meaning l.names) (map argument_view l.fn.arguments.items);
  counted : into_iter_len l.argument-iterator ≡ length (into_iter_items l.argument-iterator);
}
