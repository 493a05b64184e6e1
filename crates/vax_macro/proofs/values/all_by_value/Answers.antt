use Rattle.std.proofs.Common.{◌≡◌, ◌∷◌, [], map, length, ap, sym, ◌∙◌, arith}
use Rattle.std.specs.Vec.Iter.{into_iter_items}
use Rattle.vax_macro.specs.ArgumentViews.{argument_view}
use Rattle.vax_macro.proofs.Passing.{all_passed, one_passed, refused_all}
use Rattle.vax_macro.proofs.Slots.{nothing_left}
use Rattle.vax_macro.proofs.values.all_by_value.Goals as goal

pub loop-argument-preserved : goal.loop-argument-preserved
loop-argument-preserved g c =
    let at = c.loop-argument in
    let steps : into_iter_items at.argument-iterator ≡ c.in-Some.argument ∷ into_iter_items c.next.new.self = c.in-Some.ensures.steps.0 in
    record {
      same = one_passed (g.N.Names.meaning c.args.names.now) _ _ (argument_view c.in-Some.argument) (argument_view c.in-Ok.argument) _ _ _ (ap (map argument_view) steps) c.in_ok-keep.ensures c.in-Ok.ensures at.invariant.same;
      counted = let short = ap length steps in let gone = c.in-Some.ensures.steps.1 in let was = at.invariant.counted in omega arith;
    }

pub returns-in-Err : goal.returns-in-Err
returns-in-Err g c =
    let at = c.loop-argument in
    let steps : into_iter_items at.argument-iterator ≡ c.in-Some.argument ∷ into_iter_items c.next.new.self = c.in-Some.ensures.steps.0 in
    refused_all (g.N.Names.meaning c.args.names.now) _ (argument_view c.in-Some.argument) _ _ _ c.in-Err.refusal (ap (map argument_view) steps) c.in-Err.ensures at.invariant.same

pub returns : goal.returns
returns g c =
    let at = c.loop-argument in
    let none : into_iter_items at.argument-iterator ≡ [] = nothing_left _ (sym at.invariant.counted ∙ c.in-None.ensures.steps.0) in
    all_passed (g.N.Names.meaning c.args.names.now) _ _ _ (ap (map argument_view) none) at.invariant.same
