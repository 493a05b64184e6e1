use Rattle.std.proofs.Common.{◌≡◌, ◌∷◌, [], Some, None, map, length, ap, sym, ◌∙◌, arith}
use Rattle.std.specs.Vec.Iter.{into_iter_items}
use Rattle.std.proofs.lemmas.Grind.{common_steps}
use Rattle.vax_macro.specs.Templates.{given_to, keyword_index}
use Rattle.vax_macro.specs.ArgumentViews.{argument_view}
use Rattle.vax_macro.specs.TemplateViews.{formals_view, giving_view}
use Rattle.vax_macro.proofs.Slots.{one_given, not_given, last_given, nothing_left}
use Rattle.vax_macro.proofs.templates.assigned.Goals as goal

pub loop-argument-preserved : goal.loop-argument-preserved
loop-argument-preserved c =
    let at = c.loop-argument in
    let steps : into_iter_items at.argument-iterator ≡ c.in-Some.argument ∷ into_iter_items c.next.new.self = c.in-Some.ensures.steps.0 in
    let a = argument_view c.in-Some.argument in
    let fits : given_to (keyword_index (formals_view c.args.formals.now) a.keyword) a.text (giving_view at.giving) ≡ Some (giving_view c.give.new.self) = grind (arith, common_steps) in
    record {
      same = one_given (formals_view c.args.formals.now) a _ _ (giving_view at.giving) (giving_view c.give.new.self) _ (ap (map argument_view) steps) fits at.invariant.same;
      counted = let short = ap length steps in let gone = c.in-Some.ensures.steps.1 in let was = at.invariant.counted in omega arith;
    }

pub loop-argument-preserved-else-not-give : goal.loop-argument-preserved-else-not-give
loop-argument-preserved-else-not-give c =
    let at = c.loop-argument in
    let steps : into_iter_items at.argument-iterator ≡ c.in-Some.argument ∷ into_iter_items c.next.new.self = c.in-Some.ensures.steps.0 in
    let a = argument_view c.in-Some.argument in
    let fits : given_to (keyword_index (formals_view c.args.formals.now) a.keyword) a.text (giving_view at.giving) ≡ Some (giving_view c.give.new.self) = grind (arith, common_steps) in
    record {
      same = one_given (formals_view c.args.formals.now) a _ _ (giving_view at.giving) (giving_view c.give.new.self) _ (ap (map argument_view) steps) fits at.invariant.same;
      counted = let short = ap length steps in let gone = c.in-Some.ensures.steps.1 in let was = at.invariant.counted in omega arith;
    }

pub returns : goal.returns
returns c =
    let at = c.loop-argument in
    let none : into_iter_items at.argument-iterator ≡ [] = nothing_left _ (sym at.invariant.counted ∙ c.in-None.ensures.steps.0) in
    last_given (formals_view c.args.formals.now) _ (giving_view at.giving) _ (ap (map argument_view) none) at.invariant.same

pub returns-then-not-give : goal.returns-then-not-give
returns-then-not-give c =
    let at = c.loop-argument in
    let steps : into_iter_items at.argument-iterator ≡ c.in-Some.argument ∷ into_iter_items c.next.new.self = c.in-Some.ensures.steps.0 in
    let a = argument_view c.in-Some.argument in
    let fits : given_to (keyword_index (formals_view c.args.formals.now) a.keyword) a.text (giving_view at.giving) ≡ None = grind (arith, common_steps) in
    not_given (formals_view c.args.formals.now) a _ _ (giving_view at.giving) _ (ap (map argument_view) steps) fits at.invariant.same
