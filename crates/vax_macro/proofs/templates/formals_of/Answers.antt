use Rattle.std.proofs.Common.{◌≡◌, ◌∷◌, [], Some, None, map, length, ap, sym, ◌∙◌, arith}
use Rattle.std.specs.Vec.Iter.{into_iter_items}
use Rattle.std.proofs.lemmas.Grind.{common_steps}
use Rattle.vax_macro.specs.Templates.{added, formal_of}
use Rattle.vax_macro.specs.ArgumentViews.{argument_view}
use Rattle.vax_macro.specs.TemplateViews.{formals_view}
use Rattle.vax_macro.proofs.Slots.{one_formal, no_formal, last_formal, nothing_left}
use Rattle.vax_macro.proofs.templates.formals_of.Goals as goal

pub loop-argument-preserved : goal.loop-argument-preserved
loop-argument-preserved c =
    let at = c.loop-argument in
    let steps : into_iter_items at.argument-iterator ≡ c.in-Some.argument ∷ into_iter_items c.next.new.self = c.in-Some.ensures.steps.0 in
    let fits : added (formals_view at.formals) (formal_of (argument_view c.in-Some.argument)) ≡ Some (formals_view c.add_formal.new.formals) = grind (arith, common_steps) in
    record {
      same = one_formal (formals_view at.formals) (formals_view c.add_formal.new.formals) (argument_view c.in-Some.argument) _ _ _ (ap (map argument_view) steps) fits at.invariant.same;
      counted = let short = ap length steps in let gone = c.in-Some.ensures.steps.1 in let was = at.invariant.counted in omega arith;
    }

pub returns : goal.returns
returns c =
    let at = c.loop-argument in
    let none : into_iter_items at.argument-iterator ≡ [] = nothing_left _ (sym at.invariant.counted ∙ c.in-None.ensures.steps.0) in
    last_formal (formals_view at.formals) _ _ (ap (map argument_view) none) at.invariant.same

pub returns-then-not-is_added : goal.returns-then-not-is_added
returns-then-not-is_added c =
    let at = c.loop-argument in
    let steps : into_iter_items at.argument-iterator ≡ c.in-Some.argument ∷ into_iter_items c.next.new.self = c.in-Some.ensures.steps.0 in
    let fits : added (formals_view at.formals) (formal_of (argument_view c.in-Some.argument)) ≡ None = grind (arith, common_steps) in
    no_formal (formals_view at.formals) (argument_view c.in-Some.argument) _ _ _ (ap (map argument_view) steps) fits at.invariant.same
