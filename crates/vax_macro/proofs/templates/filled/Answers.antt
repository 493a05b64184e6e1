use Rattle.std.proofs.Common.{◌≡◌, ℕ, ◌∷◌, [], ◌+◌, List, map, length, drop, ap, sym, ◌∙◌, arith}
use Rattle.std.specs.Vec.Iter.{into_iter_items}
use Rattle.std.proofs.lemmas.List.{drop_more, drop_all}
use Rattle.vax_macro.specs.Templates.{filled}
use Rattle.vax_macro.specs.ArgumentViews.{owned_view}
use Rattle.vax_macro.specs.TemplateViews.{formal_view, texts_view}
use Rattle.vax_macro.proofs.Slots.{after_texts, one_filled, no_formals_left, no_texts_left, nothing_left}
use Rattle.vax_macro.proofs.templates.filled.Goals as goal

pub returns-then-place-formals : goal.returns-then-place-formals
returns-then-place-formals c =
    let at = c.loop-text in
    no_formals_left (texts_view at.texts) at.made (map formal_view (drop at.place c.args.formals.now)) (map owned_view (into_iter_items at.text-iterator)) _
    (ap (map formal_view) (drop_all at.place c.args.formals.now c.if-place-formals.true)) at.invariant.same

pub loop-text-preserved : goal.loop-text-preserved
loop-text-preserved c =
    let at = c.loop-text in
    let steps : into_iter_items at.text-iterator ≡ c.in-Some.text ∷ into_iter_items c.next.new.self = c.in-Some.ensures.steps.0 in
    let one : drop at.place c.args.formals.now ≡ c.index-formals-place.result ∷ drop (at.place + 1) c.args.formals.now =
    drop_more c.args.formals.now at.place c.index-formals-place.result (omega (arith, c.if-place-formals.false)) ∙ ap (λ y. y ∷ drop (at.place + 1) c.args.formals.now) (sym c.index-formals-place.is) in
    record {
      same =
          ap (λ (l : List (List ℕ)). after_texts l (filled c.fill.new.made (map formal_view (drop (at.place + 1) c.args.formals.now)) (map owned_view (into_iter_items c.next.new.self)))) c.in_ok-add_text.ensures
          ∙ one_filled (texts_view at.texts) c.in_ok-text.text.items at.made c.fill.new.made (formal_view c.index-formals-place.result) _ (map formal_view (drop (at.place + 1) c.args.formals.now)) (owned_view c.in-Some.text) _ (map owned_view (into_iter_items c.next.new.self)) _
          (ap (map formal_view) one) (ap (map owned_view) steps) c.in_ok-text.ensures.filled at.invariant.same;
      in_range = omega (arith, c.if-place-formals.false);
      counted = let short = ap length steps in let gone = c.in-Some.ensures.steps.1 in let was = at.invariant.counted in omega arith;
    }

pub returns : goal.returns
returns c =
    let at = c.loop-text in
    let none : into_iter_items at.text-iterator ≡ [] = nothing_left _ (sym at.invariant.counted ∙ c.in-None.ensures.steps.0) in
    no_texts_left (texts_view at.texts) at.made (map formal_view (drop at.place c.args.formals.now)) (map owned_view (into_iter_items at.text-iterator)) _ (ap (map owned_view) none) at.invariant.same
