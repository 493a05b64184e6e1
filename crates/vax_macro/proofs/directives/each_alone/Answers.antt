use Rattle.std.proofs.Common.{◌≡◌, ℕ, ◌∷◌, [], ◌++◌, List, Vec, map, ap, sym, ◌∙◌}
use Rattle.std.specs.Global.{Global}
use Rattle.std.specs.Vec.Iter.{into_iter_items}
use Rattle.std.proofs.lemmas.List.{append-nil}
use Rattle.std.proofs.lemmas.Simd.{map-map}
use Rattle.vax_macro.specs.TemplateViews.{texts_view}
use Rattle.vax_macro.proofs.Slots.{nothing_left}
use Rattle.vax_macro.proofs.directives.each_alone.Goals as goal

pub returns : goal.returns
returns c =
    let at = c.loop-text in
    let none : into_iter_items at.text-iterator ≡ [] = nothing_left _ (sym at.invariant.counted ∙ c.in-None.ensures.steps.0) in
    sym (append-nil (map texts_view at.others.items))
    ∙ ap (λ (l : List (Vec ℕ Global)). map texts_view at.others.items ++ map (λ (t : Vec ℕ Global). t.items ∷ []) l) (sym none)
    ∙ at.invariant.same
    ∙ sym (map-map (λ (text : List ℕ). text ∷ []) (λ (t : Vec ℕ Global). t.items) c.args.texts.items)
