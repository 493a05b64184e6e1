use Rattle.std.proofs.Common.{ℕ, ◌∷◌, [], List, Vec, map, refl, ap, sym, ◌∙◌}
use Rattle.std.specs.Global.{Global}
use Rattle.std.specs.List.{flat_map}
use Rattle.std.proofs.lemmas.List.Folds.{flat_map-map}
use Rattle.vax_macro.specs.Lines.{SourceLine}
use Rattle.vax_macro.specs.Templates.{BodyLine}
use Rattle.vax_macro.specs.Directives.{expansion}
use Rattle.vax_macro.specs.TemplateViews.{line_view, texts_view}
use Rattle.vax_macro.specs.declared.line_types.Frame as code_frame
use Rattle.vax_macro.specs.declared.template_types.Template as code_template
use Rattle.vax_macro.proofs.Frames.{opens_each}
use Rattle.vax_macro.proofs.directives.copies_each.Goals as goal

pub returns : goal.returns
returns c =
    let f : code_frame.Frame = record { template = c.in_ok-template.template; at = 0; texts = c.in-Some.first; copies = 0; others = c.pop_front.new.self; number = c.args.number; depth = c.args.depth } in
    let copy : List BodyLine → List (List ℕ) → List SourceLine = λ lines texts. expansion lines c.args.number c.args.depth texts in
    let lines : List BodyLine = map line_view c.args.template.lines.items in
    opens_each f refl refl
    ∙ ap (λ (t : code_template.Template). flat_map (λ (texts : Vec (Vec ℕ Global) Global). copy (map line_view t.lines.items) (texts_view texts)) (c.in-Some.first ∷ c.pop_front.new.self.items)) c.in_ok-template.ensures
    ∙ ap (flat_map (λ (texts : Vec (Vec ℕ Global) Global). copy lines (texts_view texts))) (sym c.in-Some.ensures.items)
    ∙ sym (flat_map-map (copy lines) texts_view c.in_ok-others.others.items)
    ∙ ap (flat_map (copy lines)) c.in_ok-others.ensures
    ∙ flat_map-map (copy lines) (λ (text : List ℕ). text ∷ []) (texts_view c.args.texts)
