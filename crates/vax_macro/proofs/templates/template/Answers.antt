use Rattle.std.proofs.Common.{◌≡◌, ◌≤◌, ℕ, ◌∷◌, [], ◌++◌, List, Vec, map, length, ap, sym, ◌∙◌, arith, append_assoc}
use Rattle.std.specs.Prelude.{All}
use Rattle.std.specs.Global.{Global}
use Rattle.std.specs.Vec.Iter.{into_iter_items}
use Rattle.std.proofs.lemmas.List.{append-nil}
use Rattle.std.proofs.lemmas.List.Elements.{All-tail, All-same}
use Rattle.std.proofs.lemmas.Simd.{map-map}
use Rattle.vax_macro.specs.Templates as specs
use Rattle.vax_macro.specs.Templates.{body_line}
use Rattle.vax_macro.specs.TemplateViews.{formals_view, line_view, texts_view}
use Rattle.vax_macro.proofs.Slots.{nothing_left}
use Rattle.vax_macro.proofs.templates.template.Goals as goal

pub loop-text-preserved : goal.loop-text-preserved
loop-text-preserved c =
    let at = c.loop-text in
    let steps : into_iter_items at.text-iterator ≡ c.in-Some.text ∷ into_iter_items c.next.new.self = c.in-Some.ensures.steps.0 in
    let rest = map (λ (t : Vec ℕ Global). body_line (formals_view c.args.formals).index t.items) (into_iter_items c.next.new.self) in
    let short : All (λ (t : Vec ℕ Global). length t.items ≤ 1024) (into_iter_items c.next.new.self) =
    All-tail (λ (t : Vec ℕ Global). length t.items ≤ 1024) c.in-Some.text (into_iter_items c.next.new.self) (All-same (λ (t : Vec ℕ Global). length t.items ≤ 1024) _ _ (sym steps) at.invariant.short) in
    record {
      same =
          ap (λ (l : List specs.BodyLine). l ++ rest) c.in_ok-add_line.ensures
          ∙ append_assoc (map line_view at.lines.items) (line_view c.in_ok-line.line ∷ []) rest
          ∙ ap (λ (l : specs.BodyLine). map line_view at.lines.items ++ l ∷ rest) c.in_ok-line.ensures
          ∙ ap (λ (l : List (Vec ℕ Global)). map line_view at.lines.items ++ map (λ (t : Vec ℕ Global). body_line (formals_view c.args.formals).index t.items) l) (sym steps)
          ∙ at.invariant.same;
      short = short;
      counted = let gone = ap length steps in let less = c.in-Some.ensures.steps.1 in let was = at.invariant.counted in omega arith;
    }

pub returns : goal.returns
returns c =
    let at = c.loop-text in
    let none : into_iter_items at.text-iterator ≡ [] = nothing_left _ (sym at.invariant.counted ∙ c.in-None.ensures.steps.0) in
    let lines : map line_view at.lines.items ≡ map (body_line (formals_view c.args.formals).index) (texts_view c.args.texts) =
    sym (append-nil (map line_view at.lines.items))
    ∙ ap (λ (l : List (Vec ℕ Global)). map line_view at.lines.items ++ map (λ (t : Vec ℕ Global). body_line (formals_view c.args.formals).index t.items) l) (sym none)
    ∙ at.invariant.same
    ∙ sym (map-map (body_line (formals_view c.args.formals).index) (λ (t : Vec ℕ Global). t.items) c.args.texts.items) in
    ap (λ (l : List specs.BodyLine). let r : specs.Template = record { formals = formals_view c.args.formals; lines = l } in r) lines
