-- Open conditions, and the first begin that has no end.
use Rattle.std.proofs.Common.{◌≡◌, ℕ, suc, ◌-◌, ◌<◌, List, [], ◌∷◌, length, map, get_or, Option, Some, None, refl, ap, ◌∙◌, arith}
use Rattle.std.proofs.lemmas.List.{length-map}
use Rattle.std.specs.Prelude.{Vec}
use Rattle.std.specs.Global.{Global}
use Rattle.std.specs.BTreeMap.{BTreeMap}
use Rattle.std.specs.declared.rc.Rc.{Rc}
use Rattle.vax_dialect.specs.declared.Dialect.{Dialect}
use Rattle.vax_macro.specs.Lines.{SourceLine, source_lines}
use Rattle.vax_macro.specs.LineViews.{lines_of, source_of}
use Rattle.vax_macro.specs.Templates.{Template}
use Rattle.vax_macro.specs.declared.line_types.Lines as code_lines
use Rattle.vax_macro.specs.declared.template_types.Template as code_template
use Rattle.vax_macro.proofs.Maps.{no_macros}
use Rattle.vax_macro.specs.Rest.{Opening, Pending, Rest, started}
use Rattle.vax_macro.specs.Expansion.{last_begin, unclosed}
use Rattle.vax_macro.specs.View.{call_view, condition_view, opening_of, macros_of}
use Rattle.vax_macro.specs.declared.state_types.Call as code_call
use Rattle.vax_macro.specs.declared.state_types.OpenCondition as code

pub condition_count : (conditions : List code.OpenCondition) → length (map condition_view conditions) ≡ length conditions
condition_count conditions = length-map conditions condition_view

last_of : (c : code.OpenCondition) (conditions : List code.OpenCondition) (x : code.OpenCondition) → x ≡ get_or (c ∷ conditions) (length conditions) x → opening_of x.begin ≡ last_begin (condition_view c) (map condition_view conditions)
last_of c [] x e = ap (λ (y : code.OpenCondition). opening_of y.begin) e
last_of c (d ∷ conditions) x e = last_of d conditions x e

-- the last open condition is the first that has no end
pub outermost : (conditions : List code.OpenCondition) (x : code.OpenCondition) (collecting : Option Pending) → 0 < length conditions → x ≡ get_or conditions (length conditions - 1) x
    → Some (opening_of x.begin) ≡ unclosed (map condition_view conditions) collecting
outermost [] x collecting h e = absurd (omega (arith, h))
outermost (c ∷ conditions) x collecting h e =
    let place : suc (length conditions) - 1 ≡ length conditions = omega arith in
    ap (λ (o : Opening). let s : Option Opening = Some o in s) (last_of c conditions x (e ∙ ap (λ (k : ℕ). get_or (c ∷ conditions) k x) place))

-- a source of which nothing was opened
pub fresh : (dialect : Dialect) (l : code_lines.Lines) (m : BTreeMap (Vec ℕ Global) (Rc code_template.Template Global)) (conditions : List code.OpenCondition) (calls : List code_call.Call) (source : List ℕ)
    → l.frames.items ≡ [] → l.source.items ≡ source → l.at ≡ 0 → l.number ≡ 0 → m.entries ≡ [] → conditions ≡ [] → calls ≡ []
    → (let r : Rest = record { dialect = dialect; lines = lines_of l; again = None; macros = macros_of m; collecting = None; conditions = map condition_view conditions; calls = map call_view calls; made = 0; read = 0 } in r) ≡ started dialect source
unfolding lines_of source_of
fresh dialect l m conditions calls source f s a n e c k =
    let all : lines_of l ≡ source_lines source = rw (f, s, a, n) refl in
    ap (λ (ls : List SourceLine). let r : Rest = record { dialect = dialect; lines = ls; again = None; macros = macros_of m; collecting = None; conditions = map condition_view conditions; calls = map call_view calls; made = 0; read = 0 } in r) all
    ∙ ap (λ (ms : List ℕ → Option Template). let r : Rest = record { dialect = dialect; lines = source_lines source; again = None; macros = ms; collecting = None; conditions = map condition_view conditions; calls = map call_view calls; made = 0; read = 0 } in r) (no_macros m e)
    ∙ ap (λ (cs : List code.OpenCondition). let r : Rest = record { dialect = dialect; lines = source_lines source; again = None; macros = λ name. None; collecting = None; conditions = map condition_view cs; calls = map call_view calls; made = 0; read = 0 } in r) c
    ∙ ap (λ (cs : List code_call.Call). let r : Rest = record { dialect = dialect; lines = source_lines source; again = None; macros = λ name. None; collecting = None; conditions = []; calls = map call_view cs; made = 0; read = 0 } in r) k
