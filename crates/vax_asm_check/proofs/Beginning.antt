-- The first fault that is told and the one that a source is refused for.
use Rattle.std.proofs.Common.{◌≡◌, ◌≤◌, inl, inr, ℕ, suc, Bool, true, false, List, [], ◌∷◌, ◌++◌, Option, Some, None, Result, Err, refl, sym, ap, subst, ◌∙◌, arith}
use Rattle.std.proofs.lemmas.List.Elements.{recursion_from_All}
use Rattle.std.specs.Prelude.{◌==◌, if◌then◌else◌}
use Rattle.std.proofs.lemmas.Bool.{le-ltb}
use Rattle.vax_asm.specs.Walk.{assembled, nothing}
use Rattle.vax_asm_check.proofs.Ascending.{survey_ascends}
use Rattle.vax_asm_check.proofs.Ranking.{begins_least}
use Rattle.vax_asm_check.specs.Listed.{AreAll, Ascend, BeginAt, StandsBefore, StandsBeforeAll}
use Rattle.vax_asm_faults.proofs.Leasting.{first_is_least}
use Rattle.vax_asm_faults.proofs.Ordering.{earlier_less}
use Rattle.vax_asm_faults.proofs.Refusing.{refused_first}
use Rattle.vax_asm_faults.specs.Least.{IsUpTo}
use Rattle.vax_asm_faults.specs.Refusal.{Faults, earlier, faults_of, first_fault, first_line, module_behind, or_else}
use Rattle.vax_asm_faults.specs.Survey.{survey_of}
use Rattle.vax_asm_first.specs.Faults.{first_of as lower_kind}
use Rattle.vax_asm_first.specs.declared.types.Origin.{Origin}
use Rattle.vax_asm_second.specs.Faults.{first_of as least}
use Rattle.vax_asm_second.specs.Modules.{unless_faulty}
use Rattle.vax_asm_second.specs.declared.types.Fault.{Fault}
use Rattle.vax_dialect.specs.declared.Dialect.{Dialect}
use Rattle.vax_macro.specs.Fault.{code_of}
use Rattle.vax_macro.specs.Rest.{started, work}
use Rattle.vax_module.specs.declared.Module.{Module}

pub lines_ascend : (dialect : Dialect) (source : List ℕ) → Ascend (faults_of dialect source).lines
lines_ascend dialect source = survey_ascends (suc (work (started dialect source))) (started dialect source) (nothing dialect) None

-- ---- the lines'

-- what comes behind changes its kind at most
earlier_origin : (f g : Fault) → StandsBefore f g → (earlier f g).origin ≡ f.origin
earlier_origin f g (inl less) = ap (λ (h : Fault). h.origin) (earlier_less f g less)
earlier_origin f g (inr same) =
    let le = ap (λ (o : Origin). o.place) same in
    ap (λ b. (let h : Fault = if b then g else (if g.origin.place == f.origin.place then record f { kind = lower_kind f.kind g.kind } else f) in h).origin) (le-ltb g.origin.place f.origin.place (omega (arith, le)))
    ∙ kept (g.origin.place == f.origin.place) f g
  where
    kept : (b : Bool) (f g : Fault) → (let h : Fault = if b then record f { kind = lower_kind f.kind g.kind } else f in h).origin ≡ f.origin
    kept true f g = refl
    kept false f g = refl

-- the same faults stand behind one of its line
before_moved : (f g : Fault) (faults : List Fault) → g.origin ≡ f.origin → StandsBeforeAll f faults → StandsBeforeAll g faults
before_moved f g [] e h = tt
before_moved f g (k ∷ faults) e h = (moved h.0, before_moved f g faults e h.1)
  where
    moved : StandsBefore f k → StandsBefore g k
    moved (inl less) = let same = ap (λ (o : Origin). o.place) e in inl (omega (arith, same, less))
    moved (inr same) = inr (e ∙ same)

first_some : (f : Fault) (faults : List Fault) → StandsBeforeAll f faults → (g : Fault) × (first_line (Some f) faults ≡ Some g) × (g.origin ≡ f.origin)
first_some f [] h = (f, refl, refl)
first_some f (k ∷ faults) h =
    let e = earlier_origin f k h.0 in
    let n = first_some (earlier f k) faults (before_moved f (earlier f k) faults e h.1) in
    (n.0, n.1, n.2 ∙ e)

abbrev unless_none : Option Fault → Module → Result Module Fault
unless_none o m = unless_faulty o m

-- a list of lines' faults that begins so
lines_begin : (h : Fault) (more : List Fault) (other : Option Fault) (m : Module) (f : Fault) → Ascend (h ∷ more) → unless_faulty (or_else (first_line None (h ∷ more)) other) m ≡ Err f → (h.origin ≡ f.origin) × (code_of f.kind ≤ code_of h.kind)
lines_begin h more other m f up e =
    let n = first_some h more up.0 in
    let is : Err n.0 ≡ Err f = ap (λ (o : Option Fault). unless_none (or_else o other) m) (sym n.1) ∙ e in
    let same : n.0 ≡ f = cc in
    let low = recursion_from_All (IsUpTo n.0) (h ∷ more) (first_is_least (h ∷ more) n.0 n.1).least in
    let place = ap (λ (o : Origin). o.place) n.2 in
    let kind : code_of n.0.kind ≤ code_of h.kind = low.0.1 (sym place) in
    (sym n.2 ∙ ap (λ (g : Fault). g.origin) same, subst (λ (g : Fault). code_of g.kind ≤ code_of h.kind) same kind)

-- ---- all

refused_by : (o : Option Fault) (m : Module) (f : Fault) → unless_faulty o m ≡ Err f → o ≡ Some f
refused_by None m f e = absurd cc
refused_by (Some g) m f e = let same : g ≡ f = cc in ap Some same

all_begin : (lines whole told : List Fault) (all : Faults) (m : Module) (f : Fault) → all.lines ≡ lines → Ascend lines → AreAll told all → unless_faulty (first_fault all) m ≡ Err f → BeginAt f told
all_begin [] whole told all m f is up a e =
    let least_is : least all.whole ≡ Some f = refused_by (least all.whole) m f (ap (λ (l : List Fault). unless_none (or_else (first_line None l) (least all.whole)) m) (sym is) ∙ e) in
    let b = begins_least all.whole a.whole f a.order least_is in
    record { first = f; more = b.0; is = a.joined ∙ ap (λ (l : List Fault). l ++ a.whole) is ∙ b.1; origin = refl; kind = omega arith }
all_begin (h ∷ more) whole told all m f is up a e =
    let b = lines_begin h more (least all.whole) m f up (ap (λ (l : List Fault). unless_none (or_else (first_line None l) (least all.whole)) m) (sym is) ∙ e) in
    record { first = h; more = more ++ a.whole; is = a.joined ∙ ap (λ (l : List Fault). l ++ a.whole) is; origin = b.0; kind = b.1 }

pub begin_refused : (dialect : Dialect) (source : List ℕ) (told : List Fault) (f : Fault) → AreAll told (faults_of dialect source) → assembled dialect source ≡ Err f → BeginAt f told
begin_refused dialect source told f a e =
    let all = faults_of dialect source in
    all_begin all.lines all.whole told all (module_behind (survey_of dialect source)) f refl (lines_ascend dialect source) a (sym (refused_first dialect source) ∙ e)
