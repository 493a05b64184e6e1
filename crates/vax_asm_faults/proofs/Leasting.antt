-- The first of faults is the least.
use Rattle.std.proofs.Common.{◌≡◌, ◌≤◌, ◌⊎◌, inl, inr, ℕ, Bool, true, false, cond, List, [], ◌∷◌, Option, Some, None, Ok, refl, sym, ap, subst, ◌∙◌, arith}
use Rattle.std.specs.Prelude.{◌&&◌, ◌||◌, slice_index_or, ◌==◌, All, if◌then◌else◌, nat_lt}
use Rattle.std.proofs.lemmas.Bool.{eqb-false, eqb-true, ltb-false, ltb-true}
use Rattle.std.proofs.lemmas.List.Elements.{All-cons, All-nil}
use Rattle.vax_asm.specs.Walk.{assembled}
use Rattle.vax_dialect.specs.declared.Dialect.{Dialect}
use Rattle.vax_asm_faults.proofs.Refusing.{refused_first}
use Rattle.vax_asm_faults.specs.Least.{HasFault, IsFaultless, IsLeast, IsUpTo}
use Rattle.vax_asm_faults.specs.Refusal.{Faults, earlier, faults_of, first_fault, first_line, module_behind, or_else}
use Rattle.vax_asm_faults.specs.Survey.{survey_of}
use Rattle.vax_asm_first.specs.Faults.{first_of}
use Rattle.vax_asm_second.specs.Faults.{earlier as earlier_whole, first, first_of as least}
use Rattle.vax_asm_second.specs.Modules.{unless_faulty}
use Rattle.vax_asm_second.specs.declared.types.Fault.{Fault}
use Rattle.vax_macro.specs.Fault.{code_of}
use Rattle.vax_module.specs.declared.Module.{Module}

-- it stands on the line of one of the two, and is of its kind
IsOf : Fault → Fault → Type 0
IsOf f g = (g.origin.place ≡ f.origin.place) × (g.kind ≡ f.kind)

-- the earlier of two
record IsEarlier (f g h : Fault) : Type 0 where
  first : IsUpTo h f
  second : IsUpTo h g
  one : IsOf h f ⊎ IsOf h g

lower_is : (t : Bool) (f g : Fault) → nat_lt (code_of g.kind) (code_of f.kind) ≡ t → f.origin.place ≡ g.origin.place → IsEarlier f g (record f { kind = cond t g.kind f.kind })
unfolding IsOf
lower_is true f g e same = let less = ltb-true (code_of g.kind) (code_of f.kind) e in record {
  first = (omega arith, λ p. omega arith);
  second = (omega arith, λ p. omega arith);
  one = inr (sym same, refl);
}
lower_is false f g e same = let more = ltb-false (code_of g.kind) (code_of f.kind) e in record {
  first = (omega arith, λ p. omega arith);
  second = (omega arith, λ p. more);
  one = inl (refl, refl);
}

same_line : (t : Bool) (f g : Fault) → (g.origin.place == f.origin.place) ≡ t → f.origin.place ≤ g.origin.place → IsEarlier f g (if t then record f { kind = first_of f.kind g.kind } else f)
unfolding IsOf
same_line true f g e le = lower_is (nat_lt (code_of g.kind) (code_of f.kind)) f g refl (sym (eqb-true g.origin.place f.origin.place e))
same_line false f g e le = record {
  first = (omega arith, λ p. omega arith);
  second = (le, λ p. absurd (eqb-false g.origin.place f.origin.place e p));
  one = inl (refl, refl);
}

earlier_by : (t : Bool) (f g : Fault) → nat_lt g.origin.place f.origin.place ≡ t
    → IsEarlier f g (if t then g else (if g.origin.place == f.origin.place then record f { kind = first_of f.kind g.kind } else f))
unfolding IsOf
earlier_by true f g e = let less = ltb-true g.origin.place f.origin.place e in record {
  first = (omega arith, λ p. absurd (omega arith));
  second = (omega arith, λ p. omega arith);
  one = inr (refl, refl);
}
earlier_by false f g e = same_line (g.origin.place == f.origin.place) f g refl (ltb-false g.origin.place f.origin.place e)

earlier_is : (f g : Fault) → IsEarlier f g (earlier f g)
earlier_is f g = earlier_by (nat_lt g.origin.place f.origin.place) f g refl

up_to : (f g h : Fault) → IsUpTo f g → IsUpTo g h → IsUpTo f h
up_to f g h a b = let one = a.0 in let two = b.0 in
    (omega (arith, one, two), λ p. let line : g.origin.place ≡ f.origin.place = omega (arith, one, two, p) in let x = a.1 line in let y = b.1 (omega (arith, line, p)) in omega (arith, x, y))

is_of : (f g h : Fault) → IsOf f g → IsOf g h → IsOf f h
unfolding IsOf
is_of f g h a b = (b.0 ∙ a.0, b.1 ∙ a.1)

record IsFirst (g : Fault) (faults : List Fault) (f : Fault) : Type 0 where
  one : IsOf f g ⊎ HasFault faults f
  here : IsUpTo f g
  rest : All (IsUpTo f) faults

first_among : (g : Fault) (faults : List Fault) (f : Fault) → first_line (Some g) faults ≡ Some f → IsFirst g faults f
unfolding IsOf
first_among g [] f e =
    let same : g ≡ f = cc in
    record {
      one = inl (ap (λ (x : Fault). x.origin.place) same, ap (λ (x : Fault). x.kind) same);
      here = subst (λ (x : Fault). IsUpTo x g) same (omega arith, λ p. omega arith);
      rest = All-nil (IsUpTo f);
    }
first_among g (h ∷ faults) f e =
    let n : Fault = earlier g h in
    let i : IsFirst n faults f = first_among n faults f e in
    let j : IsEarlier g h n = earlier_is g h in
    record {
      one = elim i.one [
        | inl same ↦ elim j.one [
          | inl first ↦ inl (is_of f n g same first)
          | inr second ↦ inr (inl (is_of f n h same second))
        ]
        | inr more ↦ inr (inr more)
      ];
      here = up_to f n g i.here j.first;
      rest = All-cons (IsUpTo f) h faults (up_to f n h i.here j.second) i.rest;
    }

pub first_is_least : (faults : List Fault) (f : Fault) → first_line None faults ≡ Some f → IsLeast faults f
unfolding IsOf
first_is_least [] f e = absurd cc
first_is_least (g ∷ faults) f e =
    let i : IsFirst g faults f = first_among g faults f e in
    record { one = i.one; least = All-cons (IsUpTo f) g faults i.here i.rest }

-- ---- no fault

some_first : (g : Fault) (faults : List Fault) → first_line (Some g) faults ≡ None → ⊥
some_first g [] e = cc
some_first g (h ∷ faults) e = some_first (earlier g h) faults e

none_first : (faults : List Fault) → first_line None faults ≡ None → faults ≡ []
none_first [] e = refl
none_first (g ∷ faults) e = absurd (some_first g faults e)

some_least : (g : Fault) (o : Option Fault) → first (Some g) o ≡ None → ⊥
some_least g None e = cc
some_least g (Some h) e = cc

none_least : (faults : List Fault) → least faults ≡ None → faults ≡ []
none_least [] e = refl
none_least (g ∷ faults) e = absurd (some_least g (least faults) e)

none_both : (a b : Option Fault) → or_else a b ≡ None → (a ≡ None) × (b ≡ None)
none_both None b e = (refl, e)
none_both (Some f) b e = absurd cc

unless_is : (o : Option Fault) (n m : Module) → unless_faulty o n ≡ Ok m → (o ≡ None) × (n ≡ m)
unless_is None n m e = (refl, cc)
unless_is (Some f) n m e = absurd cc

pub has_none : (dialect : Dialect) (source : List ℕ) (m : Module) → assembled dialect source ≡ Ok m → IsFaultless dialect source m
has_none dialect source m e =
    let f : Faults = faults_of dialect source in
    let u = unless_is (first_fault f) (module_behind (survey_of dialect source)) m (sym (refused_first dialect source) ∙ e) in
    let n = none_both (first_line None f.lines) (least f.whole) u.0 in
    record { lines = none_first f.lines n.0; whole = none_least f.whole n.1; is = u.1 }

pub assembles : (dialect : Dialect) (source : List ℕ) (m : Module) → IsFaultless dialect source m → assembled dialect source ≡ Ok m
assembles dialect source m h =
    let f : Faults = faults_of dialect source in
    let n : Module = module_behind (survey_of dialect source) in
    refused_first dialect source ∙ ap (λ (l : List Fault). unless_faulty (or_else (first_line None l) (least f.whole)) n) h.lines ∙ ap (λ (w : List Fault). unless_faulty (or_else None (least w)) n) h.whole ∙ ap (λ (x : Module). Ok x) h.is

-- ---- the first of those that the whole source decides

goes_before : (s t : Bool) (f g : Fault) → nat_lt g.origin.place f.origin.place ≡ s → (g.origin.place == f.origin.place && nat_lt (code_of g.kind) (code_of f.kind)) ≡ t → IsEarlier f g (if s || t then g else f)
unfolding IsOf
goes_before true t f g e h = let less = ltb-true g.origin.place f.origin.place e in record {
  first = (omega arith, λ p. absurd (omega arith));
  second = (omega arith, λ p. omega arith);
  one = inr (refl, refl);
}
goes_before false true f g e h =
    let b = both_true (g.origin.place == f.origin.place) (nat_lt (code_of g.kind) (code_of f.kind)) h in
    let same = eqb-true g.origin.place f.origin.place b.0 in
    let lower = ltb-true (code_of g.kind) (code_of f.kind) b.1 in
    record {
      first = (omega arith, λ p. omega arith);
      second = (omega arith, λ p. omega arith);
      one = inr (refl, refl);
    }
  where
    both_true : (a b : Bool) → (a && b) ≡ true → (a ≡ true) × (b ≡ true)
    both_true true true e = (refl, refl)
    both_true true false e = absurd cc
    both_true false b e = absurd cc
goes_before false false f g e h =
    let le = ltb-false g.origin.place f.origin.place e in
    record {
      first = (omega arith, λ p. omega arith);
      second = (le, λ p. not_lower (g.origin.place == f.origin.place) (nat_lt (code_of g.kind) (code_of f.kind)) refl refl h p);
      one = inl (refl, refl);
    }
  where
    not_lower : (a b : Bool) → (g.origin.place == f.origin.place) ≡ a → nat_lt (code_of g.kind) (code_of f.kind) ≡ b → (a && b) ≡ false → g.origin.place ≡ f.origin.place → code_of f.kind ≤ code_of g.kind
    not_lower true true i j k p = absurd cc
    not_lower true false i j k p = ltb-false (code_of g.kind) (code_of f.kind) j
    not_lower false b i j k p = absurd (eqb-false g.origin.place f.origin.place i p)

has_by : (faults : List Fault) (h f : Fault) → IsOf f h → HasFault faults h → HasFault faults f
unfolding IsOf
has_by [] h f same has = absurd has
has_by (g ∷ faults) h f same (inl here) = inl (here.0 ∙ same.0, here.1 ∙ same.1)
has_by (g ∷ faults) h f same (inr has) = inr (has_by faults h f same has)

whole_earlier : (f g : Fault) → IsEarlier f g (earlier_whole f g)
whole_earlier f g = goes_before (nat_lt g.origin.place f.origin.place) (g.origin.place == f.origin.place && nat_lt (code_of g.kind) (code_of f.kind)) f g refl refl

whole_more : (g : Fault) (faults : List Fault) (o : Option Fault) (f : Fault) → ((h : Fault) → least faults ≡ Some h → IsLeast faults h) → least faults ≡ o → first (Some g) o ≡ Some f → IsLeast (g ∷ faults) f
unfolding IsOf
whole_more g faults None f next found e =
    let same : g ≡ f = cc in
    let none : faults ≡ [] = none_least faults found in
    record {
      one = inl (ap (λ (x : Fault). x.origin.place) same, ap (λ (x : Fault). x.kind) same);
      least = subst (λ (l : List Fault). All (IsUpTo f) (g ∷ l)) (sym none) (All-cons (IsUpTo f) g [] (subst (λ (x : Fault). IsUpTo x g) same (omega arith, λ p. omega arith)) (All-nil (IsUpTo f)));
    }
whole_more g faults (Some h) f next found e =
    let i : IsLeast faults h = next h found in
    let same : earlier_whole g h ≡ f = cc in
    let j : IsEarlier g h f = subst (IsEarlier g h) same (whole_earlier g h) in
    record {
      one = elim j.one [
        | inl first ↦ inl first
        | inr second ↦ inr (has_by faults h f second i.one)
      ];
      least = All-cons (IsUpTo f) g faults j.first (λ k d less. up_to f h (slice_index_or faults k d) j.second (i.least k d less));
    }

pub whole_is_least : (faults : List Fault) (f : Fault) → least faults ≡ Some f → IsLeast faults f
whole_is_least [] f e = absurd cc
whole_is_least (g ∷ faults) f e = whole_more g faults (least faults) f (λ h found. whole_is_least faults h found) refl e
