-- The first step that makes its definition come back to itself.
use Rattle.std.proofs.Common.{◌≡◌, ◌<◌, ◌+◌, ℕ, zero, suc, Bool, true, false, List, [], ◌∷◌, ◌++◌, length, take, drop, get_or, Option, Some, None, refl, ap, sym, ◌∙◌, subst, arith, append_assoc, add-one, drop-cons, ⊎_elim, ◌≤◌}
use Rattle.std.proofs.lemmas.Bool.{or_cases, or_left, or_right, false≢true, false_from_ne_true}
use Rattle.std.proofs.lemmas.List.{take-append-drop, append-nil, length-take-le, drop_all}
use Rattle.std.proofs.Math.Seq.{take-suc}
use Rattle.std.specs.Prelude.{◌==◌, if◌then◌else◌}
use Rattle.std.specs.List.{list_any}
use Rattle.vax_asm_circles.specs.Circles.{Step, among, waits, size, leads, comes_back, first_back, circle}
use Rattle.vax_asm_circles.specs.Heights.{NoneBack}
use Rattle.vax_asm_circles.proofs.Leading.{any_found, any_at}

-- what fewer steps say holds by more of them

choice_more : (b : Bool) (k : ℕ) (xs ys zs : List ℕ) → (among k ys ≡ true → among k zs ≡ true) → among k (if b then xs else ys) ≡ true → among k (if b then xs else zs) ≡ true
choice_more true k xs ys zs more e = e
choice_more false k xs ys zs more e = more e

waits_more : (steps more : List Step) (i k : ℕ) → among k (waits steps i) ≡ true → among k (waits (steps ++ more) i) ≡ true
unfolding waits
waits_more [] more i k e = absurd (false≢true e)
waits_more (s ∷ steps) more i k e = choice_more (s.from == i) k s.to (waits steps i) (waits (steps ++ more) i) (waits_more steps more i k) e

leads_more : (w v : ℕ → List ℕ) → ((i k : ℕ) → among k (w i) ≡ true → among k (v i) ≡ true) → (n k i : ℕ) → leads n w k i ≡ true → leads n v k i ≡ true
unfolding leads
leads_more w v more zero k i e = e
leads_more w v more (suc n) k i e =
    ⊎_elim
    (λ here. or_left (among k (v i)) (list_any (leads n v k) (v i)) (more i k here))
    (λ on. let f = any_found (leads n w k) (w i) on in or_right (among k (v i)) (list_any (leads n v k) (v i)) (any_at (leads n v k) f.0 (v i) (more i f.0 f.1) (leads_more w v more n k f.0 f.2)))
    (or_cases (among k (w i)) (list_any (leads n w k) (w i)) e)

pub none_before : (steps more : List Step) → NoneBack (steps ++ more) → NoneBack steps
none_before steps more none n i e = none n i (leads_more (waits steps) (waits (steps ++ more)) (waits_more steps more) n i i e)

pub not_back : (steps : List Step) (i : ℕ) → NoneBack steps → comes_back steps i ≡ false
not_back steps i none = false_from_ne_true (comes_back steps i) (none (size steps) i)

pub none_at_all : NoneBack []
unfolding leads waits
none_at_all zero i e = false≢true e
none_at_all (suc n) i e = false≢true e

-- so the first is told by those behind

pub told_not : (b : Bool) (x y : Option ℕ) → b ≡ false → (if b then x else y) ≡ y
told_not true x y e = absurd (false≢true (sym e))
told_not false x y e = refl

first_behind : (before more rest : List Step) → NoneBack (before ++ more) → first_back before (more ++ rest) ≡ first_back (before ++ more) rest
unfolding first_back
first_behind before [] rest none = ap (λ l. first_back l rest) (sym (append-nil before))
first_behind before (s ∷ more) rest none =
    let P : List Step → Type 0 = λ l. NoneBack l in
    let same : (before ++ s ∷ []) ++ more ≡ before ++ s ∷ more = append_assoc before (s ∷ []) more in
    let on : NoneBack ((before ++ s ∷ []) ++ more) = subst P (sym same) none in
    told_not (comes_back (before ++ s ∷ []) s.from) (Some (length before)) (first_back (before ++ s ∷ []) (more ++ rest)) (not_back (before ++ s ∷ []) s.from (none_before (before ++ s ∷ []) more on))
    ∙ first_behind (before ++ s ∷ []) more rest on
    ∙ ap (λ l. first_back l rest) same

pub circle_behind : (steps : List Step) (n : ℕ) → NoneBack (take n steps) → circle steps ≡ first_back (take n steps) (drop n steps)
circle_behind steps n none = ap (first_back []) (sym (take-append-drop n steps)) ∙ first_behind [] (take n steps) (drop n steps) none

-- one step

pub back_told : (steps : List Step) (at : ℕ) (d : Step) (b : Bool) → at < length steps → b ≡ comes_back (take (at + 1) steps) (get_or steps at d).from
    → first_back (take at steps) (drop at steps) ≡ (if b then Some at else first_back (take (at + 1) steps) (drop (at + 1) steps))
unfolding first_back
back_told steps at d b h e =
    let behind : drop at steps ≡ get_or steps at d ∷ drop (suc at) steps = drop-cons steps at d h in
    let taken : take (suc at) steps ≡ take at steps ++ get_or steps at d ∷ [] = take-suc steps at d h in
    let long : length (take at steps) ≡ at = length-take-le at steps (omega (arith, h)) in
    rw (e, behind, add-one, taken, long) refl

pub told_so : (b : Bool) (x y : Option ℕ) → b ≡ true → (if b then x else y) ≡ x
told_so true x y e = refl
told_so false x y e = absurd (false≢true e)

pub none_told : (before steps : List Step) (at : ℕ) → length steps ≤ at → first_back before (drop at steps) ≡ None
unfolding first_back
none_told before steps at h = ap (first_back before) (drop_all at steps h)
