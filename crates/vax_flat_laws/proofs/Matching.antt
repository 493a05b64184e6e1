-- A part of a match is as long as the rule of parts lets it be.
use Rattle.std.proofs.Common.{◌≡◌, ◌⊎◌, ℕ, suc, zero, ◌+◌, ◌<◌, ◌≤◌, ◌==◌, Bool, true, false, Option, Some, None, List, [], ◌∷◌, refl, sym, subst, ◌∙◌, arith, inl, inr}
use Rattle.std.specs.Prelude.{if◌then◌else◌, nat_lt, ◌||◌}
use Rattle.std.proofs.lemmas.Bool.{cases_Bool, cases_eq, eq-eqb, eqb-true, true≢false, and_parts, or_cases}
use Rattle.vax_space.specs.declared.Access.TheVariants.{Read}
use Rattle.vax_space.specs.declared.Area.{Area}
use Rattle.vax_space.specs.declared.Violation.{Violation}
use Rattle.vax_space.specs.Reference.{violation, page_of}
use Rattle.vax_strpart.specs.declared.packing.Progress.{Progress}
use Rattle.vax_flat.specs.Memory.{byte_at}
use Rattle.vax_flat.specs.State.{State, mode}
use Rattle.vax_flat.specs.Accesses.{Accesses, Leaf}
use Rattle.vax_flat.specs.Outcome.{Outcome, outcome_of, unless_violated}
use Rattle.vax_flat.specs.Operand.{plus, read_at}
use Rattle.vax_flat.specs.Step.{leaf}
use Rattle.vax_flat.specs.String.{suspended, leaves, completed}
use Rattle.vax_flat.specs.StringMatch.{matched, unmatched, is_near, match_unit, match_on, match_part}
use Rattle.vax_flat.proofs.StringSearch.{number_one}
use Rattle.vax_flat_laws.specs.Maximal.{AreAmong, IfLeft, LeavesPart, never, after_unit, after_units, match_needs}

module _ (p : Progress) (s : State) (m : List Area) where
  abbrev P : ℕ → State → Type 0
  P = LeavesPart (match_needs p m) never (λ made. suspended (after_units p m made) s)

  abbrev S : Accesses Leaf → Type 0
  S tree = IfLeft P (outcome_of tree m)

  s_violated : (v : Option Violation) (outcome : Outcome Leaf) → IfLeft P outcome → IfLeft P (unless_violated v outcome)
  s_violated (Some v) outcome q = tt
  s_violated None outcome q = q

  s_by : (b : Bool) (x y : Accesses Leaf) → (b ≡ true → S x) → (b ≡ false → S y) → S (if b then x else y)
  s_by true x y qx qy = qx refl
  s_by false x y qx qy = qy refl

  s_matched : (q : Progress) → S (matched q s leaf)
  unfolding matched completed outcome_of
  s_matched q = tt

  s_unmatched : (q : Progress) → S (unmatched q s leaf)
  unfolding unmatched completed outcome_of
  s_unmatched q = tt

  s_left : (q : Progress) (made : ℕ) → P made (suspended q s) → S (leaves q made s leaf)
  unfolding leaves outcome_of
  s_left q made h = h

  s_read : (addr : ℕ) (next : ℕ → State → Accesses Leaf) → S (next (byte_at m addr) s) → S (read_at addr 1 s next)
  unfolding read_at outcome_of
  s_read addr next q = s_violated (violation m addr 1 (mode s) Read) _ (subst (λ x. S (next x s)) (sym (number_one (byte_at m) addr)) q)

  s_unit : (q : Progress) (next : Progress → State → Accesses Leaf) → S (next (after_unit q m) s) → S (match_unit q s next)
  unfolding match_unit
  s_unit q next h =
      s_read _ _ (s_read _ _
      (s_by (byte_at m (plus q.addr1 q.done) == byte_at m (plus q.addr2 q.done)) _ _
      (λ e. subst (λ r. S (next r s)) (rw e refl) h)
      (λ e. subst (λ r. S (next r s)) (rw e refl) h)))

  abbrev first : ℕ
  first = page_of (plus p.addr1 p.done)

  abbrev second : ℕ
  second = page_of (plus p.addr2 p.done)

  one_of : (page : ℕ) → (page == first || page == second) ≡ true → (page ≡ first) ⊎ ((page ≡ second) ⊎ ⊥)
  one_of page h = elim (or_cases (page == first) (page == second) h) [ inl a ↦ inl (eqb-true page first a) | inr b ↦ inr (inl (eqb-true page second b)) ]

  among_of : (page : ℕ) → (page ≡ first) ⊎ ((page ≡ second) ⊎ ⊥) → (page == first || page == second) ≡ true
  among_of page (inl e) = rw (eq-eqb page first e) refl
  among_of page (inr (inl e)) = elim (cases_Bool (page == first)) [ inl a ↦ rw a refl | inr b ↦ rw (b, eq-eqb page second e) refl ]
  among_of page (inr (inr bad)) = absurd bad

  near_is : (q : Progress) → is_near first second q ≡ true → AreAmong (page_of (plus q.addr1 q.done) ∷ page_of (plus q.addr2 q.done) ∷ []) (first ∷ second ∷ [])
  near_is q h =
      let both = and_parts _ _ h in
      (one_of (page_of (plus q.addr1 q.done)) both.0, (one_of (page_of (plus q.addr2 q.done)) both.1, tt))

  is_near_of : (q : Progress) → AreAmong (page_of (plus q.addr1 q.done) ∷ page_of (plus q.addr2 q.done) ∷ []) (first ∷ second ∷ []) → is_near first second q ≡ true
  is_near_of q a = rw (among_of (page_of (plus q.addr1 q.done)) a.0, among_of (page_of (plus q.addr2 q.done)) a.1.0) refl

  first_near : is_near first second p ≡ true
  first_near = is_near_of p (inl refl, (inr (inl refl), tt))

  abbrev AreNear : ℕ → Type 0
  AreNear units = (j : ℕ) → j < units → AreAmong (match_needs p m j) (match_needs p m 0)

  one_more : (units : ℕ) → AreNear units → is_near first second (after_units p m units) ≡ true → AreNear (suc units)
  one_more units before here j h =
      elim (cases_eq j units) [
        | inl e ↦ subst (λ k. AreAmong (match_needs p m k) (match_needs p m 0)) (sym e) (near_is (after_units p m units) here)
        | inr other ↦ before j (omega arith)
      ]

  some_units : (units : ℕ) → is_near first second (after_units p m units) ≡ false → 1 ≤ units
  some_units zero far = absurd (true≢false (sym first_near ∙ far))
  some_units (suc units) far = omega arith

  s_on : (more units : ℕ) → more + units ≡ 512 → AreNear units → S (match_on more units first second (after_units p m units) s leaf)
  unfolding match_on
  s_on zero units all near =
      let q = after_units p m units in
      s_by (nat_lt q.len2 q.len1) _ _ (λ short. s_unmatched q)
      (λ room. s_by (q.done == q.len1) _ _ (λ found. s_matched q)
      (λ open_yet. s_left q units (record {
        some = omega arith;
        maximal = record { few = omega arith; near = near; full = inl (omega arith) };
        state = refl;
      })))
  s_on (suc more) units all near =
      let q = after_units p m units in
      s_by (nat_lt q.len2 q.len1) _ _ (λ short. s_unmatched q)
      (λ room. s_by (q.done == q.len1) _ _ (λ found. s_matched q)
      (λ open_yet. s_by (is_near first second q) _ _
      (λ here.
      let e : units + 1 ≡ suc units = omega arith in
      s_unit q _ (subst (λ k. S (match_on more k first second (after_unit q m) s leaf)) (sym e) (s_on more (suc units) (omega arith) (one_more units near here))))
      (λ far. s_left q units (record {
        some = some_units units far;
        maximal = record { few = omega arith; near = near; full = inr (inr (λ among. true≢false (sym (is_near_of q among) ∙ far))) };
        state = refl;
      }))))

  pub match_left : S (match_part p s leaf)
  unfolding match_part
  match_left = s_on 512 0 refl (λ j h. absurd (omega arith))
