-- No unit of a part of a match violates, where it leaves something.
use Rattle.std.proofs.Common.{◌≡◌, ℕ, suc, zero, ◌+◌, ◌/◌, ◌<◌, Bool, true, false, if◌then◌else◌, ◌==◌, nat_lt, List, length, refl, sym, ap, ◌∙◌, inl, inr, arith}
use Rattle.std.proofs.lemmas.Bool.{cases_lt}
use Rattle.vax_space.specs.declared.Access.TheVariants.{Read}
use Rattle.vax_space.specs.declared.Area.{Area}
use Rattle.vax_strpart.specs.declared.packing.Progress.{Progress}
use Rattle.vax_strpart.specs.declared.packing.Layout.TheVariants.{Compares}
use Rattle.vax_strpart.specs.Packing.{layout_of, IsProper}
use Rattle.vax_flat.specs.declared.Flow.{Flow}
use Rattle.vax_flat.specs.Memory.{byte_at, number}
use Rattle.vax_flat.specs.State.{State, mode}
use Rattle.vax_flat.specs.Accesses.{Accesses, Leaf}
use Rattle.vax_flat.specs.Outcome.{outcome_of}
use Rattle.vax_flat.specs.Operand.{plus}
use Rattle.vax_flat.specs.Bound.{LeavesNoPart}
use Rattle.vax_flat.specs.String.{completed, leaves}
use Rattle.vax_flat.specs.StringAgree.{IsBehind}
use Rattle.vax_flat.specs.StringMatch.{matched, unmatched, at_next_place, match_unit, is_near, match_on, match_part}
use Rattle.vax_flat.proofs.Memory.{allowed_first}
use Rattle.vax_flat.proofs.StringSearch.{number_one}
use Rattle.vax_flat_units.specs.Violations.{match_next, match_later, next_violates, match_violates}
use Rattle.vax_flat_units.proofs.Comparing.{unused_compares, done_proper}
use Rattle.vax_flat_units.proofs.Reaching.{Clear, not_barred, none_clear, if_clear, byte_clear, left_clear}
use Rattle.vax_flat_units.proofs.Allowing.{neither}

module _ (byte : ℕ → ℕ) where
  later_next : (n : ℕ) (p : Progress) → match_later byte (suc n) p ≡ match_next byte (match_later byte n p)
  unfolding match_later
  later_next zero p = refl
  later_next (suc n) p = later_next n (match_next byte p)

  later_more : (n i : ℕ) (p : Progress) → match_later byte i (match_later byte n p) ≡ match_later byte (n + i) p
  unfolding match_later
  later_more zero i p = let e : 0 + i ≡ i = omega arith in ap (λ k. match_later byte k p) (sym e)
  later_more (suc n) i p =
      let e : suc n + i ≡ suc (n + i) = omega arith in
      later_more n i (match_next byte p) ∙ ap (λ k. match_later byte k p) (sym e)

  later_none : (p : Progress) → match_later byte 0 p ≡ p
  unfolding match_later
  later_none p = refl

module _ (op : ℕ) (start : Progress) (s : State) (m : List Area) (next : Flow → State → Accesses Leaf) (behind : IsBehind next) (full : length s.core.regs ≡ 16) (layout : layout_of op ≡ Compares) where
  abbrev bad : Progress → ℕ → Bool
  bad q = match_violates q (mode s) m

  abbrev byte : ℕ → ℕ
  byte = byte_at m

  abbrev Good : Accesses Leaf → Type 0
  Good tree = Clear bad op (bad start) s m tree

  -- so many units are made, and none of them violates
  pub record IsAlong (made : ℕ) (p : Progress) : Type 0 where
    pub same : p.op ≡ op
    pub proper : IsProper p
    pub here : p ≡ match_later byte made start
    pub clear : (i : ℕ) → i < made → bad start i ≡ false

  done_matched : (p : Progress) → LeavesNoPart (outcome_of (matched p s next) m)
  unfolding matched completed
  done_matched p = behind.done _ m

  done_unmatched : (p : Progress) → LeavesNoPart (outcome_of (unmatched p s next) m)
  unfolding unmatched completed
  done_unmatched p = behind.done _ m

  ended : (made : ℕ) (p : Progress) → IsAlong made p → Good (leaves p made s next)
  ended made p is =
      left_clear bad op (bad start) s m next behind full p made is.same is.proper
      (record { clear = is.clear; shift = λ i. ap (next_violates (mode s) m) (ap (match_later byte i) is.here ∙ later_more byte made i start) })

  or_ends : (made : ℕ) (p : Progress) (t : Accesses Leaf) → IsAlong made p → Good t → Good (if nat_lt p.len2 p.len1 then unmatched p s next else if p.done == p.len1 then matched p s next else t)
  or_ends made p t is g =
      if_clear bad op (bad start) s m (nat_lt p.len2 p.len1) _ _ (λ none. none_clear bad op (bad start) s m _ (done_unmatched p))
      (λ long. if_clear bad op (bad start) s m (p.done == p.len1) _ _ (λ all. none_clear bad op (bad start) s m _ (done_matched p)) (λ part. g))

  one_clear : (made : ℕ) (p : Progress) → IsAlong made p → next_violates (mode s) m p ≡ false → (i : ℕ) → i < made + 1 → bad start i ≡ false
  one_clear made p is free i h = elim (cases_lt i made) [
    | inl l ↦ is.clear i l
    | inr g ↦ let e : i ≡ made = omega arith in ap (bad start) e ∙ (ap (next_violates (mode s) m) (sym is.here) ∙ free)
  ]

  later_here : (made : ℕ) (p : Progress) → IsAlong made p → match_next byte p ≡ match_later byte (made + 1) start
  later_here made p is =
      let e : suc made ≡ made + 1 = omega arith in
      ap (match_next byte) is.here ∙ (sym (later_next byte made start) ∙ ap (λ k. match_later byte k start) e)

  more_made : (made : ℕ) (p : Progress) → IsAlong made p → next_violates (mode s) m p ≡ false → (byte (plus p.addr1 p.done) == byte (plus p.addr2 p.done)) ≡ true → IsAlong (made + 1) (record p { done = p.done + 1 })
  more_made made p is free e = record {
    same = is.same;
    proper = done_proper p (p.done + 1) (ap layout_of is.same ∙ layout) is.proper;
    here = (let n : match_next byte p ≡ record p { done = p.done + 1 } = rw e refl in sym n ∙ later_here made p is);
    clear = one_clear made p is free;
  }

  next_made : (made : ℕ) (p : Progress) → IsAlong made p → next_violates (mode s) m p ≡ false → (byte (plus p.addr1 p.done) == byte (plus p.addr2 p.done)) ≡ false → IsAlong (made + 1) (at_next_place p)
  next_made made p is free e = record {
    same = is.same;
    proper = record { len1 = is.proper.len1; byte = is.proper.byte; len2 = (let l = is.proper.len2 in omega arith); unused = unused_compares (layout_of p.op) p (at_next_place p) (ap layout_of is.same ∙ layout) refl is.proper.unused };
    here = (let n : match_next byte p ≡ at_next_place p = rw e refl in sym n ∙ later_here made p is);
    clear = one_clear made p is free;
  }

  unit_good : (made : ℕ) (p : Progress) (k : Progress → State → Accesses Leaf) → IsAlong made p → ((q : Progress) → IsAlong (made + 1) q → Good (k q s)) → Good (match_unit p s k)
  unfolding match_unit
  unit_good made p k is g =
      let e1 = number_one byte (plus p.addr1 p.done) in
      let e2 = number_one byte (plus p.addr2 p.done) in
      let same : (number byte (plus p.addr1 p.done) 1 == number byte (plus p.addr2 p.done) 1) ≡ (byte (plus p.addr1 p.done) == byte (plus p.addr2 p.done)) = rw (e1, e2) refl in
      byte_clear bad op (bad start) s m _ _ (λ x. byte_clear bad op (bad start) s m _ _ (λ y.
      let free : next_violates (mode s) m p ≡ false = neither _ _ (not_barred m (mode s) _ (allowed_first m (plus p.addr1 p.done) 0 (mode s) Read x).0) (not_barred m (mode s) _ (allowed_first m (plus p.addr2 p.done) 0 (mode s) Read y).0) in
      if_clear bad op (bad start) s m (number byte (plus p.addr1 p.done) 1 == number byte (plus p.addr2 p.done) 1) _ _
      (λ yes'. g (record p { done = p.done + 1 }) (more_made made p is free (sym same ∙ yes')))
      (λ no'. g (at_next_place p) (next_made made p is free (sym same ∙ no')))))

  pub on_good : (count made first second : ℕ) (p : Progress) → IsAlong made p → Good (match_on count made first second p s next)
  unfolding match_on
  on_good zero made first second p is = or_ends made p _ is (ended made p is)
  on_good (suc count) made first second p is =
      or_ends made p _ is (if_clear bad op (bad start) s m (is_near first second p) _ _
      (λ near. unit_good made p _ is (λ q after. on_good count (made + 1) first second q after))
      (λ far. ended made p is))

-- MATCHC
pub match_clear : (p : Progress) (s : State) (m : List Area) (next : Flow → State → Accesses Leaf) → IsBehind next → length s.core.regs ≡ 16 → IsProper p → layout_of p.op ≡ Compares → Clear (λ q. match_violates q (mode s) m) p.op (match_violates p (mode s) m) s m (match_part p s next)
unfolding match_part
match_clear p s m next behind full proper layout =
    on_good p.op p s m next behind full layout 512 0 (plus p.addr1 p.done / 512) (plus p.addr2 p.done / 512) p
    (record { same = refl; proper = proper; here = sym (later_none (byte_at m) p); clear = λ i h. absurd (omega arith) })
