-- A part of a match counts right.
use Rattle.std.proofs.Common.{◌≡◌, ℕ, suc, zero, ◌+◌, ◌-◌, ◌/◌, ◌<◌, ◌≤◌, Bool, true, false, ◌||◌, if◌then◌else◌, ◌==◌, nat_lt, List, length, refl, sym, ap, ◌∙◌, inl, inr, arith}
use Rattle.std.proofs.lemmas.Bool.{cases_Bool, cases_lt, eq-eqb}
use Rattle.std.proofs.lemmas.Bool.Decides.{nat_tests}
use Rattle.vax_space.specs.declared.Area.{Area}
use Rattle.vax_strpart.specs.declared.packing.Progress.{Progress}
use Rattle.vax_strpart.specs.declared.packing.Layout.TheVariants.{Compares}
use Rattle.vax_strpart.specs.Packing.{layout_of, IsProper}
use Rattle.vax_flat.specs.declared.Flow.{Flow}
use Rattle.vax_flat.specs.Memory.{after, byte_at, number}
use Rattle.vax_flat.specs.State.{State}
use Rattle.vax_flat.specs.Accesses.{Accesses, Leaf}
use Rattle.vax_flat.specs.Outcome.{outcome_of}
use Rattle.vax_flat.specs.Operand.{plus}
use Rattle.vax_flat.specs.Bound.{LeavesNoPart}
use Rattle.vax_flat.specs.String.{completed, leaves}
use Rattle.vax_flat.specs.StringAgree.{IsBehind}
use Rattle.vax_flat.specs.StringMatch.{matched, unmatched, at_next_place, places_of, match_unit, is_near, match_on, match_part}
use Rattle.vax_flat.proofs.StringSearch.{number_one}
use Rattle.vax_flat_units.specs.Units.{place_units, stands_at, places_units, match_units}
use Rattle.vax_flat_units.proofs.Counting.{Right, none_right, if_right, byte_right, left_right}
use Rattle.vax_flat_units.proofs.Comparing.{unused_compares, done_proper}

places_are : (p : Progress) → p.len1 ≤ p.len2 → places_of p ≡ suc (p.len2 - p.len1)
unfolding places_of
places_are p h = let f : nat_lt p.len2 p.len1 ≡ false = grind (arith, nat_tests) in rw f (omega arith)

next_places : (p : Progress) → p.len1 ≤ p.len2 → 0 < p.len1 → places_of (at_next_place p) ≡ p.len2 - p.len1
unfolding places_of
next_places p h some = elim (cases_lt (p.len2 - 1) p.len1) [
  | inl l ↦ let t : nat_lt (p.len2 - 1) p.len1 ≡ true = grind (arith, nat_tests) in rw t (omega arith)
  | inr g ↦ let f : nat_lt (p.len2 - 1) p.len1 ≡ false = grind (arith, nat_tests) in rw f (omega arith)
]

abbrev more_of : Progress → Progress
more_of p = record p { done = p.done + 1 }

-- of one unit and those behind it
module _ (m : List Area) where
  abbrev byte : ℕ → ℕ
  byte = byte_at m

  at_first : (places : ℕ) (p : Progress) → places_units byte (suc places) p ≡ place_units byte (p.len1 - p.done) (plus p.addr1 p.done) (plus p.addr2 p.done) + (if stands_at byte (p.len1 - p.done) (plus p.addr1 p.done) (plus p.addr2 p.done) then 0 else places_units byte places (at_next_place p))
  unfolding places_units
  at_first places p = refl

  more_agree : (count a b : ℕ) → (byte a == byte b) ≡ true → (place_units byte (suc count) a b ≡ suc (place_units byte count (after a) (after b))) × (stands_at byte (suc count) a b ≡ stands_at byte count (after a) (after b))
  unfolding place_units stands_at
  more_agree count a b is = (rw is refl, rw is refl)

  one_differs : (count a b : ℕ) → (byte a == byte b) ≡ false → (place_units byte (suc count) a b ≡ 1) × (stands_at byte (suc count) a b ≡ false)
  unfolding place_units stands_at
  one_differs count a b is = (rw is refl, rw is refl)

  -- the unit's bytes agree
  agree : (p : Progress) → p.len1 ≤ p.len2 → p.done < p.len1 → (byte (plus p.addr1 p.done) == byte (plus p.addr2 p.done)) ≡ true → match_units p m ≡ suc (match_units (more_of p) m)
  unfolding match_units
  agree p h more is =
      let places = p.len2 - p.len1 in
      let count = p.len1 - (p.done + 1) in
      let c : p.len1 - p.done ≡ suc count = omega arith in
      let a1 : after (plus p.addr1 p.done) ≡ plus p.addr1 (p.done + 1) = omega arith in
      let a2 : after (plus p.addr2 p.done) ≡ plus p.addr2 (p.done + 1) = omega arith in
      let e = more_agree count (plus p.addr1 p.done) (plus p.addr2 p.done) is in
      let rest = places_units byte places (at_next_place p) in
      let later : places_units byte (places_of (more_of p)) (more_of p) ≡ place_units byte count (plus p.addr1 (p.done + 1)) (plus p.addr2 (p.done + 1)) + (if stands_at byte count (plus p.addr1 (p.done + 1)) (plus p.addr2 (p.done + 1)) then 0 else rest) =
      ap (λ n. places_units byte n (more_of p)) (places_are (more_of p) h) ∙ at_first places (more_of p) in
      let here : places_units byte (places_of p) p ≡ place_units byte (p.len1 - p.done) (plus p.addr1 p.done) (plus p.addr2 p.done) + (if stands_at byte (p.len1 - p.done) (plus p.addr1 p.done) (plus p.addr2 p.done) then 0 else rest) =
      ap (λ n. places_units byte n p) (places_are p h) ∙ at_first places p in
      here
      ∙ (ap (λ n. place_units byte n (plus p.addr1 p.done) (plus p.addr2 p.done) + (if stands_at byte n (plus p.addr1 p.done) (plus p.addr2 p.done) then 0 else rest)) c
      ∙ (ap (λ n. n + (if stands_at byte (suc count) (plus p.addr1 p.done) (plus p.addr2 p.done) then 0 else rest)) e.0
      ∙ (ap (λ t. suc (place_units byte count (after (plus p.addr1 p.done)) (after (plus p.addr2 p.done))) + (if t then 0 else rest)) e.1
      ∙ (ap (λ a. suc (place_units byte count a (after (plus p.addr2 p.done))) + (if stands_at byte count a (after (plus p.addr2 p.done)) then 0 else rest)) a1
      ∙ (ap (λ b. suc (place_units byte count (plus p.addr1 (p.done + 1)) b) + (if stands_at byte count (plus p.addr1 (p.done + 1)) b then 0 else rest)) a2
      ∙ (suc_out (place_units byte count (plus p.addr1 (p.done + 1)) (plus p.addr2 (p.done + 1))) (if stands_at byte count (plus p.addr1 (p.done + 1)) (plus p.addr2 (p.done + 1)) then 0 else rest)
      ∙ ap suc (sym later)))))))
    where
      suc_out : (x y : ℕ) → suc x + y ≡ suc (x + y)
      suc_out x y = omega arith

  -- they differ
  differ : (p : Progress) → p.len1 ≤ p.len2 → p.done < p.len1 → (byte (plus p.addr1 p.done) == byte (plus p.addr2 p.done)) ≡ false → match_units p m ≡ suc (match_units (at_next_place p) m)
  unfolding match_units
  differ p h more is =
      let places = p.len2 - p.len1 in
      let count = p.len1 - (p.done + 1) in
      let c : p.len1 - p.done ≡ suc count = omega arith in
      let e = one_differs count (plus p.addr1 p.done) (plus p.addr2 p.done) is in
      let rest = places_units byte places (at_next_place p) in
      let later : places_units byte (places_of (at_next_place p)) (at_next_place p) ≡ rest = ap (λ n. places_units byte n (at_next_place p)) (next_places p h (omega arith)) in
      let here : places_units byte (places_of p) p ≡ place_units byte (p.len1 - p.done) (plus p.addr1 p.done) (plus p.addr2 p.done) + (if stands_at byte (p.len1 - p.done) (plus p.addr1 p.done) (plus p.addr2 p.done) then 0 else rest) =
      ap (λ n. places_units byte n p) (places_are p h) ∙ at_first places p in
      here
      ∙ (ap (λ n. place_units byte n (plus p.addr1 p.done) (plus p.addr2 p.done) + (if stands_at byte n (plus p.addr1 p.done) (plus p.addr2 p.done) then 0 else rest)) c
      ∙ (ap (λ n. n + (if stands_at byte (suc count) (plus p.addr1 p.done) (plus p.addr2 p.done) then 0 else rest)) e.0
      ∙ (ap (λ t. 1 + (if t then 0 else rest)) e.1
      ∙ (one_more rest ∙ ap suc (sym later)))))
    where
      one_more : (x : ℕ) → 1 + x ≡ suc x
      one_more x = omega arith

-- from unit to unit
module _ (op total : ℕ) (s : State) (m : List Area) (next : Flow → State → Accesses Leaf) (behind : IsBehind next) (full : length s.core.regs ≡ 16) (layout : layout_of op ≡ Compares) where
  abbrev Fine : Accesses Leaf → Type 0
  Fine tree = Right match_units op total s tree m

  -- so many units are made, and the others are left
  pub record IsAfter (made : ℕ) (p : Progress) : Type 0 where
    pub same : p.op ≡ op
    pub proper : IsProper p
    pub within : p.done ≤ p.len1
    pub sum : total ≡ made + match_units p m

  done_matched : (p : Progress) → LeavesNoPart (outcome_of (matched p s next) m)
  unfolding matched completed
  done_matched p = behind.done _ m

  done_unmatched : (p : Progress) → LeavesNoPart (outcome_of (unmatched p s next) m)
  unfolding unmatched completed
  done_unmatched p = behind.done _ m

  -- where the object may stand and isn't found yet, a byte of it is compared
  some_left : (p : Progress) → p.len1 ≤ p.len2 → p.done < p.len1 → 1 ≤ match_units p m
  some_left p h more = elim (cases_Bool (byte_at m (plus p.addr1 p.done) == byte_at m (plus p.addr2 p.done))) [
    | inl e ↦ let one = agree m p h more e in omega arith
    | inr e ↦ let one = differ m p h more e in omega arith
  ]

  ended : (made : ℕ) (p : Progress) → 1 ≤ made → IsAfter made p → p.len1 ≤ p.len2 → p.done < p.len1 → Fine (leaves p made s next)
  ended made p some is h more = left_right match_units op total s next behind full p made m is.same is.proper some (some_left p h more) is.sum

  more_made : (made : ℕ) (p : Progress) → IsAfter made p → p.len1 ≤ p.len2 → p.done < p.len1 → (byte_at m (plus p.addr1 p.done) == byte_at m (plus p.addr2 p.done)) ≡ true → IsAfter (made + 1) (more_of p)
  more_made made p is h more e =
      let one = agree m p h more e in
      record { same = is.same; proper = done_proper p (p.done + 1) (ap layout_of is.same ∙ layout) is.proper; within = omega arith; sum = omega (arith, is.sum, one) }

  next_made : (made : ℕ) (p : Progress) → IsAfter made p → p.len1 ≤ p.len2 → p.done < p.len1 → (byte_at m (plus p.addr1 p.done) == byte_at m (plus p.addr2 p.done)) ≡ false → IsAfter (made + 1) (at_next_place p)
  next_made made p is h more e =
      let one = differ m p h more e in
      record {
        same = is.same;
        proper = record { len1 = is.proper.len1; byte = is.proper.byte; len2 = (let l = is.proper.len2 in omega arith); unused = unused_compares (layout_of p.op) p (at_next_place p) (ap layout_of is.same ∙ layout) refl is.proper.unused };
        within = omega arith;
        sum = omega (arith, is.sum, one);
      }

  not_all : (p : Progress) → p.done ≤ p.len1 → (p.done == p.len1) ≡ false → p.done < p.len1
  not_all p w e = grind (arith, nat_tests)

  long_enough : (p : Progress) → nat_lt p.len2 p.len1 ≡ false → p.len1 ≤ p.len2
  long_enough p e = grind (arith, nat_tests)

  -- it ends, or goes on with a byte of the object
  or_ends : (made : ℕ) (p : Progress) (t : Accesses Leaf) → IsAfter made p → (p.len1 ≤ p.len2 → p.done < p.len1 → Fine t) → Fine (if nat_lt p.len2 p.len1 then unmatched p s next else if p.done == p.len1 then matched p s next else t)
  or_ends made p t is g =
      if_right match_units op total s (nat_lt p.len2 p.len1) _ _ m (λ none. none_right match_units op total s _ (done_unmatched p))
      (λ long. if_right match_units op total s (p.done == p.len1) _ _ m (λ all. none_right match_units op total s _ (done_matched p))
      (λ part. g (long_enough p long) (not_all p is.within part)))

  unit_right : (made : ℕ) (p : Progress) (k : Progress → State → Accesses Leaf) → IsAfter made p → p.len1 ≤ p.len2 → p.done < p.len1 → ((q : Progress) → IsAfter (made + 1) q → Fine (k q s)) → Fine (match_unit p s k)
  unfolding match_unit
  unit_right made p k is h more g =
      let e1 = number_one (byte_at m) (plus p.addr1 p.done) in
      let e2 = number_one (byte_at m) (plus p.addr2 p.done) in
      let same : (number (byte_at m) (plus p.addr1 p.done) 1 == number (byte_at m) (plus p.addr2 p.done) 1) ≡ (byte_at m (plus p.addr1 p.done) == byte_at m (plus p.addr2 p.done)) = rw (e1, e2) refl in
      byte_right match_units op total s _ _ m (byte_right match_units op total s _ _ m
      (if_right match_units op total s (number (byte_at m) (plus p.addr1 p.done) 1 == number (byte_at m) (plus p.addr2 p.done) 1) _ _ m
      (λ yes'. g (more_of p) (more_made made p is h more (sym same ∙ yes')))
      (λ no'. g (at_next_place p) (next_made made p is h more (sym same ∙ no')))))

  on_right : (count made first second : ℕ) (p : Progress) → 1 ≤ made → IsAfter made p → Fine (match_on count made first second p s next)
  unfolding match_on
  on_right zero made first second p some is = or_ends made p _ is (λ h more. ended made p some is h more)
  on_right (suc count) made first second p some is =
      or_ends made p _ is (λ h more. if_right match_units op total s (is_near first second p) _ _ m
      (λ near. unit_right made p _ is h more (λ q after. on_right count (made + 1) first second q (omega arith) after))
      (λ far. ended made p some is h more))

  -- the first unit is near its own pages
  near_first : (p : Progress) → is_near (plus p.addr1 p.done / 512) (plus p.addr2 p.done / 512) p ≡ true
  near_first p = let a : (plus p.addr1 p.done / 512 == plus p.addr1 p.done / 512) ≡ true = eq-eqb _ _ refl in let b : (plus p.addr2 p.done / 512 == plus p.addr2 p.done / 512) ≡ true = eq-eqb _ _ refl in rw (a, b) (by (plus p.addr2 p.done / 512 == plus p.addr1 p.done / 512))
    where
      by : (b : Bool) → (b || true) ≡ true
      by true = refl
      by false = refl

  begin_right : (count : ℕ) (p : Progress) → IsAfter 0 p → Fine (match_on (suc count) 0 (plus p.addr1 p.done / 512) (plus p.addr2 p.done / 512) p s next)
  unfolding match_on
  begin_right count p is =
      or_ends 0 p _ is (λ h more. if_right match_units op total s (is_near (plus p.addr1 p.done / 512) (plus p.addr2 p.done / 512) p) _ _ m
      (λ near. unit_right 0 p _ is h more (λ q after. on_right count (0 + 1) _ _ q (omega arith) after))
      (λ far. let no' : true ≡ false = sym (near_first p) ∙ far in absurd (cc)))

-- MATCHC
pub match_right : (p : Progress) (s : State) (m : List Area) (next : Flow → State → Accesses Leaf) → IsBehind next → length s.core.regs ≡ 16 → IsProper p → layout_of p.op ≡ Compares → p.done ≤ p.len1 → Right match_units p.op (match_units p m) s (match_part p s next) m
unfolding match_part
match_right p s m next behind full proper layout within = begin_right p.op (match_units p m) s m next behind full layout 511 p (record { same = refl; proper = proper; within = within; sum = omega arith })
