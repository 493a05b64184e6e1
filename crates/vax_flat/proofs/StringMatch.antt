-- A match in parts is the match.
use Rattle.std.proofs.Common.{ℕ, zero, suc, ◌≡◌, ◌+◌, ◌-◌, ◌^◌, ◌<◌, ◌≤◌, Bool, true, false, ◌==◌, nat_lt, if◌then◌else◌, Option, Some, None, List, refl, sym, ap, ◌∙◌, inl, inr, arith}
use Rattle.std.proofs.lemmas.Bool.{cases_lt, eq-eqb, ne_eqb, cases_eq}
use Rattle.std.proofs.lemmas.Bool.Decides.{nat_tests}
use Rattle.vax_space.specs.declared.Access.TheVariants.{Read}
use Rattle.vax_space.specs.declared.Area.{Area}
use Rattle.vax_space.specs.declared.Violation.{Violation}
use Rattle.vax_space.specs.Reference.{violation}
use Rattle.vax_strpart.specs.declared.packing.Progress.{Progress}
use Rattle.vax_strpart.specs.declared.packing.Layout.{Layout}
use Rattle.vax_strpart.specs.declared.packing.Layout.TheVariants.{Moves, Compares, Searches, Scans, Translates}
use Rattle.vax_strpart.specs.Packing.{layout_of, packed, IsProper, AreUnusedZero}
use Rattle.vax_word.specs.declared.Codes.{Codes}
use Rattle.vax_flat.specs.declared.Flow.{Flow}
use Rattle.vax_flat.specs.declared.Flow.TheVariants as flow
use Rattle.vax_flat.specs.Memory.{after, byte_at, number}
use Rattle.vax_flat.specs.State.{State, mode, with_conditions}
use Rattle.vax_flat.specs.Accesses.{Accesses, Leaf}
use Rattle.vax_flat.specs.Outcome.{Outcome, outcome_of, unless_violated}
use Rattle.vax_flat.specs.Operand.{plus, read_at}
use Rattle.vax_flat.specs.Bound.{LeavesNoPart}
use Rattle.vax_flat.specs.String.{low_registers, with_low, suspended, continued, completed, leaves, from_registers, IsReady}
use Rattle.vax_flat.specs.StringMatch.{matched_low, matched, unmatched, agreeing, at_next_place, match, places_of, whole_match, match_unit, is_near, match_on, match_part}
use Rattle.vax_flat.specs.StringAgree.{and_rest, IsBehind}
use Rattle.vax_flat.proofs.StringState.{six, low_set, mode_low, conditions_low, continued_suspended, unpacked_suspended}
use Rattle.vax_flat.proofs.StringSearch.{rest_of_whole, left_so}

-- the match over other low registers
agreeing_over : (memory : List Area) (s t : State) → mode t ≡ mode s → (count a b : ℕ) (k l : Bool → State → Accesses Leaf) → ((x : Bool) → outcome_of (k x t) memory ≡ outcome_of (l x s) memory) → outcome_of (agreeing count a b t k) memory ≡ outcome_of (agreeing count a b s l) memory
unfolding agreeing read_at outcome_of
agreeing_over memory s t same zero a b k l h = h true
agreeing_over memory s t same (suc count) a b k l h =
    let further = agreeing_over memory s t same count (after a) (after b) k l h in
    rw same (ap (unless_violated (violation memory a 1 (mode s) Read)) (ap (unless_violated (violation memory b 1 (mode s) Read))
    (by_test (number (byte_at memory) a 1 == number (byte_at memory) b 1) _ _ _ _ further (h false))))
  where
    by_test : (test : Bool) (x x' y y' : Accesses Leaf) → outcome_of x memory ≡ outcome_of x' memory → outcome_of y memory ≡ outcome_of y' memory → outcome_of (if test then x else y) memory ≡ outcome_of (if test then x' else y') memory
    by_test true x x' y y' e f = e
    by_test false x x' y y' e f = f

match_over : (memory : List Area) (s t : State) (next : Flow → State → Accesses Leaf) → mode t ≡ mode s →
    ((p : Progress) → outcome_of (matched p t next) memory ≡ outcome_of (matched p s next) memory) →
    ((p : Progress) → outcome_of (unmatched p t next) memory ≡ outcome_of (unmatched p s next) memory) →
    (places : ℕ) (p : Progress) → outcome_of (match places p t next) memory ≡ outcome_of (match places p s next) memory
unfolding match
match_over memory s t next same found none_found zero p = none_found p
match_over memory s t next same found none_found (suc places) p =
    let further = match_over memory s t next same found none_found places (at_next_place p) in
    agreeing_over memory s t same (p.len1 - p.done) (plus p.addr1 p.done) (plus p.addr2 p.done) _ _ (λ x. by_answer x further)
  where
    by_answer : (x : Bool) → outcome_of (match places (at_next_place p) t next) memory ≡ outcome_of (match places (at_next_place p) s next) memory → outcome_of (if x then matched p t next else match places (at_next_place p) t next) memory ≡ outcome_of (if x then matched p s next else match places (at_next_place p) s next) memory
    by_answer true further = found p
    by_answer false further = further

kept_by : (layout : Layout) (p : Progress) (done : ℕ) → layout ≡ Compares → AreUnusedZero layout p → AreUnusedZero layout (record p { done = done })
kept_by Moves p done is u = u
kept_by Compares p done is u = u
kept_by Translates p done is u = u
kept_by Searches p done is u = absurd (cc)
kept_by Scans p done is u = absurd (cc)

next_by : (layout : Layout) (p : Progress) → layout ≡ Compares → AreUnusedZero layout p → AreUnusedZero layout (at_next_place p)
next_by Moves p is u = u
next_by Compares p is u = u
next_by Translates p is u = u
next_by Searches p is u = absurd (cc)
next_by Scans p is u = absurd (cc)

kept_unused : (p : Progress) → layout_of p.op ≡ Compares → AreUnusedZero (layout_of p.op) p → AreUnusedZero (layout_of p.op) (record p { done = p.done + 1 })
kept_unused p is u = kept_by (layout_of p.op) p (p.done + 1) is u

next_unused : (p : Progress) → layout_of p.op ≡ Compares → AreUnusedZero (layout_of p.op) p → AreUnusedZero (layout_of p.op) (at_next_place p)
next_unused p is u = next_by (layout_of p.op) p is u

module _ (s : State) (next : Flow → State → Accesses Leaf) (memory : List Area) where
  abbrev whole : Progress → Outcome Leaf
  whole p = outcome_of (match (places_of p) p s next) memory

  unmatched_so : (p : Progress) → p.len2 < p.len1 → whole p ≡ outcome_of (unmatched p s next) memory
  unfolding match places_of
  unmatched_so p h = let t : nat_lt p.len2 p.len1 ≡ true = grind (arith, nat_tests) in rw t refl

  places_are : (p : Progress) → p.len1 ≤ p.len2 → places_of p ≡ suc (p.len2 - p.len1)
  unfolding places_of
  places_are p h = let f : nat_lt p.len2 p.len1 ≡ false = grind (arith, nat_tests) in rw f (omega arith)

  next_places : (p : Progress) → p.len1 ≤ p.len2 → 0 < p.len1 → places_of (at_next_place p) ≡ p.len2 - p.len1
  unfolding places_of
  next_places p h some = elim (cases_lt (p.len2 - 1) p.len1) [
    | inl l ↦ let t : nat_lt (p.len2 - 1) p.len1 ≡ true = grind (arith, nat_tests) in rw t (omega arith)
    | inr g ↦ let f : nat_lt (p.len2 - 1) p.len1 ≡ false = grind (arith, nat_tests) in rw f (omega arith)
  ]

  match_first : (places : ℕ) (p : Progress) → outcome_of (match (suc places) p s next) memory ≡ outcome_of (agreeing (p.len1 - p.done) (plus p.addr1 p.done) (plus p.addr2 p.done) s (λ agree s. if agree then matched p s next else match places (at_next_place p) s next)) memory
  unfolding match
  match_first places p = refl

  agreeing_none : (a b : ℕ) (k : Bool → State → Accesses Leaf) → outcome_of (agreeing 0 a b s k) memory ≡ outcome_of (k true s) memory
  unfolding agreeing
  agreeing_none a b k = refl

  matched_so : (p : Progress) → p.len1 ≤ p.len2 → p.done ≡ p.len1 → whole p ≡ outcome_of (matched p s next) memory
  matched_so p h all =
      let z : p.len1 - p.done ≡ 0 = omega arith in
      ap (λ n. outcome_of (match n p s next) memory) (places_are p h)
      ∙ (match_first (p.len2 - p.len1) p
      ∙ (ap (λ n. outcome_of (agreeing n (plus p.addr1 p.done) (plus p.addr2 p.done) s (λ agree s. if agree then matched p s next else match (p.len2 - p.len1) (at_next_place p) s next)) memory) z
      ∙ agreeing_none (plus p.addr1 p.done) (plus p.addr2 p.done) _))

  abbrev more_of : Progress → Progress
  more_of p = record p { done = p.done + 1 }

  -- two bytes are read, and then by whether they are the same
  abbrev pair_read : ℕ → ℕ → (Bool → Outcome Leaf) → Outcome Leaf
  pair_read a b k = unless_violated (violation memory a 1 (mode s) Read) (unless_violated (violation memory b 1 (mode s) Read) (k (number (byte_at memory) a 1 == number (byte_at memory) b 1)))

  choose : (t : Bool) (x y : Accesses Leaf) → outcome_of (if t then x else y) memory ≡ (if t then outcome_of x memory else outcome_of y memory)
  choose true x y = refl
  choose false x y = refl

  agreeing_more : (count a b : ℕ) (k : Bool → State → Accesses Leaf) → outcome_of (agreeing (suc count) a b s k) memory ≡ pair_read a b (λ t. if t then outcome_of (agreeing count (after a) (after b) s k) memory else outcome_of (k false s) memory)
  unfolding agreeing read_at outcome_of
  agreeing_more count a b k = ap (unless_violated (violation memory a 1 (mode s) Read)) (ap (unless_violated (violation memory b 1 (mode s) Read)) (choose (number (byte_at memory) a 1 == number (byte_at memory) b 1) (agreeing count (after a) (after b) s k) (k false s)))

  unit_is : (p : Progress) (k : Progress → State → Accesses Leaf) → outcome_of (match_unit p s k) memory ≡ pair_read (plus p.addr1 p.done) (plus p.addr2 p.done) (λ t. if t then outcome_of (k (more_of p) s) memory else outcome_of (k (at_next_place p) s) memory)
  unfolding match_unit read_at outcome_of
  unit_is p k = ap (unless_violated (violation memory (plus p.addr1 p.done) 1 (mode s) Read)) (ap (unless_violated (violation memory (plus p.addr2 p.done) 1 (mode s) Read)) (choose (number (byte_at memory) (plus p.addr1 p.done) 1 == number (byte_at memory) (plus p.addr2 p.done) 1) (k (more_of p) s) (k (at_next_place p) s)))

  goes_so : (p : Progress) → p.len1 ≤ p.len2 → p.done < p.len1 → whole p ≡ pair_read (plus p.addr1 p.done) (plus p.addr2 p.done) (λ t. if t then whole (more_of p) else whole (at_next_place p))
  unfolding matched match outcome_of
  goes_so p h more =
      let places = p.len2 - p.len1 in
      let k : Bool → State → Accesses Leaf = λ agree s. if agree then matched p s next else match places (at_next_place p) s next in
      let c : p.len1 - p.done ≡ suc (p.len1 - (p.done + 1)) = omega arith in
      let a1 : after (plus p.addr1 p.done) ≡ plus p.addr1 (p.done + 1) = omega arith in
      let a2 : after (plus p.addr2 p.done) ≡ plus p.addr2 (p.done + 1) = omega arith in
      let same : outcome_of (agreeing (p.len1 - (p.done + 1)) (after (plus p.addr1 p.done)) (after (plus p.addr2 p.done)) s k) memory ≡ whole (more_of p) =
      ap (λ a. outcome_of (agreeing (p.len1 - (p.done + 1)) a (after (plus p.addr2 p.done)) s k) memory) a1
      ∙ (ap (λ b. outcome_of (agreeing (p.len1 - (p.done + 1)) (plus p.addr1 (p.done + 1)) b s k) memory) a2
      ∙ (sym (match_first places (more_of p)) ∙ ap (λ n. outcome_of (match n (more_of p) s next) memory) (sym (places_are (more_of p) h)))) in
      let other : outcome_of (match places (at_next_place p) s next) memory ≡ whole (at_next_place p) = ap (λ n. outcome_of (match n (at_next_place p) s next) memory) (sym (next_places p h (omega arith))) in
      ap (λ n. outcome_of (match n p s next) memory) (places_are p h)
      ∙ (match_first places p
      ∙ (ap (λ n. outcome_of (agreeing n (plus p.addr1 p.done) (plus p.addr2 p.done) s k) memory) c
      ∙ (agreeing_more (p.len1 - (p.done + 1)) (plus p.addr1 p.done) (plus p.addr2 p.done) k
      ∙ ap (λ o. pair_read (plus p.addr1 p.done) (plus p.addr2 p.done) (λ t. if t then o else outcome_of (match places (at_next_place p) s next) memory)) same
      ∙ ap (λ o. pair_read (plus p.addr1 p.done) (plus p.addr2 p.done) (λ t. if t then whole (more_of p) else o)) other)))

  -- a part
  module _ (behind : IsBehind next) (ready : IsReady s) (op : ℕ) (kind : layout_of op ≡ Compares) where
    abbrev rest : State → Accesses Leaf
    rest t = from_registers op whole_match t next

    pub record IsMatch (p : Progress) : Type 0 where
      pub same : p.op ≡ op
      pub proper : IsProper p
      pub delta : p.delta < 2 ^ 8
      pub within : p.done ≤ p.len1

    done_matched : (p : Progress) → LeavesNoPart (outcome_of (matched p s next) memory)
    unfolding matched completed
    done_matched p = behind.done _ memory

    done_unmatched : (p : Progress) → LeavesNoPart (outcome_of (unmatched p s next) memory)
    unfolding unmatched completed
    done_unmatched p = behind.done _ memory

    kept_list : (a b c d : ℕ) (old : List ℕ) (q : Progress) → layout_of q.op ≡ Compares → matched_low a b c d (six (packed q old)) ≡ matched_low a b c d (six old)
    unfolding packed
    kept_list a b c d old q is = rw is refl

    kept : (q : Progress) → q.op ≡ op → (a b c d : ℕ) (codes : Codes) → with_low (matched_low a b c d (low_registers (with_low (packed q (low_registers s)) s))) (with_conditions (with_low (packed q (low_registers s)) s) codes) ≡ with_low (matched_low a b c d (low_registers s)) (with_conditions s codes)
    kept q same a b c d codes =
        let xs = packed q (low_registers s) in
        ap (λ ys. with_low ys (with_conditions (with_low xs s) codes)) (ap (matched_low a b c d) (low_set s xs ready.full) ∙ kept_list a b c d (low_registers s) q (ap layout_of same ∙ kind))
        ∙ conditions_low s xs (matched_low a b c d (low_registers s)) codes ready.full

    matched_over : (q : Progress) → q.op ≡ op → (p : Progress) → outcome_of (matched p (with_low (packed q (low_registers s)) s) next) memory ≡ outcome_of (matched p s next) memory
    unfolding matched completed
    matched_over q same p = ap (λ t. outcome_of (next flow.Done t) memory) (kept q same _ _ _ _ _)

    unmatched_over : (q : Progress) → q.op ≡ op → (p : Progress) → outcome_of (unmatched p (with_low (packed q (low_registers s)) s) next) memory ≡ outcome_of (unmatched p s next) memory
    unfolding unmatched completed
    unmatched_over q same p = ap (λ t. outcome_of (next flow.Done t) memory) (kept q same _ _ _ _ _)

    further : (p : Progress) → IsMatch p → outcome_of (rest (suspended p s)) memory ≡ whole p
    further p is =
        ap (λ o. outcome_of (from_registers o whole_match (suspended p s) next) memory) (sym is.same)
        ∙ (ap (λ r. outcome_of (whole_match r (continued r.delta (suspended p s)) next) memory) (unpacked_suspended p s ready.full is.proper)
        ∙ (ap (λ t. outcome_of (whole_match p t next) memory) (continued_suspended p s ready is.delta)
        ∙ match_over memory s (with_low (packed p (low_registers s)) s) next (mode_low s _) (matched_over p is.same) (unmatched_over p is.same) (places_of p) p))

    left_part : (p : Progress) (units : ℕ) → IsMatch p → whole p ≡ and_rest rest (outcome_of (leaves p units s next) memory)
    left_part p units is = sym (left_so s next memory rest behind p units ∙ further p is)

    rest_unless : (v : Option Violation) (o : Outcome Leaf) → and_rest rest (unless_violated v o) ≡ unless_violated v (and_rest rest o)
    rest_unless (Some v) o = refl
    rest_unless None o = refl

    rest_pair : (a b : ℕ) (x y : Outcome Leaf) → and_rest rest (pair_read a b (λ t. if t then x else y)) ≡ pair_read a b (λ t. if t then and_rest rest x else and_rest rest y)
    rest_pair a b x y =
        rest_unless (violation memory a 1 (mode s) Read) _
        ∙ ap (unless_violated (violation memory a 1 (mode s) Read)) (rest_unless (violation memory b 1 (mode s) Read) _ ∙ ap (unless_violated (violation memory b 1 (mode s) Read)) (by_test (number (byte_at memory) a 1 == number (byte_at memory) b 1)))
      where
        by_test : (t : Bool) → and_rest rest (if t then x else y) ≡ (if t then and_rest rest x else and_rest rest y)
        by_test true = refl
        by_test false = refl

    is_more : (p : Progress) → IsMatch p → p.done < p.len1 → IsMatch (more_of p)
    is_more p is h = record { same = is.same; proper = record { len1 = is.proper.len1; byte = is.proper.byte; len2 = is.proper.len2; unused = kept_unused p (ap layout_of is.same ∙ kind) is.proper.unused }; delta = is.delta; within = omega arith }

    is_next : (p : Progress) → IsMatch p → IsMatch (at_next_place p)
    is_next p is = record { same = is.same; proper = record { len1 = is.proper.len1; byte = is.proper.byte; len2 = (let h = is.proper.len2 in omega arith); unused = next_unused p (ap layout_of is.same ∙ kind) is.proper.unused }; delta = is.delta; within = omega arith }

    stops_or : (p : Progress) (t : Accesses Leaf) → IsMatch p → (p.len1 ≤ p.len2 → p.done < p.len1 → whole p ≡ and_rest rest (outcome_of t memory)) →
        whole p ≡ and_rest rest (outcome_of (if nat_lt p.len2 p.len1 then unmatched p s next else if p.done == p.len1 then matched p s next else t) memory)
    stops_or p t is goes = elim (cases_lt p.len2 p.len1) [
      | inl l ↦ let yes' : nat_lt p.len2 p.len1 ≡ true = grind (arith, nat_tests) in rw yes' (unmatched_so p l ∙ sym (rest_of_whole rest _ (done_unmatched p)))
      | inr g ↦ let no' : nat_lt p.len2 p.len1 ≡ false = grind (arith, nat_tests) in elim (cases_eq p.done p.len1) [
        | inl e ↦ rw (no', eq-eqb p.done p.len1 e) (matched_so p g e ∙ sym (rest_of_whole rest _ (done_matched p)))
        | inr n ↦ rw (no', ne_eqb p.done p.len1 n) (goes g (let w = is.within in omega arith))
      ]
    ]

    by_near : (b : Bool) (x y : Accesses Leaf) (w : Outcome Leaf) → w ≡ and_rest rest (outcome_of x memory) → w ≡ and_rest rest (outcome_of y memory) → w ≡ and_rest rest (outcome_of (if b then x else y) memory)
    by_near true x y w e f = e
    by_near false x y w e f = f

    pub on_agrees : (more units first second : ℕ) (p : Progress) → IsMatch p → whole p ≡ and_rest rest (outcome_of (match_on more units first second p s next) memory)
    unfolding match_on
    on_agrees zero units first second p is = stops_or p (leaves p units s next) is (λ g h. left_part p units is)
    on_agrees (suc more) units first second p is =
        let again = on_agrees more (units + 1) first second in
        stops_or p _ is (λ g h. by_near (is_near first second p) _ _ (whole p)
        (goes_so p g h
        ∙ (ap (λ o. pair_read (plus p.addr1 p.done) (plus p.addr2 p.done) (λ t. if t then o else whole (at_next_place p))) (again (more_of p) (is_more p is h))
        ∙ (ap (λ o. pair_read (plus p.addr1 p.done) (plus p.addr2 p.done) (λ t. if t then and_rest rest (outcome_of (match_on more (units + 1) first second (more_of p) s next) memory) else o)) (again (at_next_place p) (is_next p is))
        ∙ (sym (rest_pair (plus p.addr1 p.done) (plus p.addr2 p.done) _ _)
        ∙ ap (and_rest rest) (sym (unit_is p _))))))
        (left_part p units is))

pub match_agrees : (p : Progress) (s : State) (memory : List Area) (next : Flow → State → Accesses Leaf) → IsBehind next → IsReady s → IsProper p → layout_of p.op ≡ Compares → p.delta < 2 ^ 8 → p.done ≤ p.len1 → outcome_of (whole_match p s next) memory ≡ and_rest (λ t. from_registers p.op whole_match t next) (outcome_of (match_part p s next) memory)
unfolding match_part
match_agrees p s memory next behind ready proper kind short within = on_agrees s next memory behind ready p.op kind 512 0 _ _ p (record { same = refl; proper = proper; delta = short; within = within })
