-- How many units any string instruction reaches, and that a part counts them right.
use Rattle.std.proofs.Common.{◌≡◌, ℕ, ◌+◌, ◌≤◌, Bool, true, false, ◌&&◌, ◌||◌, List, refl, sym, ap, subst, ◌∙◌, inl, inr, arith}
use Rattle.std.proofs.lemmas.Bool.{cases_Bool, true≢false}
use Rattle.vax_word.specs.Status.{mode_of}
use Rattle.vax_space.specs.declared.Access.TheVariants.{Read}
use Rattle.vax_space.specs.declared.Area.{Area}
use Rattle.vax_space.specs.Reference.{violation}
use Rattle.vax_isa.specs.declared.actions.Text.{Text}
use Rattle.vax_isa.specs.declared.actions.Text.TheVariants as text
use Rattle.vax_strpart.specs.declared.packing.Progress.{Progress}
use Rattle.vax_strpart.specs.Packing.{unpacked, layout_of}
use Rattle.vax_flat.specs.declared.Flow.TheVariants as flow
use Rattle.vax_flat.specs.State.{State, mode}
use Rattle.vax_flat.specs.Accesses.{Leaf, Went, Found}
use Rattle.vax_flat.specs.Outcome.{Outcome, Ends, Raised, outcome_of}
use Rattle.vax_flat.specs.Bound.{LeavesNoPart}
use Rattle.vax_flat.specs.String.{low_registers, left, with_low, suspended, IsReady}
use Rattle.vax_flat.specs.StringMove.{by_table, is_reserved, moved_count, move_start}
use Rattle.vax_flat.specs.StringEscape.{is_escape_reserved, escape_start}
use Rattle.vax_flat.proofs.Listed.{first_by}
use Rattle.vax_flat.proofs.StringState.{unpacked_suspended}
use Rattle.vax_flat.proofs.StringGoing.{Family, Seeking, Scanning, Comparing, Moving, Escaping, Matching, IsSound, only_reads, fin, behind_fin, part_of}
use Rattle.vax_flat.proofs.StringBeginning.{family_of, opcode_of, IsFresh}
use Rattle.vax_flat.proofs.StringStarts.{Passes, checks}
use Rattle.vax_flat_units.specs.Units.{Counts, units_left}
use Rattle.vax_flat_units.specs.Violations.{search_violates, scan_violates, compare_violates, match_violates, unit_violates, to_violation, units_reached, is_violated, is_checked_out, is_reserved_by, is_violated_by}
use Rattle.vax_flat_units.proofs.Families.{units_by, left_is}
use Rattle.vax_flat_units.proofs.Reaching.{IsClear, Clears, alike, reached_so, some_reached}
use Rattle.vax_flat_units.proofs.Allowing.{search_clear, scan_clear, compare_clear}
use Rattle.vax_flat_units.proofs.MatchAllowing.{match_clear}

abbrev pub violates_by : Family → Progress → ℕ → List Area → ℕ → Bool
violates_by (Seeking equal) p in_mode m i = search_violates p in_mode m i
violates_by (Scanning some) p in_mode m i = scan_violates p in_mode m i
violates_by Comparing p in_mode m i = compare_violates p in_mode m i
violates_by (Moving translate) p in_mode m i = false
violates_by Escaping p in_mode m i = false
violates_by Matching p in_mode m i = match_violates p in_mode m i

violates_is : (t : Text) (p : Progress) (in_mode : ℕ) (m : List Area) (i : ℕ) → unit_violates (opcode_of t) p in_mode m i ≡ violates_by (family_of t) p in_mode m i
unfolding unit_violates
violates_is text.Move p in_mode m i = refl
violates_is text.MoveFilled p in_mode m i = refl
violates_is text.MoveTranslated p in_mode m i = refl
violates_is text.MoveTranslatedUntil p in_mode m i = refl
violates_is text.Compare p in_mode m i = refl
violates_is text.CompareFilled p in_mode m i = refl
violates_is text.Locate p in_mode m i = refl
violates_is text.Skip p in_mode m i = refl
violates_is text.Scan p in_mode m i = refl
violates_is text.Span p in_mode m i = refl
violates_is text.Match p in_mode m i = refl

abbrev pub reached_by : Family → Progress → ℕ → List Area → ℕ
reached_by f p in_mode m = to_violation (violates_by f p in_mode m) (units_by f p m)

pub reached_is : (t : Text) (p : Progress) (in_mode : ℕ) (m : List Area) → units_reached (opcode_of t) p in_mode m ≡ reached_by (family_of t) p in_mode m
reached_is t p in_mode m =
    alike (unit_violates (opcode_of t) p in_mode m) (violates_by (family_of t) p in_mode m) (units_left (opcode_of t) p m) (violates_is t p in_mode m)
    ∙ ap (to_violation (violates_by (family_of t) p in_mode m)) (left_is t p m)

-- a move's units violate nowhere
moves_clear : (opcode : ℕ) (o : Outcome Leaf) → Clears (λ q i. false) opcode (λ i. false) o
moves_clear opcode (Ends (Went flow.Done t) memory) = tt
moves_clear opcode (Ends (Went flow.Clocked t) memory) = tt
moves_clear opcode (Ends (Went (flow.Trap kind) t) memory) = tt
moves_clear opcode (Ends (Went (flow.More by made) t) memory) = record { clear = λ i h. refl; shift = λ i. refl }
moves_clear opcode (Ends (Went (flow.Ended e) t) memory) = tt
moves_clear opcode (Ends (Found operand t) memory) = tt
moves_clear opcode (Raised e) = tt

abbrev pub AreClear : Family → Progress → State → List Area → Outcome Leaf → Type 0
AreClear f p s m o = Clears (λ q. violates_by f q (mode s) m) p.op (violates_by f p (mode s) m) o

pub clears : (f : Family) (p : Progress) (s : State) (m : List Area) → IsReady s → IsSound f p s m → AreClear f p s m (outcome_of (part_of f p s fin) m)
clears (Seeking equal) p s m ready i = search_clear equal p s m fin behind_fin ready.full i.proper i.holds.1
clears (Scanning some) p s m ready i = scan_clear some p s m fin behind_fin ready.full i.proper i.holds.1 i.holds.2
clears Comparing p s m ready i = compare_clear p s m fin behind_fin ready.full i.proper i.holds.0
clears (Moving translate) p s m ready i = moves_clear p.op _
clears Escaping p s m ready i = moves_clear p.op _
clears Matching p s m ready i = match_clear p s m fin behind_fin ready.full i.proper i.holds.0

-- of the first part
pub first_clears : (t : Text) (p : Progress) (s : State) (m : List Area) → IsReady s → IsFresh t p → AreClear (family_of t) p s m (outcome_of (first_by t p s fin) m)
unfolding first_by layout_of
first_clears text.Move p s m ready f = moves_clear p.op _
first_clears text.MoveFilled p s m ready f = moves_clear p.op _
first_clears text.MoveTranslated p s m ready f = moves_clear p.op _
first_clears text.MoveTranslatedUntil p s m ready f = moves_clear p.op _
first_clears text.Compare p s m ready f = compare_clear p s m fin behind_fin ready.full f.proper (ap layout_of f.op)
first_clears text.CompareFilled p s m ready f = compare_clear p s m fin behind_fin ready.full f.proper (ap layout_of f.op)
first_clears text.Locate p s m ready f = search_clear true p s m fin behind_fin ready.full f.proper f.addr1
first_clears text.Skip p s m ready f = search_clear false p s m fin behind_fin ready.full f.proper f.addr1
first_clears text.Scan p s m ready f = scan_clear true p s m fin behind_fin ready.full f.proper f.addr1 f.table
first_clears text.Span p s m ready f = scan_clear false p s m fin behind_fin ready.full f.proper f.addr1 f.table
first_clears text.Match p s m ready f = match_clear p s m fin behind_fin ready.full f.proper (ap layout_of f.op)

-- what only reads leaves the memory as it was
same_memory : (f : Family) (q : Progress) (in_mode : ℕ) (m memory : List Area) → (only_reads f ≡ true → memory ≡ m) → (i : ℕ) → violates_by f q in_mode m i ≡ violates_by f q in_mode memory i
same_memory (Seeking equal) q in_mode m memory kept i = ap (λ n. search_violates q in_mode n i) (sym (kept refl))
same_memory (Scanning some) q in_mode m memory kept i = ap (λ n. scan_violates q in_mode n i) (sym (kept refl))
same_memory Comparing q in_mode m memory kept i = ap (λ n. compare_violates q in_mode n i) (sym (kept refl))
same_memory (Moving translate) q in_mode m memory kept i = refl
same_memory Escaping q in_mode m memory kept i = refl
same_memory Matching q in_mode m memory kept i = ap (λ n. match_violates q in_mode n i) (sym (kept refl))

-- the mode is kept between two parts
pub mode_suspended : (q : Progress) (u : State) → mode (suspended q u) ≡ mode u
unfolding suspended left with_low mode_of
mode_suspended q u = omega arith

-- what a part that leaves something made, and what it left
pub record IsMadeOf (f : Family) (p q : Progress) (in_mode made : ℕ) (m memory : List Area) : Type 0 where
  pub some : 1 ≤ made
  pub rest : 1 ≤ reached_by f q in_mode memory
  pub sum : reached_by f p in_mode m ≡ made + reached_by f q in_mode memory

pub made_of : (f : Family) (p q : Progress) (s : State) (made : ℕ) (m memory : List Area) → IsReady s → IsSound f q s memory → q.op ≡ p.op → (only_reads f ≡ true → memory ≡ m) →
    Counts (units_by f) p.op (units_by f p m) (Ends (Went (flow.More q.op made) (suspended q s)) memory) → AreClear f p s m (Ends (Went (flow.More q.op made) (suspended q s)) memory) → IsMadeOf f p q (mode s) made m memory
made_of f p q s made m memory ready sound is kept c k =
    let held : unpacked p.op (low_registers (suspended q s)) ≡ q = ap (λ o. unpacked o (low_registers (suspended q s))) (sym is) ∙ unpacked_suspended q s ready.full sound.proper in
    let clear : IsClear (violates_by f p (mode s) m) (violates_by f q (mode s) m) made = subst (λ r. IsClear (violates_by f p (mode s) m) (violates_by f r (mode s) m) made) held k in
    let rest : 1 ≤ units_by f q memory = subst (λ r. 1 ≤ units_by f r memory) held c.rest in
    let sum : units_by f p m ≡ made + units_by f q memory = c.sum ∙ ap (λ r. made + units_by f r memory) held in
    record {
      some = c.some;
      rest = some_reached (violates_by f q (mode s) memory) (units_by f q memory) rest;
      sum =
          reached_so (violates_by f p (mode s) m) (violates_by f q (mode s) m) (units_by f p m) made (units_by f q memory) clear sum
          ∙ ap (λ n. made + n) (alike (violates_by f q (mode s) m) (violates_by f q (mode s) memory) (units_by f q memory) (same_memory f q (mode s) m memory kept));
    }

-- what passes the checks isn't violated
passes_checks : (translate : Bool) (p : Progress) (written : ℕ) (s : State) (m : List Area) → Passes translate p written s m → is_checked_out translate p written (mode s) m ≡ false
passes_checks translate p written s m passes = rw (passes.source, passes.destination) (by (by_table translate p) refl)
  where
    by : (b : Bool) → by_table translate p ≡ b → ((b && is_violated (violation m p.table 256 (mode s) Read)) || false) ≡ false
    by true e = rw (passes.table e) refl
    by false e = refl

either : (a b : Bool) → (a || b) ≡ true → a ≡ false → b ≡ true
either true b e f = absurd (true≢false f)
either false b e f = e

move_stops : (translate : Bool) (p : Progress) (s : State) (m : List Area) → (is_reserved translate p || is_checked_out translate p p.len2 (mode s) m) ≡ true → LeavesNoPart (outcome_of (move_start translate p s fin) m)
unfolding move_start outcome_of
move_stops translate p s m so = elim (cases_Bool (is_reserved translate p)) [
  | inl reserved ↦ rw reserved tt
  | inr fine ↦ rw fine (elim (checks translate p p.len2 s m) [
    | inl stopped ↦ subst LeavesNoPart (sym (stopped.1 _)) tt
    | inr passes ↦ absurd (true≢false (sym (either _ _ so fine) ∙ passes_checks translate p p.len2 s m passes))
  ])
]

escape_stops : (p : Progress) (s : State) (m : List Area) → (is_escape_reserved p || is_checked_out true p (moved_count p) (mode s) m) ≡ true → LeavesNoPart (outcome_of (escape_start p s fin) m)
unfolding escape_start outcome_of
escape_stops p s m so = elim (cases_Bool (is_escape_reserved p)) [
  | inl reserved ↦ rw reserved tt
  | inr fine ↦ rw fine (elim (checks true p (moved_count p) s m) [
    | inl stopped ↦ subst LeavesNoPart (sym (stopped.1 _)) tt
    | inr passes ↦ absurd (true≢false (sym (either _ _ so fine) ∙ passes_checks true p (moved_count p) s m passes))
  ])
]

-- a move that has no units raises an exception
pub stopped_leaves : (t : Text) (p : Progress) (s : State) (m : List Area) → (is_reserved_by (opcode_of t) p || is_violated_by (opcode_of t) p (mode s) m) ≡ true → LeavesNoPart (outcome_of (first_by t p s fin) m)
unfolding first_by
stopped_leaves text.Move p s m so = move_stops false p s m so
stopped_leaves text.MoveFilled p s m so = move_stops false p s m so
stopped_leaves text.MoveTranslated p s m so = move_stops true p s m so
stopped_leaves text.MoveTranslatedUntil p s m so = escape_stops p s m so
stopped_leaves text.Compare p s m so = absurd (true≢false (sym so))
stopped_leaves text.CompareFilled p s m so = absurd (true≢false (sym so))
stopped_leaves text.Locate p s m so = absurd (true≢false (sym so))
stopped_leaves text.Skip p s m so = absurd (true≢false (sym so))
stopped_leaves text.Scan p s m so = absurd (true≢false (sym so))
stopped_leaves text.Span p s m so = absurd (true≢false (sym so))
stopped_leaves text.Match p s m so = absurd (true≢false (sym so))
