-- A step touches few windows and pages, and only string instructions leave parts.
use Rattle.std.proofs.Common.{◌≡◌, ◌⊎◌, ℕ, suc, zero, ◌+◌, ◌*◌, ◌^◌, ◌<◌, ◌≤◌, false, List, [], ◌∷◌, ◌++◌, length, refl, ap, sym, subst, ◌∙◌, length-append, inl, inr, arith}
use Rattle.vax_space.specs.declared.Area.{Area}
use Rattle.vax_space.specs.Reference.{page_of, byte_after}
use Rattle.vax_isa.specs.declared.actions.Action.{Action}
use Rattle.vax_flat.specs.declared.Exception.{Exception}
use Rattle.vax_flat.specs.declared.Flow.{Flow}
use Rattle.vax_flat.specs.State.{State, register}
use Rattle.vax_flat.specs.Accesses.{Leaf}
use Rattle.vax_flat.specs.Outcome.{Outcome, Ends, Raised, Range, outcome_of, touches_of}
use Rattle.vax_flat.specs.Instruction.{acted}
use Rattle.vax_flat.specs.Step.{Flat, state_of, leaf, whole_delivery, touches_after}
use Rattle.vax_flat.specs.Bound.{place, IsCovered, AreCovered, LieIn, IsOneOf, AreOn, AreFew, IsWhole, LeavesNoPart, is_string}
use Rattle.vax_flat.proofs.Closed.{covered_behind, all_covered, touches_lie, leaves_no_part}
use Rattle.vax_flat.proofs.Windows.{near_here}
use Rattle.vax_flat.proofs.Bounds.{acted_adds, delivered_adds}

-- the two pages of each window
abbrev pages_of : List ℕ → List ℕ
pages_of [] = []
pages_of (w ∷ ws) = page_of (byte_after w 0) ∷ page_of (byte_after w 511) ∷ pages_of ws

pages_twice : (ws : List ℕ) → length (pages_of ws) ≡ 2 * length ws
pages_twice [] = refl
pages_twice (w ∷ ws) = let e = pages_twice ws in omega arith

-- a byte of a window is in one of its two pages
in_two : (w k : ℕ) → k < 512 → page_of (place w k) < 2 ^ 23 → (page_of (place w k) ≡ page_of (byte_after w 0)) ⊎ (page_of (place w k) ≡ page_of (byte_after w 511))
in_two w zero h inside = inl (let e : w ≡ byte_after w 0 = omega arith in ap page_of e)
in_two w (suc k) h inside = grind arith

-- the bytes of a range in a window are bytes of the window
place_within : (w offset k : ℕ) → place (place w offset) k ≡ place w (offset + k)
place_within w zero k = let e : 0 + k ≡ k = omega arith in ap (place w) (sym e)
place_within w (suc offset) zero = let e : suc offset + 0 ≡ suc offset = omega arith in ap (place w) (sym e)
place_within w (suc offset) (suc k) =
    let e : suc offset + suc k ≡ suc (offset + suc k) = omega arith in
    subst (λ n. place (place w (suc offset)) (suc k) ≡ place w n) (sym e) (omega arith)

covered_page : (ws : List ℕ) (addr len : ℕ) → IsCovered ws addr len → (k : ℕ) → k < len → page_of (place addr k) < 2 ^ 23 → IsOneOf (pages_of ws) (page_of (place addr k))
covered_page [] addr len c k h inside = absurd c
covered_page (w ∷ ws) addr len (inr rest) k h inside = inr (inr (covered_page ws addr len rest k h inside))
covered_page (w ∷ ws) addr len (inl here) k h inside =
    let ends = here.ends in
    let e : place addr k ≡ place w (here.offset + k) = subst (λ a. place a k ≡ place w (here.offset + k)) (sym here.begins) (place_within w here.offset k) in
    let page : page_of (place w (here.offset + k)) < 2 ^ 23 = subst (λ b. page_of b < 2 ^ 23) e inside in
    elim (in_two w (here.offset + k) (omega arith) page) [
      | inl first ↦ inl (ap page_of e ∙ first)
      | inr second ↦ inr (inl (ap page_of e ∙ second))
    ]

covered_pages : (ws : List ℕ) (ranges : List Range) → AreCovered ws ranges → AreOn (pages_of ws) ranges
covered_pages ws [] c = tt
covered_pages ws (range ∷ ranges) c = (covered_page ws range.addr range.len c.0, covered_pages ws ranges c.1)

few_of : (ws : List ℕ) (ranges : List Range) → length ws ≤ 20 → AreCovered ws ranges → AreFew ranges
few_of ws ranges few c = record {
  windows = ws;
  few_windows = few;
  covered = c;
  pages = pages_of ws;
  few_pages = (let e = pages_twice ws in omega arith);
  on = covered_pages ws ranges c;
}

covered_ahead : (ws more : List ℕ) (addr len : ℕ) → IsCovered more addr len → IsCovered (ws ++ more) addr len
covered_ahead [] more addr len c = c
covered_ahead (w ∷ ws) more addr len c = inr (covered_ahead ws more addr len c)

both_covered : (ws : List ℕ) (xs ys : List Range) → AreCovered ws xs → AreCovered ws ys → AreCovered ws (xs ++ ys)
both_covered ws [] ys cx cy = cy
both_covered ws (x ∷ xs) ys cx cy = (cx.0, both_covered ws xs ys cx.1 cy)

pub joined : (n m : ℕ) (xs ys : List Range) → n + m ≤ 20 → LieIn [] n xs → LieIn [] m ys → AreFew (xs ++ ys)
joined n m xs ys few x y =
    few_of (x.others ++ y.others) (xs ++ ys) (let a = x.few in let b = y.few in simp length-append (omega arith))
    (both_covered _ xs ys (all_covered x.others (x.others ++ y.others) (λ addr len c. covered_behind x.others y.others addr len c) xs x.covered)
    (all_covered y.others (x.others ++ y.others) (λ addr len c. covered_ahead x.others y.others addr len c) ys y.covered))

pub nothing : (how : Flow) (t : State) → IsWhole how → (memory : List Area) → LieIn [] 0 (touches_of (leaf how t) memory)
unfolding touches_of
nothing how t h memory = record { others = []; few = omega arith; covered = tt }

pub touched_after : (m : Flat) (outcome : Outcome Leaf) → LieIn [] 2 (touches_after m outcome)
touched_after m (Ends x memory) = record { others = []; few = omega arith; covered = tt }
touched_after m (Raised e) = delivered_adds _ touches_lie [] 0 leaf nothing e (state_of m) m.memory

pub whole_leaf : (how : Flow) (t : State) → IsWhole how → (memory : List Area) → LeavesNoPart (outcome_of (leaf how t) memory)
unfolding outcome_of
whole_leaf how t h memory = h

pub acts_whole : (a : Action) → is_string a ≡ false → (s : State) (memory : List Area) → LeavesNoPart (outcome_of (acted a s leaf) memory)
acts_whole a h s memory = acted_adds _ leaves_no_part (register s 15) [] 0 leaf whole_leaf a h s 0 (omega arith) (near_here s) memory

pub delivers_whole : (e : Exception) (s : State) (memory : List Area) → LeavesNoPart (outcome_of (whole_delivery e s) memory)
delivers_whole e s memory = delivered_adds _ leaves_no_part [] 0 leaf whole_leaf e s memory
