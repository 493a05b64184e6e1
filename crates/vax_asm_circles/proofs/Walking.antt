-- Definitions are walked over, from one on.
use Rattle.std.proofs.Common.{◌≡◌, ◌≤◌, ◌+◌, ℕ, suc, Bool, true, false, cond, List, [], ◌∷◌, ◌++◌, length, refl, ap, sym, ◌∙◌, subst, arith, ⊎_elim, ◌⊎◌, inl, inr, length-append}
use Rattle.std.proofs.lemmas.Bool.{or_cases, or_left, or_right, eqb-true, eq-eqb, false≢true}
use Rattle.std.proofs.lemmas.List.Folds.{list_any-append}
use Rattle.std.proofs.lemmas.Map.Made.{length-le_from_is_member}
use Rattle.std.specs.Cmp.{nat_eq_equiv}
use Rattle.std.specs.Prelude.{◌||◌, ◌==◌, nat_eq, if◌then◌else◌}
use Rattle.std.specs.List.{IsDistinct}
use Rattle.vax_asm_circles.specs.Circles.{Step, among, waits, size, leads}
use Rattle.vax_asm_circles.specs.Growing.{all_awaited}
use Rattle.vax_asm_circles.specs.Walks.{Met, Walked}
use Rattle.vax_asm_circles.proofs.Leading.{more_steps, one_further, met_at_last, at_once}

-- lists with one number more

pub among_left : (k : ℕ) (xs ys : List ℕ) → among k xs ≡ true → among k (xs ++ ys) ≡ true
among_left k xs ys e = list_any-append (nat_eq k) xs ys ∙ or_left (among k xs) (among k ys) e

pub among_last : (k x : ℕ) (xs : List ℕ) → k ≡ x → among k (xs ++ x ∷ []) ≡ true
among_last k x xs is = list_any-append (nat_eq k) xs (x ∷ []) ∙ or_right (among k xs) (nat_eq k x || false) (or_left (nat_eq k x) false (eq-eqb k x is))

pub among_one : (k x : ℕ) → among k (x ∷ []) ≡ true → k ≡ x
among_one k x e = ⊎_elim (eqb-true k x) (λ n. absurd (false≢true n)) (or_cases (nat_eq k x) false e)

pub among_before : (k x : ℕ) (xs : List ℕ) → among k (xs ++ x ∷ []) ≡ true → (among k xs ≡ true) ⊎ (k ≡ x)
among_before k x xs e = ⊎_elim (λ l. inl l) (λ r. inr (among_one k x r)) (or_cases (among k xs) (among k (x ∷ [])) (sym (list_any-append (nat_eq k) xs (x ∷ [])) ∙ e))

-- a list with one number more, wherever it stands
abbrev pub Adds : ℕ → List ℕ → List ℕ → Type 0
Adds x xs more = (k : ℕ) → among k more ≡ cond (nat_eq x k) true (among k xs)

old_or_true : (b c : Bool) → c ≡ true → cond b true c ≡ true
old_or_true true c e = refl
old_or_true false c e = e

new_or_old : (b c : Bool) → cond b true c ≡ true → (b ≡ true) ⊎ (c ≡ true)
new_or_old true c e = inl refl
new_or_old false c e = inr e

adds_old : (x : ℕ) (xs more : List ℕ) → Adds x xs more → (k : ℕ) → among k xs ≡ true → among k more ≡ true
adds_old x xs more adds k e = adds k ∙ old_or_true (nat_eq x k) (among k xs) e

adds_new : (x : ℕ) (xs more : List ℕ) → Adds x xs more → (k : ℕ) → k ≡ x → among k more ≡ true
adds_new x xs more adds k is = adds k ∙ ap (λ b. cond b true (among k xs)) (eq-eqb x k (sym is))

adds_only : (x : ℕ) (xs more : List ℕ) → Adds x xs more → (k : ℕ) → among k more ≡ true → (k ≡ x) ⊎ (among k xs ≡ true)
adds_only x xs more adds k e = ⊎_elim (λ is. inl (sym (eqb-true x k is))) (λ old. inr old) (new_or_old (nat_eq x k) (among k xs) (sym (adds k) ∙ e))

-- definitions are met one by one

pub none_met : (before work : List ℕ) → IsDistinct nat_eq before → Met [] before work before work
none_met before work d = record {
  all = λ k e. absurd (false≢true e);
  more = λ k e. e;
  new = λ k e. inl e;
  kept = λ k e. e;
  begun = λ k e. inl e;
  longer = omega arith;
  counted = refl;
  distinct = d;
}

pub first_met : (names before work after left more : List ℕ) (x : ℕ) → Met names before work after left → Adds x after more → length more ≡ length after + 1 → IsDistinct nat_eq more
    → Met (names ++ x ∷ []) before work more (left ++ x ∷ [])
first_met names before work after left more x m adds long distinct =
    let behind : length (left ++ x ∷ []) ≡ length left + 1 = length-append left (x ∷ []) in
    record {
      all = λ k e. ⊎_elim (λ old. adds_old x after more adds k (m.all k old)) (adds_new x after more adds k) (among_before k x names e);
      more = λ k e. adds_old x after more adds k (m.more k e);
      new = λ k e.
          ⊎_elim
          (λ is. inr (among_last k x names is, omega (arith, long, m.longer), among_last k x left is))
          (λ old. ⊎_elim (λ b. inl b) (λ n. inr (among_left k names (x ∷ []) n.0, omega (arith, long, n.1), among_left k left (x ∷ []) n.2)) (m.new k old))
          (adds_only x after more adds k e);
      kept = λ k e. among_left k left (x ∷ []) (m.kept k e);
      begun = λ k e.
          ⊎_elim
          (λ l. ⊎_elim (λ w. inl w) (λ a. inr (adds_old x after more adds k a)) (m.begun k l))
          (λ is. inr (adds_new x after more adds k is))
          (among_before k x left e);
      longer = omega (arith, long, m.longer);
      counted = omega (arith, long, behind, m.counted);
      distinct = distinct;
    }

pub met_again : (names before work after left : List ℕ) (x : ℕ) → Met names before work after left → among x after ≡ true → Met (names ++ x ∷ []) before work after left
met_again names before work after left x m there = record {
  all = λ k e. ⊎_elim (m.all k) (λ is. let P : ℕ → Type 0 = λ n. among n after ≡ true in subst P (sym is) there) (among_before k x names e);
  more = m.more;
  new = λ k e. ⊎_elim (λ b. inl b) (λ n. inr (among_left k names (x ∷ []) n.0, n.1, n.2)) (m.new k e);
  kept = m.kept;
  begun = m.begun;
  longer = m.longer;
  counted = m.counted;
  distinct = m.distinct;
}

-- the walk

pub walk_begins : (waits : ℕ → List ℕ) (awaited : List ℕ) (first : ℕ) (met : List ℕ) → met ≡ [] → IsDistinct nat_eq met → Walked waits awaited first met (first ∷ [])
walk_begins waits awaited first met none distinct =
    let nobody : (k : ℕ) → among k met ≡ true → ⊥ = λ k e. false≢true (sym (ap (among k) none) ∙ e) in
    record {
      reached = λ k e. absurd (nobody k e);
      closed = λ j k begun e. ⊎_elim (λ is. inr (among_last j first [] is)) (λ m. absurd (nobody j m)) begun;
      begun = λ j e. inl (among_one j first e);
      within = λ k e. absurd (nobody k e);
      distinct = distinct;
    }

still_begun : (names before work after left : List ℕ) (first j : ℕ) → Met names before work after left → (j ≡ first) ⊎ (among j before ≡ true) → (j ≡ first) ⊎ (among j after ≡ true)
still_begun names before work after left first j m (inl is) = inl is
still_begun names before work after left first j m (inr b) = inr (m.more j b)

next_reached : (waits : ℕ → List ℕ) (awaited : List ℕ) (first next k : ℕ) (met work : List ℕ) → Walked waits awaited first met work → (next ≡ first) ⊎ (among next met ≡ true) → among k (waits next) ≡ true
    → leads (suc (length met)) waits k first ≡ true
next_reached waits awaited first next k met work w (inl is) e =
    let P : ℕ → Type 0 = λ j. among k (waits j) ≡ true in
    more_steps 1 (suc (length met)) waits k first (omega arith) (at_once waits k first (subst P is e))
next_reached waits awaited first next k met work w (inr m) e = one_further (length met) waits first next k (w.reached next m) e

pub walked_on : (waits : ℕ → List ℕ) (awaited : List ℕ) (first next : ℕ) (met rest after left : List ℕ) → Walked waits awaited first met (rest ++ next ∷ []) → Met (waits next) met rest after left
    → ((k : ℕ) → among k (waits next) ≡ true → among k awaited ≡ true) → Walked waits awaited first after left
walked_on waits awaited first next met rest after left w m bound =
    let begun : (next ≡ first) ⊎ (among next met ≡ true) = w.begun next (among_last next next rest refl) in
    record {
      reached = λ k e.
          ⊎_elim
          (λ b. more_steps (length met) (length after) waits k first m.longer (w.reached k b))
          (λ n. more_steps (suc (length met)) (length after) waits k first (omega (arith, n.1)) (next_reached waits awaited first next k met (rest ++ next ∷ []) w begun n.0))
          (m.new k e);
      closed = λ j k from e.
          let here : (j ≡ first) ⊎ (among j met ≡ true) → (among k after ≡ true) ⊎ (among j left ≡ true) =
          λ f. ⊎_elim
          (λ l. inl (m.more k l))
          (λ l. ⊎_elim (λ r. inr (m.kept j r)) (λ is. let P : ℕ → Type 0 = λ n. among k (waits n) ≡ true in inl (m.all k (subst P is e))) (among_before j next rest l))
          (w.closed j k f e) in
          ⊎_elim (λ is. here (inl is)) (λ a. ⊎_elim (λ b. here (inr b)) (λ n. inr n.2) (m.new j a)) from;
      begun = λ j e.
          ⊎_elim
          (λ r. still_begun (waits next) met rest after left first j m (w.begun j (among_left j rest (next ∷ []) r)))
          (λ a. inr a)
          (m.begun j e);
      within = λ k e. ⊎_elim (w.within k) (λ n. bound k n.0) (m.new k e);
      distinct = m.distinct;
    }

-- at most all are met
pub met_within : (waits : ℕ → List ℕ) (awaited : List ℕ) (first : ℕ) (met work : List ℕ) → Walked waits awaited first met work → length met ≤ length awaited
met_within waits awaited first met work w = length-le_from_is_member nat_eq_equiv met awaited w.distinct w.within

same_truth : (a b : Bool) → (a ≡ true → b ≡ true) → (b ≡ true → a ≡ true) → a ≡ b
same_truth true b there back = sym (there refl)
same_truth false true there back = back refl
same_truth false false there back = refl

pub walk_ends : (waits : ℕ → List ℕ) (awaited : List ℕ) (first : ℕ) (met work : List ℕ) → length work ≡ 0 → Walked waits awaited first met work → among first met ≡ leads (length awaited) waits first first
walk_ends waits awaited first met (j ∷ work) none w = absurd (omega (arith, none))
walk_ends waits awaited first met [] none w =
    same_truth (among first met) (leads (length awaited) waits first first)
    (λ e. more_steps (length met) (length awaited) waits first first (met_within waits awaited first met [] w) (w.reached first e))
    (met_at_last waits first met (λ j k begun e. ⊎_elim (λ m. m) (λ n. absurd (false≢true n)) (w.closed j k begun e)) (length awaited) first first (inl refl))

-- all for which any definition waits
pub length-all_awaited : (steps : List Step) → length (all_awaited steps) ≡ size steps
unfolding all_awaited size
length-all_awaited [] = refl
length-all_awaited (s ∷ steps) = length-append s.to (all_awaited steps) ∙ ap (λ n. length s.to + n) (length-all_awaited steps)

among_right : (k : ℕ) (xs ys : List ℕ) → among k ys ≡ true → among k (xs ++ ys) ≡ true
among_right k xs ys e = list_any-append (nat_eq k) xs ys ∙ or_right (among k xs) (among k ys) e

one_awaited : (b : Bool) (k : ℕ) (xs ys rest : List ℕ) → (among k ys ≡ true → among k rest ≡ true) → among k (if b then xs else ys) ≡ true → among k (xs ++ rest) ≡ true
one_awaited true k xs ys rest more e = among_left k xs rest e
one_awaited false k xs ys rest more e = among_right k xs rest (more e)

pub awaited_within : (steps : List Step) (i k : ℕ) → among k (waits steps i) ≡ true → among k (all_awaited steps) ≡ true
unfolding waits all_awaited
awaited_within [] i k e = e
awaited_within (s ∷ steps) i k e = one_awaited (s.from == i) k s.to (waits steps i) (all_awaited steps) (awaited_within steps i k) e
