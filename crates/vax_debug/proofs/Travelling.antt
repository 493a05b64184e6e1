-- Steps up to a stop are the first of a session's steps.
use Rattle.std.proofs.Common.{◌≡◌, ◌<◌, ◌≤◌, ◌+◌, ◌-◌, ℕ, zero, suc, Bool, true, false, if◌then◌else◌, Option, None, Some, refl, ap, subst, sym, ◌∙◌, arith, below_more}
use Rattle.vax_flat.specs.declared.Ending.{Ending}
use Rattle.vax_console.specs.Transcript.{Session, advanced, step_by, stepped}
use Rattle.vax_debug.specs.Travel.{AreFirstSteps, Stops, has_halted, travelled}

-- so many steps, and then so many
pub advanced_behind : (n i : ℕ) (s : Session) → advanced n (advanced i s) ≡ advanced (n + i) s
unfolding advanced
advanced_behind zero i s = let is : i ≡ zero + i = omega arith in ap (λ (k : ℕ). advanced k s) is
advanced_behind (suc n) i s =
    let is : suc (n + i) ≡ suc n + i = omega arith in
    ap stepped (advanced_behind n i s) ∙ ap (λ (k : ℕ). advanced k s) is

pub one_advanced : (i : ℕ) (s : Session) → stepped (advanced i s) ≡ advanced (i + 1) s
unfolding advanced
one_advanced i s = let is : suc i ≡ i + 1 = omega arith in ap (λ (k : ℕ). advanced k s) is

pub none_advanced : (s : Session) → s ≡ advanced 0 s
unfolding advanced
none_advanced s = refl

pub only_one : (s : Session) → advanced 1 s ≡ stepped s
unfolding advanced
only_one s = refl

step_count : (how : Option Ending) (s : Session) → (step_by how s).steps ≤ s.steps + 1
step_count (Some e) s = omega arith
step_count None s = omega arith

-- each step is counted once at most
pub few_steps : (n : ℕ) (s : Session) → (advanced n s).steps ≤ s.steps + n
unfolding advanced
few_steps zero s = omega arith
few_steps (suc n) s =
    let here = step_count (advanced n s).machine.ending (advanced n s) in
    let before = few_steps n s in
    omega (arith, here, before)

-- by what is behind the next step

by_halt : (b : Bool) (t u : Session) → b ≡ true → (if b then t else u) ≡ t
by_halt true t u h = refl
by_halt false t u h = absurd (cc h)

by_going : (b : Bool) (t u : Session) → b ≡ false → (if b then t else u) ≡ u
by_going true t u h = absurd (cc h)
by_going false t u h = refl

next_of : (count i : ℕ) (stops : Stops) (s : Session) → i < count → travelled count stops s ≡ travelled (count - i) stops (advanced i s) →
    travelled count stops s ≡ travelled (suc (count - (i + 1))) stops (advanced i s)
next_of count i stops s below rest =
    let more : count - i ≡ suc (count - (i + 1)) = omega (arith, below) in
    rest ∙ ap (λ (k : ℕ). travelled k stops (advanced i s)) more

pub travel_halts : (count i : ℕ) (stops : Stops) (s : Session) → i < count → travelled count stops s ≡ travelled (count - i) stops (advanced i s) →
    has_halted stops (stepped (advanced i s)) ≡ true → travelled count stops s ≡ stepped (advanced i s)
unfolding travelled
travel_halts count i stops s below rest halted =
    next_of count i stops s below rest
    ∙ by_halt (has_halted stops (stepped (advanced i s))) (stepped (advanced i s)) (travelled (count - (i + 1)) stops (stepped (advanced i s))) halted

pub travel_goes : (count i : ℕ) (stops : Stops) (s : Session) → i < count → travelled count stops s ≡ travelled (count - i) stops (advanced i s) →
    has_halted stops (stepped (advanced i s)) ≡ false → travelled count stops s ≡ travelled (count - (i + 1)) stops (advanced (i + 1) s)
unfolding travelled
travel_goes count i stops s below rest going =
    next_of count i stops s below rest
    ∙ (by_going (has_halted stops (stepped (advanced i s))) (stepped (advanced i s)) (travelled (count - (i + 1)) stops (stepped (advanced i s))) going
    ∙ ap (travelled (count - (i + 1)) stops) (one_advanced i s))

pub travel_begins : (count : ℕ) (stops : Stops) (s : Session) → travelled count stops s ≡ travelled (count - 0) stops (advanced 0 s)
unfolding advanced
travel_begins count stops s = let is : count ≡ count - 0 = omega arith in ap (λ (k : ℕ). travelled k stops s) is

pub travel_ends : (count i : ℕ) (stops : Stops) (s : Session) → count ≤ i → travelled count stops s ≡ travelled (count - i) stops (advanced i s) → travelled count stops s ≡ advanced i s
unfolding travelled
travel_ends count i stops s all rest = let none : count - i ≡ zero = omega (arith, all) in rest ∙ ap (λ (k : ℕ). travelled k stops (advanced i s)) none

-- the law

-- behind each of the first so many steps, but for none, it isn't to stop
abbrev pub GoesOn : Stops → Session → ℕ → Type 0
GoesOn stops s i = (k : ℕ) → k < i + 1 → 1 ≤ k → has_halted stops (advanced k s) ≡ false

first_by : (b : Bool) (left i : ℕ) (stops : Stops) (s : Session) → GoesOn stops s i → has_halted stops (advanced (i + 1) s) ≡ b →
    (GoesOn stops s (i + 1) → AreFirstSteps (left + (i + 1)) stops s (travelled left stops (advanced (i + 1) s))) →
    AreFirstSteps (suc left + i) stops s (if b then advanced (i + 1) s else travelled left stops (advanced (i + 1) s))
first_by true left i stops s before here more = record {
  made = i + 1;
  few = omega arith;
  is = refl;
  going = λ k one below. before k below one;
  halted = λ l. here;
}
first_by false left i stops s before here more =
    let count : left + (i + 1) ≡ suc left + i = omega arith in
    let going : GoesOn stops s (i + 1) = below_more (λ (k : ℕ). 1 ≤ k → has_halted stops (advanced k s) ≡ false) (i + 1) before (λ one. here) in
    subst (λ (n : ℕ). AreFirstSteps n stops s (travelled left stops (advanced (i + 1) s))) count (more going)

-- the first of some steps, from behind so many of them on
pub first_from : (left i : ℕ) (stops : Stops) (s : Session) → GoesOn stops s i → AreFirstSteps (left + i) stops s (travelled left stops (advanced i s))
unfolding travelled
first_from zero i stops s before = record {
  made = i;
  few = omega arith;
  is = refl;
  going = λ k one below. before k (omega (arith, below)) one;
  halted = λ l. absurd (omega (arith, l));
}
first_from (suc left) i stops s before =
    subst (λ (t : Session). AreFirstSteps (suc left + i) stops s (if has_halted stops t then t else travelled left stops t)) (sym (one_advanced i s))
    (first_by (has_halted stops (advanced (i + 1) s)) left i stops s before refl (λ more. first_from left (i + 1) stops s more))

pub travels_first : (count : ℕ) (stops : Stops) (s : Session) → AreFirstSteps count stops s (travelled count stops s)
unfolding advanced
travels_first count stops s =
    let all : count + 0 ≡ count = omega arith in
    subst (λ (n : ℕ). AreFirstSteps n stops s (travelled count stops s)) all (first_from count 0 stops s (λ k below one. absurd (omega (arith, below, one))))
