-- A run of a session's machine makes the steps of the session.
use Rattle.std.proofs.Common.{◌≡◌, ◌<◌, ◌≤◌, ◌⊎◌, ◌+◌, ◌-◌, ℕ, zero, suc, Bool, true, false, nat_le, List, Option, Some, None, refl, sym, ap, subst, ◌∙◌, inl, inr, arith}
use Rattle.std.proofs.lemmas.Bool.Decides.{nat_tests}
use Rattle.vax_space.specs.declared.Area.{Area}
use Rattle.vax_flat.specs.declared.Ending.{Ending}
use Rattle.vax_flat.specs.Outcome.{first_missing}
use Rattle.vax_flat.specs.Parts.{Place, At, Turn, Completes, Leaves, GoesBy, machine_at, touches_at, turn}
use Rattle.vax_flat.specs.Step.{Flat, run, step, step_from}
use Rattle.vax_sched.specs.Due.{due}
use Rattle.vax_sched.specs.declared.rule.Rule.{Rule}
use Rattle.vax_machine.specs.Events.{GoesOn}
use Rattle.vax_machine.specs.Paged.{Paged, all_evicted, all_named, attempted, attempted_by, marked, paged, steps_after, stop_by, stops, unless_ended}
use Rattle.vax_machine.specs.Residence.{is_resident}
use Rattle.vax_machine.specs.Run.{Runs}
use Rattle.vax_machine.specs.declared.event.Limits.{Limits}
use Rattle.vax_machine.proofs.Following.{paged_follows}
use Rattle.vax_machine.proofs.Tracking.{many_evicted}
use Rattle.vax_console.specs.Transcript.{Session, advanced, step_by, stepped}
use Rattle.vax_console.proofs.Outputs.{goes_ending}

-- a machine that ended stays

stays : (how : Option Ending) (m : Flat) (e : Ending) → m.ending ≡ how → step_from how m ≡ step m → how ≡ Some e → step m ≡ m
stays how m e is s h = sym s ∙ rw h refl

ended_stays : (m : Flat) (e : Ending) → m.ending ≡ Some e → step m ≡ m
ended_stays m e h = rw h refl

one_alive : (how : Option Ending) (m : Flat) → m.ending ≡ how → (step m).ending ≡ None → m.ending ≡ None
one_alive None m is h = is
one_alive (Some e) m is h = sym (ap (λ (z : Flat). z.ending) (ended_stays m e is)) ∙ h

pub advanced_ended : (count : ℕ) (s : Session) (e : Ending) → s.machine.ending ≡ Some e → advanced count s ≡ s
unfolding advanced
advanced_ended zero s e h = refl
advanced_ended (suc count) s e h = rw (advanced_ended count s e h, h) refl

advanced_more : (more count : ℕ) (s : Session) (e : Ending) → (advanced count s).machine.ending ≡ Some e → advanced (more + count) s ≡ advanced count s
unfolding advanced
advanced_more zero count s e h =
    let is : zero + count ≡ count = omega arith in
    ap (λ (n : ℕ). advanced n s) is
advanced_more (suc more) count s e h =
    let is : suc more + count ≡ suc (more + count) = omega arith in
    ap (λ (n : ℕ). advanced n s) is ∙ rw (advanced_more more count s e h, h) refl

-- nothing comes behind an ending
pub advanced_stays : (most count : ℕ) (s : Session) (e : Ending) → count ≤ most → (advanced count s).machine.ending ≡ Some e → advanced most s ≡ advanced count s
advanced_stays most count s e l h =
    let is : most ≡ (most - count) + count = omega (arith, l) in
    ap (λ (n : ℕ). advanced n s) is ∙ advanced_more (most - count) count s e h

-- as long as a run goes on, each of its steps is counted

counted : (count : ℕ) (s : Session) → (run count s.machine).ending ≡ None → advanced count s ≡ record { machine = run count s.machine; steps = s.steps + count } → stepped (advanced count s) ≡ record { machine = step (run count s.machine); steps = s.steps + suc count }
counted count s going before =
    let t : Session = record { machine = run count s.machine; steps = s.steps + count } in
    let e : s.steps + count + 1 ≡ s.steps + suc count = omega arith in
    ap stepped before ∙ (ap (λ (h : Option Ending). step_by h t) going ∙ ap (λ (n : ℕ). record { machine = step (run count s.machine); steps = n }) e)

alive_advanced : (count : ℕ) (s : Session) → (run count s.machine).ending ≡ None → advanced count s ≡ record { machine = run count s.machine; steps = s.steps + count }
unfolding advanced run
alive_advanced zero s h = let e : s.steps ≡ s.steps + 0 = omega arith in ap (λ (n : ℕ). record { machine = s.machine; steps = n }) e
alive_advanced (suc count) s h =
    let before : (run count s.machine).ending ≡ None = one_alive (run count s.machine).ending (run count s.machine) refl h in
    counted count s before (alive_advanced count s before)

one_more : (count : ℕ) (s : Session) → (run count s.machine).ending ≡ None → advanced (suc count) s ≡ record { machine = run (suc count) s.machine; steps = s.steps + suc count }
unfolding advanced run
one_more count s h = counted count s h (alive_advanced count s h)

-- a turn makes one step at most

by_turn : (t : Turn) (steps : ℕ) → (steps_after t steps ≡ steps) ⊎ (steps_after t steps ≡ steps + 1)
by_turn (Completes m) steps = inr refl
by_turn (Leaves p) steps = inl refl

by_attempt : (missing : Option ℕ) (p : Paged) → ((attempted_by missing p).steps ≡ p.steps) ⊎ ((attempted_by missing p).steps ≡ p.steps + 1)
by_attempt None p = by_turn (turn p.place) p.steps
by_attempt (Some page) p = inl refl

by_ending : (how : Option Ending) (p next : Paged) → (next.steps ≡ p.steps) ⊎ (next.steps ≡ p.steps + 1) → ((unless_ended how p next).steps ≡ p.steps) ⊎ ((unless_ended how p next).steps ≡ p.steps + 1)
by_ending None p next h = h
by_ending (Some e) p next h = inl refl

one_attempt : (p : Paged) → ((attempted p).steps ≡ p.steps) ⊎ ((attempted p).steps ≡ p.steps + 1)
unfolding attempted
one_attempt p =
    let missing = first_missing (is_resident p.residence) (touches_at p.place) in
    by_ending (machine_at p.place).ending p (attempted_by missing (marked p)) (by_attempt missing (marked p))

one_turn : (areas : List Area) (rules : List Rule) (count : ℕ) (b : Paged) → ((paged areas (due rules) (suc count) b).steps ≡ (paged areas (due rules) count b).steps) ⊎ ((paged areas (due rules) (suc count) b).steps ≡ (paged areas (due rules) count b).steps + 1)
unfolding paged
one_turn areas rules count b =
    let p = paged areas (due rules) count b in
    let q = all_evicted (all_named areas (due rules (p.turns + 1))) p in
    let same = (many_evicted (all_named areas (due rules (p.turns + 1))) p).steps in
    elim (one_attempt q) [
      | inl stay ↦ inl (stay ∙ same)
      | inr more ↦ inr (more ∙ ap (λ (n : ℕ). n + 1) same)
    ]

-- where a run has come to

-- it made so many of the session's steps
pub record Makes (s : Session) (most : ℕ) (p : Paged) : Type 0 where
  pub made : ℕ
  pub few : made ≤ most
  pub steps : p.steps ≡ s.steps + made
  pub same : (advanced made s).steps ≡ s.steps + made
  pub goes : GoesBy (advanced made s).machine p.place

not_stopped : (how : Option Ending) (steps turns : Bool) → stop_by how steps turns ≡ None → (how ≡ None) × (steps ≡ false)
not_stopped None false false h = (refl, refl)
not_stopped None false true h = absurd (cc h)
not_stopped None true turns h = absurd (cc h)
not_stopped (Some e) steps turns h = absurd (cc h)

pub is_below : (a b : ℕ) → nat_le a b ≡ false → b < a
is_below a b h = grind (arith, nat_tests)

goes_as : (s : Session) (n : ℕ) (place : Place) (t : Session) → advanced n s ≡ t → GoesBy t.machine place → GoesBy (advanced n s).machine place
goes_as s n place t e g = subst (λ (z : Session). GoesBy z.machine place) (sym e) g

steps_as : (s : Session) (n : ℕ) (m : Flat) → advanced n s ≡ record { machine = m; steps = s.steps + n } → (advanced n s).steps ≡ s.steps + n
steps_as s n m e = ap (λ (z : Session). z.steps) e

-- one that goes on
alive_makes : (s : Session) (most : ℕ) (p : Paged) → GoesOn s.steps s.machine p → (machine_at p.place).ending ≡ None → p.steps ≤ s.steps + most → Makes s most p
alive_makes s most p g alive few =
    let going : (run g.made s.machine).ending ≡ None = sym (goes_ending (run g.made s.machine) p.place g.goes) ∙ alive in
    let is = alive_advanced g.made s going in
    record {
      made = g.made;
      few = let k = g.steps in omega (arith, k, few);
      steps = g.steps;
      same = steps_as s g.made _ is;
      goes = goes_as s g.made p.place _ is g.goes;
    }

-- one behind another that goes on
next_makes : (s : Session) (most : ℕ) (p q : Paged) → GoesOn s.steps s.machine p → (machine_at p.place).ending ≡ None → p.steps < s.steps + most → GoesOn s.steps s.machine q → (q.steps ≡ p.steps) ⊎ (q.steps ≡ p.steps + 1) → Makes s most q
next_makes s most p q g alive few h (inl stay) =
    let going : (run g.made s.machine).ending ≡ None = sym (goes_ending (run g.made s.machine) p.place g.goes) ∙ alive in
    let a = g.steps in let b = h.steps in
    let made : h.made ≡ g.made = omega (arith, a, b, stay) in
    let is = alive_advanced h.made s (ap (λ (n : ℕ). (run n s.machine).ending) made ∙ going) in
    record {
      made = h.made;
      few = omega (arith, a, few, made);
      steps = h.steps;
      same = steps_as s h.made _ is;
      goes = goes_as s h.made q.place _ is h.goes;
    }
next_makes s most p q g alive few h (inr more) =
    let going : (run g.made s.machine).ending ≡ None = sym (goes_ending (run g.made s.machine) p.place g.goes) ∙ alive in
    let a = g.steps in let b = h.steps in
    let made : suc g.made ≡ h.made = omega (arith, a, b, more) in
    let is : advanced h.made s ≡ record { machine = run h.made s.machine; steps = s.steps + h.made } =
    subst (λ (n : ℕ). advanced n s ≡ record { machine = run n s.machine; steps = s.steps + n }) made (one_more g.made s going) in
    record {
      made = h.made;
      few = omega (arith, a, few, made);
      steps = h.steps;
      same = steps_as s h.made _ is;
      goes = goes_as s h.made q.place _ is h.goes;
    }

at_start : (s : Session) (most : ℕ) (b : Paged) → GoesBy s.machine b.place → b.steps ≡ s.steps → Makes s most b
unfolding advanced
at_start s most b by steps = record {
  made = 0;
  few = omega arith;
  steps = omega (arith, steps);
  same = omega arith;
  goes = by;
}

turns_go_on : (areas : List Area) (rules : List Rule) (count : ℕ) (b : Paged) (s : Session) → GoesBy s.machine b.place → b.steps ≡ s.steps → GoesOn s.steps s.machine (paged areas (due rules) count b)
unfolding run
turns_go_on areas rules count b s by steps =
    paged_follows areas (due rules) count b s.steps s.machine (record { made = 0; steps = omega (arith, steps); goes = by })

-- a run from a place by which the session's next step goes, and that wasn't stopped before, is through so many of the session's steps
pub run_makes_by : (limits : Limits) (areas : List Area) (rules : List Rule) (count most : ℕ) (b : Paged) (s : Session) → GoesBy s.machine b.place → b.steps ≡ s.steps → limits.steps ≡ s.steps + most → Runs limits areas rules b count → Makes s most (paged areas (due rules) count b)
unfolding paged stops
run_makes_by limits areas rules zero most b s by steps limit goes = at_start s most b by steps
run_makes_by limits areas rules (suc count) most b s by steps limit goes =
    let p = paged areas (due rules) count b in
    let on = goes.going count (omega arith) in
    let n = not_stopped (machine_at p.place).ending (nat_le limits.steps p.steps) (nat_le limits.turns p.turns) on in
    let below = is_below limits.steps p.steps n.1 in
    let low : p.steps < s.steps + most = omega (arith, below, limit) in
    next_makes s most p (paged areas (due rules) (suc count) b) (turns_go_on areas rules count b s by steps) n.0 low (turns_go_on areas rules (suc count) b s by steps) (one_turn areas rules count b)

-- so is one from where it begins
pub run_makes : (limits : Limits) (areas : List Area) (rules : List Rule) (count most : ℕ) (b : Paged) (s : Session) → b.place ≡ At s.machine → b.steps ≡ s.steps → limits.steps ≡ s.steps + most → Runs limits areas rules b count → Makes s most (paged areas (due rules) count b)
run_makes limits areas rules count most b s place steps limit goes =
    run_makes_by limits areas rules count most b s (subst (λ (z : Place). GoesBy s.machine z) (sym place) refl) steps limit goes
