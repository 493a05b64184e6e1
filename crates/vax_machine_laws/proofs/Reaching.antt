-- A paged run is where the flat machine's run comes.
use Rattle.std.proofs.Common.{ℕ, zero, suc, ◌≡◌, ◌+◌, ◌-◌, ◌<◌, ◌≤◌, Bool, true, false, nat_le, List, refl, ap, sym, ◌∙◌, subst, arith, Option, Some, None}
use Rattle.std.proofs.lemmas.Bool.Decides.{nat_tests}
use Rattle.vax_space.specs.declared.Area.{Area}
use Rattle.vax_flat.specs.declared.Ending.{Ending}
use Rattle.vax_flat.specs.Outcome.{first_missing}
use Rattle.vax_flat.specs.Parts.{Partway, Place, At, Within, Turn, Completes, Leaves, left_by, machine_at, touches_at, turn}
use Rattle.vax_flat.specs.Step.{Flat, run, step}
use Rattle.vax_flat.proofs.Parts.{turns_agree}
use Rattle.vax_flat.proofs.Runs.{going_back, step_ended}
use Rattle.vax_sched.specs.declared.rule.Target.{Target}
use Rattle.vax_machine.proofs.Following.{goes_ending, goes_further, one_further, part_ending}
use Rattle.vax_machine.proofs.Halting.{going_on, turn_counted}
use Rattle.vax_machine.proofs.Tracking.{many_evicted}
use Rattle.vax_machine.specs.Laws.{Run, state_at}
use Rattle.vax_machine.specs.Paged.{Paged, Why, ByEnding, BySteps, ByTurns, all_evicted, all_named, attempted, attempted_by, fresh, marked, next_turn, paged, place_after, steps_after, stop_by, stops, unless_ended}
use Rattle.vax_machine.specs.Residence.{is_resident}
use Rattle.vax_machine.specs.declared.event.Limits.{Limits}
use Rattle.vax_machine_laws.specs.FlatRun.{GoesOnFor, IsUnfinished, Reaches, Stage, StopsSo, stage_of}

-- where a run comes within a limit of steps: within a step only where steps are left

pub record Comes (limit : ℕ) (start : Flat) (s : Stage) : Type 0 where
  pub reaches : Reaches start s
  pub within : s.steps ≤ limit
  pub inside : (q : Partway) → s.place ≡ Within q → (q.now.ending ≡ None) × (s.steps < limit)

abbrev stage_behind : Turn → Stage → Stage
stage_behind t s = record { steps = steps_after t s.steps; place = place_after t }

pub comes_further : (t : Turn) (limit : ℕ) (start : Flat) (s : Stage) → turn s.place ≡ t → (machine_at s.place).ending ≡ None → s.steps < limit → Comes limit start s → Comes limit start (stage_behind t s)
comes_further (Completes next) limit start s is going left c =
    let alive : (run s.steps start).ending ≡ None = sym (goes_ending (run s.steps start) s.place c.reaches.goes) ∙ going in
    record {
      reaches = record {
        goes = one_further s.steps (s.steps + 1) start next refl (turns_agree (run s.steps start) s.place next alive c.reaches.goes is);
        going = λ i low.
            let e : (s.steps - i) + i ≡ s.steps = omega (arith, low) in
            going_back i (s.steps - i) start (ap (λ (n : ℕ). (run n start).ending) e ∙ alive);
      };
      within = omega (arith, left);
      inside = λ q e. cc;
    }
comes_further (Leaves p) limit start s is going left c = record {
  reaches = record { goes = goes_further (run s.steps start) s.place p c.reaches.goes is; going = c.reaches.going };
  within = c.within;
  inside = λ q e.
      let same : p ≡ q = cc in
      (ap (λ (z : Partway). z.now.ending) (sym same) ∙ (part_ending s.place p (ap left_by is) ∙ going), left);
}

by_attempt : (m : Option ℕ) (limit : ℕ) (start : Flat) (p : Paged) → (machine_at p.place).ending ≡ None → p.steps < limit → Comes limit start (stage_of p) → Comes limit start (stage_of (attempted_by m p))
by_attempt None limit start p going left c = comes_further (turn p.place) limit start (stage_of p) refl going left c
by_attempt (Some page) limit start p going left c = c

unless_comes : (how : Option Ending) (limit : ℕ) (start : Flat) (p next : Paged) → Comes limit start (stage_of p) → Comes limit start (stage_of next) → Comes limit start (stage_of (unless_ended how p next))
unless_comes (Some e) limit start p next a b = a
unless_comes None limit start p next a b = b

attempted_comes : (limit : ℕ) (start : Flat) (p : Paged) → (machine_at p.place).ending ≡ None → p.steps < limit → Comes limit start (stage_of p) → Comes limit start (stage_of (attempted p))
unfolding attempted
attempted_comes limit start p going left c =
    unless_comes (machine_at p.place).ending limit start p _ c (by_attempt (first_missing (is_resident p.residence) (touches_at p.place)) limit start (marked p) going left c)

pub same_stage : (pages : List ℕ) (p : Paged) → stage_of (all_evicted pages p) ≡ stage_of p
same_stage pages p = let o = many_evicted pages p in λ i. record { steps = o.steps i; place = o.place i }

turn_comes : (areas : List Area) (asks : ℕ → List Target) (limit : ℕ) (start : Flat) (p : Paged) → (machine_at p.place).ending ≡ None → p.steps < limit → Comes limit start (stage_of p) → Comes limit start (stage_of (next_turn areas asks p))
turn_comes areas asks limit start p going left c =
    let pages = all_named areas (asks (p.turns + 1)) in
    let o = many_evicted pages p in
    let s = o.steps in
    attempted_comes limit start (all_evicted pages p) (ap (λ (z : Place). (machine_at z).ending) o.place ∙ going) (omega (arith, s, left))
    (subst (Comes limit start) (sym (same_stage pages p)) c)

pub starts : (limit frames : ℕ) (start : Flat) → Comes limit start (stage_of (fresh frames start))
unfolding run
starts limit frames start = record {
  reaches = record { goes = refl; going = λ i low. absurd (omega (arith, low)) };
  within = omega arith;
  inside = λ q e. cc;
}

pub shorter : (limits : Limits) (r : Run) (count : ℕ) → GoesOnFor limits r (suc count) → GoesOnFor limits r count
shorter limits r count g = record { going = λ i low. g.going i (omega (arith, low)) }

pub run_comes : (limits : Limits) (r : Run) (count : ℕ) → GoesOnFor limits r count → Comes limits.steps r.start (stage_of (state_at r count))
unfolding paged
run_comes limits r zero goes = starts limits.steps r.frames r.start
run_comes limits r (suc count) goes =
    let g = going_on limits (state_at r count) (goes.going count (omega arith)) in
    turn_comes r.areas r.asks limits.steps r.start (state_at r count) g.ending g.steps (run_comes limits r count (shorter limits r count goes))

-- as many turns were made as are counted, within their limit
pub run_turns : (limits : Limits) (r : Run) (count : ℕ) → GoesOnFor limits r count → ((state_at r count).turns ≡ count) × (count ≤ limits.turns)
unfolding paged
run_turns limits r zero goes = (refl, omega arith)
run_turns limits r (suc count) goes =
    let g = going_on limits (state_at r count) (goes.going count (omega arith)) in
    let before = run_turns limits r count (shorter limits r count goes) in
    let more = turn_counted r.areas r.asks (state_at r count) g.ending in
    let b = before.0 in
    let t = g.turns in
    (omega (arith, more, b), omega (arith, b, t))

-- where it stops

stays : (more steps : ℕ) (start : Flat) (e : Ending) → (run steps start).ending ≡ Some e → run (more + steps) start ≡ run steps start
unfolding run
stays zero steps start e is = let k : zero + steps ≡ steps = omega arith in ap (λ (n : ℕ). run n start) k
stays (suc more) steps start e is =
    let k : suc more + steps ≡ suc (more + steps) = omega arith in
    ap (λ (n : ℕ). run n start) k ∙ (ap step (stays more steps start e is) ∙ step_ended (run steps start) e is)

ended_stays : (limit steps : ℕ) (start : Flat) (e : Ending) → steps ≤ limit → (run steps start).ending ≡ Some e → run limit start ≡ run steps start
ended_stays limit steps start e within is =
    let k : (limit - steps) + steps ≡ limit = omega (arith, within) in
    sym (ap (λ (n : ℕ). run n start) k) ∙ stays (limit - steps) steps start e is

abbrev StoppedBy : Why → Option Ending → (steps turns : Bool) → Type 0
StoppedBy (ByEnding e) how steps turns = how ≡ Some e
StoppedBy BySteps how steps turns = (how ≡ None) × (steps ≡ true)
StoppedBy ByTurns how steps turns = (how ≡ None) × (steps ≡ false) × (turns ≡ true)

stopped_by : (why : Why) (how : Option Ending) (steps turns : Bool) → stop_by how steps turns ≡ Some why → StoppedBy why how steps turns
stopped_by why (Some e) steps turns h = let k : ByEnding e ≡ why = cc in subst (λ (w : Why). StoppedBy w (Some e) steps turns) k refl
stopped_by why None true turns h = let k : BySteps ≡ why = cc in subst (λ (w : Why). StoppedBy w None true turns) k (refl, refl)
stopped_by why None false true h = let k : ByTurns ≡ why = cc in subst (λ (w : Why). StoppedBy w None false true) k (refl, refl, refl)
stopped_by why None false false h = cc

there : (why : Why) (turns : Bool) (limit : ℕ) (start : Flat) (steps : ℕ) (place : Place) → StoppedBy why (machine_at place).ending (nat_le limit steps) turns → Comes limit start (record { steps = steps; place = place })
    → StopsSo why limit start (record { steps = steps; place = place })
there (ByEnding e) turns limit start steps (At m) h c =
    let is : (run steps start).ending ≡ Some e = ap (λ (z : Flat). z.ending) (sym c.reaches.goes) ∙ h in
    let whole = ended_stays limit steps start e c.within is in
    (record { place = ap At (c.reaches.goes ∙ sym whole); within = c.within }, ap (λ (z : Flat). z.ending) whole ∙ is)
there (ByEnding e) turns limit start steps (Within q) h c =
    let none = (c.inside q refl).0 in
    let bad : None ≡ Some e = sym none ∙ h in
    cc
there BySteps turns limit start steps (At m) h c =
    let full = h.1 in
    let w = c.within in
    let most : limit ≤ steps = grind (arith, nat_tests, full) in
    let same : steps ≡ limit = omega (arith, most, w) in
    let is : m ≡ run limit start = c.reaches.goes ∙ ap (λ (n : ℕ). run n start) same in
    (record { place = ap At is; within = c.within }, ap (λ (z : Flat). z.ending) (sym is) ∙ h.0, same)
there BySteps turns limit start steps (Within q) h c =
    let full = h.1 in
    let left = (c.inside q refl).1 in
    let most : limit ≤ steps = grind (arith, nat_tests, full) in
    absurd (omega (arith, most, left))
there ByTurns turns limit start steps place h c = let left = h.1 in record { ending = h.0; left = grind (arith, nat_tests, left) }

pub stops_there : (why : Why) (limits : Limits) (start : Flat) (p : Paged) → stops limits.steps limits.turns p ≡ Some why → Comes limits.steps start (stage_of p) → StopsSo why limits.steps start (stage_of p)
unfolding stops
stops_there why limits start p is c =
    there why (nat_le limits.turns p.turns) limits.steps start p.steps p.place (stopped_by why (machine_at p.place).ending (nat_le limits.steps p.steps) (nat_le limits.turns p.turns) is) c

pub turns_out : (limits : Limits) (p : Paged) → stops limits.steps limits.turns p ≡ Some ByTurns → limits.turns ≤ p.turns
unfolding stops
turns_out limits p is =
    let h = stopped_by ByTurns (machine_at p.place).ending (nat_le limits.steps p.steps) (nat_le limits.turns p.turns) is in
    let full = h.2 in
    grind (arith, nat_tests, full)

pub unfinished_there : (limits : Limits) (p : Paged) → stops limits.steps limits.turns p ≡ Some ByTurns → IsUnfinished limits.steps (stage_of p)
unfolding stops
unfinished_there limits p is =
    let h = stopped_by ByTurns (machine_at p.place).ending (nat_le limits.steps p.steps) (nat_le limits.turns p.turns) is in
    let left = h.1 in
    record { ending = h.0; left = grind (arith, nat_tests, left) }
