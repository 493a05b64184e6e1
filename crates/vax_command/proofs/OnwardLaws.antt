-- Turns that begin within a step of a flat machine's run go by that run.
use Rattle.std.proofs.Common.{ℕ, zero, suc, ◌≡◌, ◌+◌, ◌<◌, ◌≤◌, Bool, nat_le, List, refl, ap, sym, ◌∙◌, subst, arith, inl, inr, Option, Some, None}
use Rattle.std.proofs.lemmas.Bool.{cases_Bool, cases_lt}
use Rattle.std.proofs.lemmas.Bool.Decides.{nat_tests}
use Rattle.vax_space.specs.declared.Area.{Area}
use Rattle.vax_flat.specs.declared.Ending.{Ending}
use Rattle.vax_flat.specs.Outcome.{first_missing}
use Rattle.vax_flat.specs.Parts.{GoesBy, Place, Turn, Completes, Leaves, machine_at, touches_at, turn}
use Rattle.vax_flat.specs.Step.{Flat, run}
use Rattle.vax_sched.specs.declared.rule.Target.{Target}
use Rattle.vax_sched.specs.Due.{due}
use Rattle.vax_machine.proofs.Following.{goes_ending}
use Rattle.vax_machine.proofs.Halting.{going_on}
use Rattle.vax_machine.proofs.Tracking.{many_evicted}
use Rattle.vax_machine.specs.Paged.{Paged, all_evicted, all_named, attempted, attempted_by, marked, next_turn, paged, place_after, steps_after, stop_by, stops, unless_ended}
use Rattle.vax_machine.specs.Residence.{is_resident}
use Rattle.vax_machine.specs.Run.{Runs}
use Rattle.vax_machine.specs.declared.event.Limits.{Limits}
use Rattle.vax_machine_laws.proofs.Reaching.{Comes, comes_further, same_stage, stops_there}
use Rattle.vax_machine_laws.specs.FlatRun.{Reaches, Stage, stage_of}
use Rattle.vax_command.specs.Course.{Course, Halt, halted_at, turned}
use Rattle.vax_command.specs.Onward.{GoesByFlat, ReachesOn, StopsOn}

-- where the steps that were made since the beginning lead, within a limit of their own
record ComesOn (limit first : ℕ) (start : Flat) (s : Stage) : Type 0 where
  pub made : ℕ
  pub steps : s.steps ≡ first + made
  pub comes : Comes limit start (record { steps = made; place = s.place })

module _ (limit first : ℕ) (start : Flat) where
  further_on : (t : Turn) (s : Stage) → turn s.place ≡ t → (machine_at s.place).ending ≡ None → s.steps < first + limit → ComesOn limit first start s → ComesOn limit first start (record { steps = steps_after t s.steps; place = place_after t })
  further_on (Completes next) s is going left c =
      let e = c.steps in
      record { made = c.made + 1; steps = omega (arith, e); comes = comes_further (Completes next) limit start (record { steps = c.made; place = s.place }) is going (omega (arith, e, left)) c.comes }
  further_on (Leaves p) s is going left c =
      let e = c.steps in
      record { made = c.made; steps = e; comes = comes_further (Leaves p) limit start (record { steps = c.made; place = s.place }) is going (omega (arith, e, left)) c.comes }

  by_attempt : (m : Option ℕ) (p : Paged) → (machine_at p.place).ending ≡ None → p.steps < first + limit → ComesOn limit first start (stage_of p) → ComesOn limit first start (stage_of (attempted_by m p))
  by_attempt None p going left c = further_on (turn p.place) (stage_of p) refl going left c
  by_attempt (Some page) p going left c = c

  unless_comes : (how : Option Ending) (p next : Paged) → ComesOn limit first start (stage_of p) → ComesOn limit first start (stage_of next) → ComesOn limit first start (stage_of (unless_ended how p next))
  unless_comes (Some e) p next a b = a
  unless_comes None p next a b = b

  attempted_comes : (p : Paged) → (machine_at p.place).ending ≡ None → p.steps < first + limit → ComesOn limit first start (stage_of p) → ComesOn limit first start (stage_of (attempted p))
  unfolding attempted
  attempted_comes p going left c =
      unless_comes (machine_at p.place).ending p _ c (by_attempt (first_missing (is_resident p.residence) (touches_at p.place)) (marked p) going left c)

  turn_comes : (areas : List Area) (asks : ℕ → List Target) (p : Paged) → (machine_at p.place).ending ≡ None → p.steps < first + limit → ComesOn limit first start (stage_of p) → ComesOn limit first start (stage_of (next_turn areas asks p))
  turn_comes areas asks p going left c =
      let pages = all_named areas (asks (p.turns + 1)) in
      let o = many_evicted pages p in
      let s = o.steps in
      attempted_comes (all_evicted pages p) (ap (λ (z : Place). (machine_at z).ending) o.place ∙ going) (omega (arith, s, left))
      (subst (ComesOn limit first start) (sym (same_stage pages p)) c)

pub shorter : (c : Course) (count : ℕ) → Runs c.limits c.areas c.rules c.begins (suc count) → Runs c.limits c.areas c.rules c.begins count
shorter c count g = record { going = λ i low. g.going i (omega (arith, low)) }

-- what is known of turns that begin within a step of this start, or at it
module _ (c : Course) (first limit : ℕ) (start : Flat) (most : c.limits.steps ≡ first + limit) (counted : c.begins.steps ≡ first) (going : start.ending ≡ None) (goes : GoesBy start c.begins.place) where
  reaches_first : Reaches start (record { steps = 0; place = c.begins.place })
  unfolding run
  reaches_first = record { goes = goes; going = λ i low. absurd (omega (arith, low)) }

  comes_first : 0 < limit → ComesOn limit first start (stage_of c.begins)
  comes_first some = record {
    made = 0;
    steps = omega (arith, counted);
    comes = record {
      reaches = reaches_first;
      within = omega arith;
      inside = λ q e. (ap (λ (z : Place). (machine_at z).ending) (sym e) ∙ (goes_ending start c.begins.place goes ∙ going), some);
    };
  }

  comes_on : 0 < limit → (count : ℕ) → Runs c.limits c.areas c.rules c.begins count → ComesOn limit first start (stage_of (turned c count))
  unfolding paged
  comes_on some zero g = comes_first some
  comes_on some (suc count) g =
      let p = turned c count in
      let more = going_on c.limits p (g.going count (omega arith)) in
      let left = more.steps in
      turn_comes limit first start c.areas (due c.rules) p more.ending (omega (arith, left, most)) (comes_on some count (shorter c count g))

  reaches_by : limit ≤ 0 → (count : ℕ) → Runs c.limits c.areas c.rules c.begins count → ReachesOn first start (stage_of (turned c count))
  unfolding paged
  reaches_by none zero g = record { made = 0; steps = omega (arith, counted); reaches = reaches_first }
  reaches_by none (suc count) g =
      let more = going_on c.limits c.begins (g.going 0 (omega arith)) in
      let left = more.steps in
      absurd (omega (arith, left, most, counted, none))

  reaches_on : (count : ℕ) → Runs c.limits c.areas c.rules c.begins count → ReachesOn first start (stage_of (turned c count))
  reaches_on count g = elim (cases_lt 0 limit) [
    | inl some ↦ let w = comes_on some count g in record { made = w.made; steps = w.steps; reaches = w.comes.reaches }
    | inr none ↦ reaches_by none count g
  ]

  same_limit : (made steps : ℕ) → steps ≡ first + made → nat_le c.limits.steps steps ≡ nat_le limit made
  same_limit made steps e = elim (cases_Bool (nat_le limit made)) [
    | inl t ↦ rw t (let l : limit ≤ made = grind (arith, nat_tests, t) in let m : c.limits.steps ≤ steps = omega (arith, e, most, l) in grind (arith, nat_tests, m))
    | inr f ↦ rw f (let l : made < limit = grind (arith, nat_tests, f) in let m : steps < c.limits.steps = omega (arith, e, most, l) in grind (arith, nat_tests, m))
  ]

  stops_on : 0 < limit → (h : Halt c) → StopsOn h.why limit first start (halted_at c h)
  unfolding stops
  stops_on some h =
      let p = turned c h.count in
      let w = comes_on some h.count h.goes in
      let own : Limits = record c.limits { steps = limit } in
      let e : stop_by (machine_at p.place).ending (nat_le limit w.made) (nat_le c.limits.turns p.turns) ≡ Some h.why =
      ap (λ (b : Bool). stop_by (machine_at p.place).ending b (nat_le c.limits.turns p.turns)) (sym (same_limit w.made p.steps w.steps)) ∙ h.stopped in
      record { made = w.made; steps = w.steps; stops = stops_there h.why own start (record p { steps = w.made }) e w.comes }

  pub goes_by_flat : GoesByFlat c first limit start
  goes_by_flat = record { reaches = reaches_on; stops = stops_on }
