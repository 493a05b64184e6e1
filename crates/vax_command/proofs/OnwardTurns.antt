-- Enough turns end a run that goes on within a step of the flat machine's run, or between two.
use Rattle.std.proofs.Common.{ℕ, zero, suc, ◌≡◌, ◌+◌, ◌-◌, ◌^◌, ◌<◌, ◌≤◌, true, false, List, length, refl, ap, sym, ◌∙◌, subst, arith, inl, inr, Option, Some, None}
use Rattle.std.proofs.lemmas.Bool.{cases_lt}
use Rattle.vax_space.specs.declared.Area.{Area}
use Rattle.vax_space.specs.Faults.{IsSpace}
use Rattle.vax_flat.specs.declared.Ending.{Ending}
use Rattle.vax_flat.specs.Outcome.{first_missing}
use Rattle.vax_flat.specs.Parts.{Place, machine_at, touches_at}
use Rattle.vax_flat.specs.Port.{layout}
use Rattle.vax_sched.specs.declared.rule.Target.{Target}
use Rattle.vax_sched.specs.Due.{due}
use Rattle.vax_pager.specs.Listing.{AreOnce, is_listed}
use Rattle.vax_machine.proofs.Bound.{begun_bounded, few_turns, paged_bounded}
use Rattle.vax_machine.proofs.Halting.{going_on, turn_counted}
use Rattle.vax_machine.proofs.Tracking.{many_evicted}
use Rattle.vax_machine.specs.Paged.{ByTurns, Paged, Why, all_evicted, all_named, attempted, attempted_by, begun_at, marked, paged, unless_ended}
use Rattle.vax_machine.specs.Residence.{is_resident}
use Rattle.vax_machine.specs.Run.{FewTurns, Runs}
use Rattle.vax_machine_laws.proofs.Parting.{not_over, over_next}
use Rattle.vax_machine_laws.proofs.Reaching.{same_stage, turns_out, unfinished_there}
use Rattle.vax_machine_laws.proofs.Spoiling.{all_spend, attempted_paid}
use Rattle.vax_machine_laws.specs.Enough.{pages_due}
use Rattle.vax_machine_laws.specs.FlatRun.{IsOver, IsUnfinished, Stage, next_stage, stage_of}
use Rattle.vax_command.specs.Course.{Course, Halt, turned}
use Rattle.vax_command.specs.Onward.{IsTooLow, stage_on}
use Rattle.vax_command.proofs.OnwardLaws.{shorter}

-- It completes the parts behind its first stage, one after the other.
module _ (s : Stage) where
  attempt_on : (m : Option ℕ) (p : Paged) → (machine_at p.place).ending ≡ None → stage_of p ≡ stage_on s p.parts → stage_of (attempted_by m p) ≡ stage_on s (attempted_by m p).parts
  unfolding stage_on
  attempt_on (Some page) p going h = h
  attempt_on None p going h =
      let k : p.parts + 1 ≡ suc p.parts = omega arith in
      let e : next_stage (machine_at p.place).ending (stage_of p) ≡ next_stage (machine_at (stage_on s p.parts).place).ending (stage_on s p.parts) = ap (λ (z : Stage). next_stage (machine_at z.place).ending z) h in
      ap (λ (x : Option Ending). next_stage x (stage_of p)) (sym going) ∙ (e ∙ ap (stage_on s) (sym k))

  unless_on : (how : Option Ending) (p next : Paged) → (machine_at p.place).ending ≡ how → stage_of p ≡ stage_on s p.parts → ((machine_at p.place).ending ≡ None → stage_of next ≡ stage_on s next.parts) → stage_of (unless_ended how p next) ≡ stage_on s (unless_ended how p next).parts
  unless_on (Some e) p next is h more = h
  unless_on None p next is h more = more is

  attempted_on : (p : Paged) → stage_of p ≡ stage_on s p.parts → stage_of (attempted p) ≡ stage_on s (attempted p).parts
  unfolding attempted
  attempted_on p h =
      unless_on (machine_at p.place).ending p _ refl h (λ going. attempt_on (first_missing (is_resident p.residence) (touches_at p.place)) (marked p) going h)

  evicted_on : (pages : List ℕ) (p : Paged) → stage_of p ≡ stage_on s p.parts → stage_of (all_evicted pages p) ≡ stage_on s (all_evicted pages p).parts
  evicted_on pages p h = same_stage pages p ∙ (h ∙ ap (stage_on s) (sym (many_evicted pages p).parts))

  -- a run that is over stays so
  over_on : (more parts limit : ℕ) → IsOver limit (stage_on s parts) → IsOver limit (stage_on s (more + parts))
  unfolding stage_on
  over_on zero parts limit h = let k : zero + parts ≡ parts = omega arith in subst (λ (n : ℕ). IsOver limit (stage_on s n)) (sym k) h
  over_on (suc more) parts limit h =
      let k : suc more + parts ≡ suc (more + parts) = omega arith in
      let at = stage_on s (more + parts) in
      subst (λ (n : ℕ). IsOver limit (stage_on s n)) (sym k) (over_next (machine_at at.place).ending limit at refl (over_on more parts limit h))

  fewer_on : (limit made parts : ℕ) (at : Stage) → at ≡ stage_on s made → IsUnfinished limit at → IsOver limit (stage_on s parts) → made < parts
  fewer_on limit made parts at is u over = elim (cases_lt made parts) [
    | inl less ↦ less
    | inr most ↦
        let k : (made - parts) + parts ≡ made = omega (arith, most) in
        absurd (not_over limit (stage_on s made) (subst (IsUnfinished limit) is u) (subst (λ (n : ℕ). IsOver limit (stage_on s n)) k (over_on (made - parts) parts limit over)))
  ]

stages_on : (areas : List Area) (asks : ℕ → List Target) (b : Paged) → b.parts ≡ 0 → (count : ℕ) → stage_of (paged areas asks count b) ≡ stage_on (stage_of b) (paged areas asks count b).parts
unfolding paged stage_on
stages_on areas asks b none zero = ap (stage_on (stage_of b)) (sym none)
stages_on areas asks b none (suc count) =
    let q = paged areas asks count b in
    let pages = all_named areas (asks (q.turns + 1)) in
    attempted_on (stage_of b) (all_evicted pages q) (evicted_on (stage_of b) pages q (stages_on areas asks b none count))

-- how many turns were made, and how many pinned pages were evicted in them
record HasSpent (c : Course) (count : ℕ) : Type 0 where
  pub turns : (turned c count).turns ≡ count
  pub within : (turned c count).turns ≤ c.limits.turns
  pub together : length (turned c count).residence.pinned + (turned c count).residence.spoiled ≤ (turned c count).turns
  pub due : (turned c count).residence.spoiled ≤ pages_due c.areas (due c.rules) count

module _ (c : Course) (frames steps : ℕ) (place : Place) (begins : c.begins ≡ begun_at frames steps place) where
  spends : (count : ℕ) → Runs c.limits c.areas c.rules c.begins count → HasSpent c count
  unfolding paged pages_due
  spends zero goes =
      let t = ap (λ (p : Paged). p.turns) begins in
      let s = ap (λ (p : Paged). p.residence.spoiled) begins in
      let l = ap (λ (p : Paged). length p.residence.pinned) begins in
      record { turns = t; within = omega (arith, t); together = omega (arith, t, s, l); due = omega (arith, s) }
  spends (suc count) goes =
      let q = turned c count in
      let h = spends count (shorter c count goes) in
      let g = going_on c.limits q (goes.going count (omega arith)) in
      let pages = all_named c.areas (due c.rules (q.turns + 1)) in
      let here = all_spend pages q in
      let paid = attempted_paid (all_evicted pages q) in
      let same = (many_evicted pages q).turns in
      let more = turn_counted c.areas (due c.rules) q g.ending in
      let a = h.turns in
      let b = g.turns in
      let d = h.together in
      let e = here.together in
      let f = paid.together in
      let i = h.due in
      let j = here.alone in
      let k = paid.alone in
      let n : q.turns + 1 ≡ suc count = omega (arith, a) in
      let named = ap (λ (z : ℕ). length (all_named c.areas (due c.rules z))) n in
      record {
        turns = omega (arith, a, more);
        within = omega (arith, b, more);
        together = omega (arith, d, e, f, same);
        due = omega (arith, i, j, k, named);
      }

few_from : (areas : List Area) (asks : ℕ → List Target) (frames steps : ℕ) (place : Place) → IsSpace areas → layout (machine_at place).memory ≡ layout areas → (count : ℕ) → FewTurns (begun_at frames steps place) (paged areas asks count (begun_at frames steps place))
unfolding is_listed AreOnce
few_from areas asks frames steps place space memory count =
    let b = begun_at frames steps place in
    let bounded =
    begun_bounded areas b memory (record { touched = λ page k. let no : false ≡ true = k in cc }) tt (λ page k. let no : false ≡ true = k in cc) (λ page k. let no : false ≡ true = k in cc) in
    few_turns areas b (paged areas asks count b) (paged_bounded areas asks count b b space bounded)

pub too_low : (c : Course) (frames steps : ℕ) (place : Place) → c.begins ≡ begun_at frames steps place → IsSpace c.areas → layout (machine_at place).memory ≡ layout c.areas → c.limits.turns < 2 ^ 64 - 1 → (h : Halt c) → h.why ≡ ByTurns → IsTooLow c h.count
too_low c frames steps place begins space memory low h why =
    let p = turned c h.count in
    let spent = spends c frames steps place begins h.count h.goes in
    let stopped = h.stopped ∙ ap (λ (w : Why). Some w) why in
    let out = turns_out c.limits p stopped in
    let within = spent.within in
    let together = spent.together in
    let few : FewTurns c.begins p = subst (λ (b : Paged). FewTurns b (paged c.areas (due c.rules) h.count b)) (sym begins) (few_from c.areas (due c.rules) frames steps place space memory h.count) in
    let pins = few.pins in
    let turns = few.turns (omega (arith, together, within, low)) in
    let b0 = ap (λ (z : Paged). z.turns) begins in
    let b1 = ap (λ (z : Paged). z.parts) begins in
    record {
      few = λ parts over.
          let less = fewer_on (stage_of c.begins) c.limits.steps p.parts parts (stage_of p) (stages_on c.areas (due c.rules) c.begins b1 h.count) (unfinished_there c.limits p stopped) over in
          omega (arith, out, pins, turns, less, b0, b1);
      spoiled = spent.due;
    }
