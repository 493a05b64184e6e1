-- A paged run completes the parts of the flat machine's steps, one after the other.
use Rattle.std.proofs.Common.{ℕ, zero, suc, ◌≡◌, ◌+◌, ◌-◌, ◌<◌, ◌≤◌, true, false, List, refl, ap, sym, ◌∙◌, subst, arith, inl, inr, Option, Some, None}
use Rattle.std.specs.Prelude.{IsSome}
use Rattle.std.proofs.lemmas.Bool.{cases_lt}
use Rattle.vax_flat.specs.declared.Ending.{Ending}
use Rattle.vax_flat.specs.Outcome.{first_missing}
use Rattle.vax_flat.specs.Parts.{Turn, Completes, Leaves, machine_at, touches_at, turn}
use Rattle.vax_flat.specs.Step.{Flat}
use Rattle.vax_machine.proofs.Tracking.{many_evicted}
use Rattle.vax_machine.specs.Laws.{Run, state_at}
use Rattle.vax_machine.specs.Paged.{Paged, all_evicted, all_named, attempted, attempted_by, marked, paged, steps_after, unless_ended}
use Rattle.vax_machine.specs.Residence.{is_resident}
use Rattle.vax_machine_laws.proofs.Reaching.{same_stage}
use Rattle.vax_machine_laws.specs.FlatRun.{IsOver, IsUnfinished, Stage, next_stage, stage, stage_of}

by_attempt : (m : Option ℕ) (start : Flat) (p : Paged) → (machine_at p.place).ending ≡ None → stage_of p ≡ stage start p.parts → stage_of (attempted_by m p) ≡ stage start (attempted_by m p).parts
unfolding stage
by_attempt (Some page) start p going h = h
by_attempt None start p going h =
    let k : p.parts + 1 ≡ suc p.parts = omega arith in
    let e : next_stage (machine_at p.place).ending (stage_of p) ≡ next_stage (machine_at (stage start p.parts).place).ending (stage start p.parts) = ap (λ (s : Stage). next_stage (machine_at s.place).ending s) h in
    ap (λ (x : Option Ending). next_stage x (stage_of p)) (sym going) ∙ (e ∙ ap (stage start) (sym k))

unless_stage : (how : Option Ending) (start : Flat) (p next : Paged) → (machine_at p.place).ending ≡ how → stage_of p ≡ stage start p.parts → ((machine_at p.place).ending ≡ None → stage_of next ≡ stage start next.parts) → stage_of (unless_ended how p next) ≡ stage start (unless_ended how p next).parts
unless_stage (Some e) start p next is h more = h
unless_stage None start p next is h more = more is

attempted_stage : (start : Flat) (p : Paged) → stage_of p ≡ stage start p.parts → stage_of (attempted p) ≡ stage start (attempted p).parts
unfolding attempted
attempted_stage start p h =
    unless_stage (machine_at p.place).ending start p _ refl h (λ going. by_attempt (first_missing (is_resident p.residence) (touches_at p.place)) start (marked p) going h)

evicted_stage : (pages : List ℕ) (start : Flat) (p : Paged) → stage_of p ≡ stage start p.parts → stage_of (all_evicted pages p) ≡ stage start (all_evicted pages p).parts
evicted_stage pages start p h = same_stage pages p ∙ (h ∙ ap (stage start) (sym (many_evicted pages p).parts))

pub run_stages : (r : Run) (count : ℕ) → stage_of (state_at r count) ≡ stage r.start (state_at r count).parts
unfolding paged stage
run_stages r zero = refl
run_stages r (suc count) =
    let q = state_at r count in
    let pages = all_named r.areas (r.asks (q.turns + 1)) in
    attempted_stage r.start (all_evicted pages q) (evicted_stage pages r.start q (run_stages r count))

-- a run that is over stays so

steps_grow : (t : Turn) (steps : ℕ) → steps ≤ steps_after t steps
steps_grow (Completes m) steps = omega arith
steps_grow (Leaves p) steps = omega arith

pub over_next : (how : Option Ending) (limit : ℕ) (s : Stage) → (machine_at s.place).ending ≡ how → IsOver limit s → IsOver limit (next_stage how s)
over_next (Some e) limit s is h = h
over_next None limit s is (inl x) = let no : false ≡ true = subst (λ (o : Option Ending). IsSome o) is x in cc
over_next None limit s is (inr most) = let more = steps_grow (turn s.place) s.steps in inr (omega (arith, most, more))

over_more : (more parts limit : ℕ) (start : Flat) → IsOver limit (stage start parts) → IsOver limit (stage start (more + parts))
unfolding stage
over_more zero parts limit start h = let k : zero + parts ≡ parts = omega arith in subst (λ (n : ℕ). IsOver limit (stage start n)) (sym k) h
over_more (suc more) parts limit start h =
    let k : suc more + parts ≡ suc (more + parts) = omega arith in
    let s = stage start (more + parts) in
    subst (λ (n : ℕ). IsOver limit (stage start n)) (sym k) (over_next (machine_at s.place).ending limit s refl (over_more more parts limit start h))

pub not_over : (limit : ℕ) (s : Stage) → IsUnfinished limit s → IsOver limit s → ⊥
not_over limit s u (inl x) = let no : false ≡ true = subst (λ (o : Option Ending). IsSome o) u.ending x in cc
not_over limit s u (inr most) = let l = u.left in absurd (omega (arith, most, l))

-- where a run isn't over, fewer parts were completed than it has
pub fewer_parts : (limit made parts : ℕ) (start : Flat) (s : Stage) → s ≡ stage start made → IsUnfinished limit s → IsOver limit (stage start parts) → made < parts
fewer_parts limit made parts start s is u over = elim (cases_lt made parts) [
  | inl less ↦ less
  | inr most ↦
      let k : (made - parts) + parts ≡ made = omega (arith, most) in
      absurd (not_over limit (stage start made) (subst (IsUnfinished limit) is u) (subst (λ (n : ℕ). IsOver limit (stage start n)) k (over_more (made - parts) parts limit start over)))
]
