-- How many pinned pages are evicted.
use Rattle.std.proofs.Common.{ℕ, zero, suc, ◌≡◌, ◌+◌, ◌≤◌, ◌==◌, Bool, true, false, List, [], ◌∷◌, length, length-append, refl, ap, ◌∙◌, arith, inl, inr, Option, Some, None}
use Rattle.std.specs.Prelude.{if◌then◌else◌}
use Rattle.std.proofs.lemmas.Bool.{cases_Bool}
use Rattle.vax_outside.specs.Faults.{raised}
use Rattle.vax_flat.specs.declared.Ending.{Ending}
use Rattle.vax_flat.specs.Outcome.{first_missing}
use Rattle.vax_flat.specs.Parts.{machine_at, touches_at}
use Rattle.vax_pager.specs.Listing.{is_listed, leave_out}
use Rattle.vax_machine.proofs.Running.{served_pins}
use Rattle.vax_machine.proofs.Tracking.{many_evicted}
use Rattle.vax_machine.specs.Laws.{Run, state_at}
use Rattle.vax_machine.specs.Paged.{Paged, all_evicted, all_named, attempted, attempted_by, evicted, marked, paged, unless_ended}
use Rattle.vax_machine.specs.Residence.{Residence, is_resident, served, taken_out, victim, without_victim}
use Rattle.vax_machine.specs.declared.event.Limits.{Limits}
use Rattle.vax_machine_laws.proofs.Reaching.{run_turns, shorter}
use Rattle.vax_machine_laws.specs.Enough.{pages_due}
use Rattle.vax_machine_laws.specs.FlatRun.{GoesOnFor}

-- Each eviction of a pinned page takes a pin away, and each pin was a turn's.

out_fewer : (page : ℕ) (xs : List ℕ) → length (leave_out page xs) ≤ length xs
unfolding leave_out
out_fewer page [] = omega arith
out_fewer page (x ∷ xs) =
    let less = out_fewer page xs in
    elim (cases_Bool (x == page)) [
      | inl e ↦ rw e (omega (arith, less))
      | inr e ↦ rw e (omega (arith, less))
    ]

out_one : (page : ℕ) (xs : List ℕ) → is_listed page xs ≡ true → length (leave_out page xs) + 1 ≤ length xs
unfolding leave_out is_listed
out_one page [] h = cc
out_one page (x ∷ xs) h = elim (cases_Bool (x == page)) [
  | inl e ↦ let less = out_fewer page xs in rw e (omega (arith, less))
  | inr e ↦
      let there : is_listed page xs ≡ true = rw e at h in
      let less = out_one page xs there in
      rw e (omega (arith, less))
]

-- pins and evictions of pinned pages together, and these evictions alone
pub record Spends (r q : Residence) (pages : ℕ) : Type 0 where
  pub together : length q.pinned + q.spoiled ≤ length r.pinned + r.spoiled
  pub alone : q.spoiled ≤ r.spoiled + pages

taken_spends : (page : ℕ) (r : Residence) (b : Bool) → is_listed page r.pinned ≡ b
    → (length (leave_out page r.pinned) + (if b then raised r.spoiled else r.spoiled) ≤ length r.pinned + r.spoiled) × ((if b then raised r.spoiled else r.spoiled) ≤ r.spoiled + 1)
taken_spends page r true h = let less = out_one page r.pinned h in (omega (arith, less), omega arith)
taken_spends page r false h = let less = out_fewer page r.pinned in (omega (arith, less), omega arith)

out_spends : (page : ℕ) (r : Residence) → Spends r (taken_out page r) 1
unfolding taken_out
out_spends page r = elim (cases_Bool (is_listed page r.order)) [
  | inl t ↦ let s = taken_spends page r (is_listed page r.pinned) refl in rw t (record { together = s.0; alone = s.1 })
  | inr f ↦ rw f (record { together = omega arith; alone = omega arith })
]

evicted_spends : (page : ℕ) (p : Paged) → Spends p.residence (evicted page p).residence 1
unfolding evicted
evicted_spends page p = elim (cases_Bool (is_listed page p.residence.order)) [
  | inl t ↦ rw t (out_spends page p.residence)
  | inr f ↦ rw f (record { together = omega arith; alone = omega arith })
]

pub all_spend : (pages : List ℕ) (p : Paged) → Spends p.residence (all_evicted pages p).residence (length pages)
unfolding all_evicted
all_spend [] p = record { together = omega arith; alone = omega arith }
all_spend (page ∷ pages) p =
    let one = evicted_spends page p in
    let rest = all_spend pages (evicted page p) in
    let a = one.together in
    let b = one.alone in
    let c = rest.together in
    let d = rest.alone in
    record { together = omega (arith, a, c); alone = omega (arith, b, d) }

victim_spoils : (v : Option ℕ) (r : Residence) → (without_victim v r).spoiled ≡ r.spoiled
victim_spoils None r = refl
victim_spoils (Some page) r = refl

pub served_spoils : (page : ℕ) (r : Residence) → (served page r).spoiled ≡ r.spoiled
unfolding served
served_spoils page r = victim_spoils (victim r) r

attempt_spends : (m : Option ℕ) (p : Paged) → (length (attempted_by m p).residence.pinned + (attempted_by m p).residence.spoiled ≤ length p.residence.pinned + p.residence.spoiled + 1) × ((attempted_by m p).residence.spoiled ≡ p.residence.spoiled)
attempt_spends None p = (omega arith, refl)
attempt_spends (Some page) p =
    let s = served_spoils page p.residence in
    let l = ap length (served_pins page p.residence) ∙ length-append p.residence.pinned (page ∷ []) in
    (omega (arith, s, l), s)

turned : (m : Option ℕ) (p : Paged) → (attempted_by m p).turns ≡ p.turns + 1
turned None p = refl
turned (Some page) p = refl

pub record IsPaid (p q : Paged) : Type 0 where
  pub together : length q.residence.pinned + q.residence.spoiled + p.turns ≤ length p.residence.pinned + p.residence.spoiled + q.turns
  pub alone : q.residence.spoiled ≡ p.residence.spoiled

by_attempt : (m : Option ℕ) (p : Paged) → IsPaid p (attempted_by m p)
by_attempt m p =
    let s = attempt_spends m p in
    let a = s.0 in
    let t = turned m p in
    record { together = omega (arith, a, t); alone = s.1 }

unless_paid : (how : Option Ending) (p next : Paged) → IsPaid p next → IsPaid p (unless_ended how p next)
unless_paid (Some e) p next h = record { together = omega arith; alone = refl }
unless_paid None p next h = h

pub attempted_paid : (p : Paged) → IsPaid p (attempted p)
unfolding attempted
attempted_paid p =
    let h = by_attempt (first_missing (is_resident p.residence) (touches_at p.place)) (marked p) in
    unless_paid (machine_at p.place).ending p _ (record { together = h.together; alone = h.alone })

pub few_spoiled : (r : Run) (count : ℕ) → length (state_at r count).residence.pinned + (state_at r count).residence.spoiled ≤ (state_at r count).turns
unfolding paged
few_spoiled r zero = omega arith
few_spoiled r (suc count) =
    let q = state_at r count in
    let pages = all_named r.areas (r.asks (q.turns + 1)) in
    let before = few_spoiled r count in
    let here = (all_spend pages q).together in
    let same = (many_evicted pages q).turns in
    let next = (attempted_paid (all_evicted pages q)).together in
    omega (arith, before, here, same, next)

-- The pages that are due are no fewer.

pub due_spoiled : (limits : Limits) (r : Run) (count : ℕ) → GoesOnFor limits r count → (state_at r count).residence.spoiled ≤ pages_due r.areas r.asks count
unfolding paged pages_due
due_spoiled limits r zero goes = omega arith
due_spoiled limits r (suc count) goes =
    let q = state_at r count in
    let turns = run_turns limits r count (shorter limits r count goes) in
    let e : q.turns + 1 ≡ suc count = let t = turns.0 in omega (arith, t) in
    let pages = all_named r.areas (r.asks (q.turns + 1)) in
    let before = due_spoiled limits r count (shorter limits r count goes) in
    let here = (all_spend pages q).alone in
    let next = (attempted_paid (all_evicted pages q)).alone in
    let same = ap (λ (n : ℕ). length (all_named r.areas (r.asks n))) e in
    omega (arith, before, here, next, same)
