-- How many attempts each event costs.
use Rattle.std.proofs.Common.{ℕ, ◌≡◌, ◌+◌, ◌-◌, ◌^◌, ◌<◌, ◌≤◌, ◌==◌, Bool, true, false, List, [], ◌∷◌, length, length-append, if◌then◌else◌, refl, ap, sym, ◌∙◌, subst, arith, inl, inr, Option, Some, None}
use Rattle.std.proofs.lemmas.Bool.Decides.{nat_tests}
use Rattle.std.proofs.lemmas.Bool.{cases_Bool}
use Rattle.vax_outside.specs.Blocks.{BlockFile}
use Rattle.vax_outside.specs.Faults.{raised}
use Rattle.vax_flat.specs.declared.Ending.{Ending}
use Rattle.vax_pager.specs.Listing.{AreOnce, is_listed, leave_out}
use Rattle.vax_pager.specs.Meaning.{pages}
use Rattle.vax_pager.proofs.Listing.{out_none}
use Rattle.vax_machine.proofs.Bound.{one_fewer}
use Rattle.vax_machine.specs.Machine.{Applies, Evicts, Flushes, IsTry, Keeping, Rises, Serves, Spends, Tries, keeping, missed_cost, residence, tried}
use Rattle.vax_machine.specs.Residence.{Residence, eased, served, taken_out, victim, without_victim}
use Rattle.vax_machine.specs.declared.engine.Engine.{Engine}
use Rattle.vax_machine.specs.declared.event.Applied.{Applied}
use Rattle.vax_machine.specs.declared.event.Applied.TheVariants.{Absent, Ended, Evicted, Failed, Flushed, Nothing, Parted, Served, Stepped}
use Rattle.vax_machine.specs.declared.event.Event.{Event}
use Rattle.vax_machine.specs.declared.event.Event.TheVariants as event

stays : (old new : Keeping) → new ≡ old → Rises 0 old new
stays old new e = rw e (omega arith)

-- an attempt that misses a page

eased_step : (turns : ℕ) (r : Residence) (b : Bool) → (length r.pinned == 40) ≡ b → turns < 2 ^ 64 - 1 → (raised turns + length r.pinned + r.spoiled ≡ turns + length (eased r).pinned + (eased r).spoiled + missed_cost (length r.pinned))
unfolding eased
eased_step turns r true e low = let n : length r.pinned ≡ 40 = grind (arith, nat_tests, e) in rw e (omega (arith, n, low))
eased_step turns r false e low = rw e (omega (arith, low))

tried_spends : (result : Applied) (k : Keeping) → IsTry result → length k.residence.pinned ≤ 40 → k.turns < 2 ^ 64 - 1 → Spends result k (tried result k)
tried_spends (Stepped sent) k h pins low = omega (arith, pins, low)
tried_spends Parted k h pins low = omega (arith, pins, low)
tried_spends (Absent page) k h pins low = eased_step k.turns k.residence (length k.residence.pinned == 40) refl low
tried_spends (Ended e) k h pins low = omega (arith, pins, low)
tried_spends (Served v) k h pins low = absurd h
tried_spends Evicted k h pins low = absurd h
tried_spends Flushed k h pins low = absurd h
tried_spends Nothing k h pins low = absurd h
tried_spends Failed k h pins low = absurd h

after_ended : (e : Ending) (old new : Engine) (result : Applied) → result ≡ Ended e → new ≡ old → Spends result (keeping old) (keeping new)
after_ended e old new result r n = rw (r, n) (omega arith)

tries_spend : (how : Option Ending) (old new : Engine) (result : Applied) → length (residence old).pinned ≤ 40 → old.turns < 2 ^ 64 - 1 → Tries how old result new → Spends result (keeping old) (keeping new)
tries_spend (Some e) old new result pins low t = after_ended e old new result t.0 t.1
tries_spend None old new result pins low t = subst (λ (z : Keeping). Spends result (keeping old) z) (sym t.keeps) (tried_spends result (keeping old) t.answer pins low)

-- a service

room_same : (v : Option ℕ) (r : Residence) → ((without_victim v r).pinned ≡ r.pinned) × ((without_victim v r).spoiled ≡ r.spoiled)
room_same None r = (refl, refl)
room_same (Some page) r = (refl, refl)

served_pins : (page : ℕ) (r : Residence) → (length (served page r).pinned ≡ length r.pinned + 1) × ((served page r).spoiled ≡ r.spoiled)
unfolding served
served_pins page r =
    let k = room_same (victim r) r in
    (length-append (without_victim (victim r) r).pinned (page ∷ []) ∙ ap (λ (xs : List ℕ). length xs + 1) k.0, k.1)

serves_spend : (w : Option ℕ) (old new : Keeping) (result : Applied) → Serves w old result new → Spends result old new
serves_spend None old new result x = subst (λ (z : Applied). Spends z old new) (sym x.0) (stays old new x.1)
serves_spend (Some page) old new result (inl x) = subst (λ (z : Applied). Spends z old new) (sym x.0) (stays old new x.1)
serves_spend (Some page) old new result (inr x) =
    let k = served_pins page old.residence in
    let p = k.0 in
    let s = k.1 in
    subst (λ (z : Applied). Spends z old new) (sym x.0) (rw x.1 (omega (arith, p, s)))

-- an eviction

taken_step : (page : ℕ) (r : Residence) (b : Bool) → is_listed page r.pinned ≡ b → AreOnce r.pinned → r.spoiled < 2 ^ 64 - 1 → length r.pinned + r.spoiled ≡ length (leave_out page r.pinned) + (if b then raised r.spoiled else r.spoiled)
taken_step page r true e once low = let l = one_fewer page r.pinned once e in omega (arith, l, low)
taken_step page r false e once low = let l = ap length (out_none page r.pinned e) in omega (arith, l)

taken_pins : (page : ℕ) (r : Residence) → AreOnce r.pinned → r.spoiled < 2 ^ 64 - 1 → length r.pinned + r.spoiled ≡ length (taken_out page r).pinned + (taken_out page r).spoiled
unfolding taken_out
taken_pins page r once low = elim (cases_Bool (is_listed page r.order)) [
  | inl t ↦ rw t (taken_step page r (is_listed page r.pinned) refl once low)
  | inr f ↦ rw f refl
]

evicts_spend : (page : ℕ) (b : Bool) (old new : Keeping) (result : Applied) → AreOnce old.residence.pinned → old.residence.spoiled < 2 ^ 64 - 1 → Evicts page b old result new → Spends result old new
evicts_spend page false old new result once low x = subst (λ (z : Applied). Spends z old new) (sym x.0) (stays old new x.1)
evicts_spend page true old new result once low (inl x) = subst (λ (z : Applied). Spends z old new) (sym x.0) (stays old new x.1)
evicts_spend page true old new result once low (inr x) =
    let k = taken_pins page old.residence once low in
    subst (λ (z : Applied). Spends z old new) (sym x.0) (rw x.1 (omega (arith, k)))

flushes_spend : (b : Bool) (old new : Keeping) (result : Applied) → Flushes b old result new → Spends result old new
flushes_spend false old new result x = subst (λ (z : Applied). Spends z old new) (sym x.0) (stays old new x.1)
flushes_spend true old new result (inl f, e) = subst (λ (z : Applied). Spends z old new) (sym f) (stays old new e)
flushes_spend true old new result (inr f, e) = subst (λ (z : Applied). Spends z old new) (sym f) (stays old new e)

pub events_spend : (e : Event) (old new : Engine) (before after : Option BlockFile) (result : Applied) → length (residence old).pinned ≤ 40 → AreOnce (residence old).pinned → old.turns < 2 ^ 64 - 1 → (residence old).spoiled < 2 ^ 64 - 1 → Applies e old before result new after → Spends result (keeping old) (keeping new)
events_spend event.Attempt old new before after result pins once turns low h = tries_spend old.ended old new result pins turns h.0
events_spend event.Serve old new before after result pins once turns low h = serves_spend old.wanted (keeping old) (keeping new) result h.0
events_spend (event.Evict page) old new before after result pins once turns low h = evicts_spend page (is_listed page (pages old.pager).order) (keeping old) (keeping new) result once low h.0
events_spend (event.Flush page) old new before after result pins once turns low h = flushes_spend (is_listed page (pages old.pager).modified) (keeping old) (keeping new) result h.0
