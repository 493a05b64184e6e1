-- Lists of events take few turns.
use Rattle.std.proofs.Common.{ℕ, ◌==◌, ◌≡◌, ◌+◌, ◌-◌, ◌*◌, ◌^◌, ◌<◌, ◌≤◌, Bool, true, false, List, [], ◌∷◌, length, refl, ap, sym, subst, arith, inl, inr, Option, Some, None}
use Rattle.std.specs.Prelude.{if◌then◌else◌}
use Rattle.std.proofs.lemmas.Bool.{cases_Bool}
use Rattle.vax_outside.specs.Blocks.{BlockFile}
use Rattle.vax_outside.specs.Faults.{raised}
use Rattle.vax_flat.specs.declared.Ending.{Ending}
use Rattle.vax_flat.specs.Step.{Flat}
use Rattle.vax_pager.specs.Listing.{is_listed}
use Rattle.vax_pager.specs.Meaning.{pages}
use Rattle.vax_machine.proofs.Following.{event_follows}
use Rattle.vax_machine.specs.Events.{FollowsFrom}
use Rattle.vax_machine.specs.Machine.{Applies, Evicts, Flushes, IsSound, Keeping, Serves, Spends, Tries, keeping, residence, tried}
use Rattle.vax_machine.specs.Residence.{Residence, eased, taken_out, victim}
use Rattle.vax_machine.specs.declared.engine.Engine.{Engine}
use Rattle.vax_machine.specs.declared.event.Applied.{Applied}
use Rattle.vax_machine.specs.declared.event.Applied.TheVariants.{Stepped, Parted, Absent, Ended, Served, Evicted, Flushed, Nothing, Failed}
use Rattle.vax_machine.specs.declared.event.Event.{Event}
use Rattle.vax_machine.specs.declared.event.Event.TheVariants as event
use Rattle.vax_machine_laws.proofs.Spoiling.{served_spoils}
use Rattle.vax_machine_laws.specs.Happenings.{AllHappen, Happening, last_part, part_by, parts_by}

-- what is counted doesn't fall, as long as it is below its last value

abbrev last : ℕ
last = 2 ^ 64 - 1

record Grows (old new : Keeping) : Type 0 where
  pub steps : new.steps ≤ old.steps + 1
  pub turns : new.turns < last → old.turns ≤ new.turns
  pub spoiled : new.residence.spoiled < last → old.residence.spoiled ≤ new.residence.spoiled

grows_same : (old new : Keeping) → new ≡ old → Grows old new
grows_same old new e = rw e (record { steps = omega arith; turns = λ low. omega (arith, low); spoiled = λ low. omega (arith, low) })

eased_spoils : (r : Residence) → (eased r).spoiled ≡ r.spoiled
unfolding eased
eased_spoils r = elim (cases_Bool (length r.pinned == 40)) [
  | inl t ↦ rw t refl
  | inr f ↦ rw f refl
]

grows_tried : (result : Applied) (k : Keeping) → Grows k (tried result k)
grows_tried (Stepped sent) k = record { steps = omega arith; turns = λ low. omega (arith, low); spoiled = λ low. omega (arith, low) }
grows_tried Parted k = record { steps = omega arith; turns = λ low. omega (arith, low); spoiled = λ low. omega (arith, low) }
grows_tried (Absent page) k = let s = eased_spoils k.residence in record { steps = omega arith; turns = λ low. omega (arith, low); spoiled = λ low. omega (arith, s, low) }
grows_tried (Ended e) k = record { steps = omega arith; turns = λ low. omega (arith, low); spoiled = λ low. omega (arith, low) }
grows_tried (Served v) k = grows_same k k refl
grows_tried Evicted k = grows_same k k refl
grows_tried Flushed k = grows_same k k refl
grows_tried Nothing k = grows_same k k refl
grows_tried Failed k = grows_same k k refl

tries_grow : (how : Option Ending) (old new : Engine) (result : Applied) → Tries how old result new → Grows (keeping old) (keeping new)
tries_grow (Some e) old new result t = grows_same (keeping old) (keeping new) (ap keeping t.1)
tries_grow None old new result t = subst (Grows (keeping old)) (sym t.keeps) (grows_tried result (keeping old))

serves_grow : (w : Option ℕ) (old new : Keeping) (result : Applied) → Serves w old result new → Grows old new
serves_grow None old new result x = grows_same old new x.1
serves_grow (Some page) old new result (inl x) = grows_same old new x.1
serves_grow (Some page) old new result (inr x) =
    let s = served_spoils page old.residence in
    rw x.1 (record { steps = omega arith; turns = λ low. omega (arith, low); spoiled = λ low. omega (arith, s, low) })

pinned_spoils : (r : Residence) (b : Bool) → (if b then raised r.spoiled else r.spoiled) < last → r.spoiled ≤ (if b then raised r.spoiled else r.spoiled)
pinned_spoils r true low = omega (arith, low)
pinned_spoils r false low = omega arith

out_spoils : (page : ℕ) (r : Residence) → (taken_out page r).spoiled < last → r.spoiled ≤ (taken_out page r).spoiled
unfolding taken_out
out_spoils page r = elim (cases_Bool (is_listed page r.order)) [
  | inl t ↦ rw t (λ low. pinned_spoils r (is_listed page r.pinned) low)
  | inr f ↦ rw f (λ low. omega arith)
]

evicts_grow : (page : ℕ) (b : Bool) (old new : Keeping) (result : Applied) → Evicts page b old result new → Grows old new
evicts_grow page false old new result x = grows_same old new x.1
evicts_grow page true old new result (inl x) = grows_same old new x.1
evicts_grow page true old new result (inr x) =
    rw x.1 (record { steps = omega arith; turns = λ low. omega (arith, low); spoiled = λ low. out_spoils page old.residence low })

flushes_grow : (b : Bool) (old new : Keeping) (result : Applied) → Flushes b old result new → Grows old new
flushes_grow false old new result x = grows_same old new x.1
flushes_grow true old new result x = grows_same old new x.1

grows : (e : Event) (old new : Engine) (before after : Option BlockFile) (result : Applied) → Applies e old before result new after → Grows (keeping old) (keeping new)
grows event.Attempt old new before after result h = tries_grow old.ended old new result h.0
grows event.Serve old new before after result h = serves_grow old.wanted (keeping old) (keeping new) result h.0
grows (event.Evict page) old new before after result h = evicts_grow page (is_listed page (pages old.pager).order) (keeping old) (keeping new) result h.0
grows (event.Flush page) old new before after result h = flushes_grow (is_listed page (pages old.pager).modified) (keeping old) (keeping new) result h.0

-- turns are paid by parts, pins and evictions of pinned pages, but for that of a page that was missed and waits for its service

waiting : Option ℕ → ℕ
waiting None = 0
waiting (Some page) = 1

record Pays (parts : ℕ) (old new : Keeping) : Type 0 where
  pub paid : new.turns + length old.residence.pinned + old.residence.spoiled + waiting old.wanted + 41 * last_part old.ended
      ≤ old.turns + length new.residence.pinned + new.residence.spoiled + waiting new.wanted + 41 * parts + 41 * last_part new.ended

pays_same : (old new : Keeping) → new ≡ old → Pays 0 old new
pays_same old new e = rw e (record { paid = omega arith })

few_waiting : (w : Option ℕ) → waiting w ≤ 1
unfolding waiting
few_waiting None = omega arith
few_waiting (Some page) = omega arith

part_pays : (old new : Keeping) → old.wanted ≡ None → new.turns + length old.residence.pinned + old.residence.spoiled ≤ old.turns + length new.residence.pinned + new.residence.spoiled + 41 → new.ended ≡ old.ended → Pays 1 old new
unfolding waiting
part_pays old new none s same = let w = ap waiting none in let l = ap last_part same in record { paid = omega (arith, w, s, l) }

try_pays : (result : Applied) (old new : Keeping) → old.ended ≡ None → old.wanted ≡ None → ((page : ℕ) → result ≡ Absent page → new.residence ≡ old.residence) → new ≡ tried result old → Spends result old new → Pays (part_by result) old new
unfolding waiting
try_pays (Stepped sent) old new going none keeps e s = part_pays old new none s (ap (λ (z : Keeping). z.ended) e)
try_pays Parted old new going none keeps e s = part_pays old new none s (ap (λ (z : Keeping). z.ended) e)
try_pays (Absent page) old new going none keeps e s =
    let r = keeps page refl in
    let pins = ap (λ (z : Residence). length z.pinned) r in
    let spoiled = ap (λ (z : Residence). z.spoiled) r in
    let t = ap (λ (z : Keeping). z.turns) e in
    let w = ap waiting none in
    let v = ap (λ (z : Keeping). waiting z.wanted) e in
    let l = ap (λ (z : Keeping). last_part z.ended) e in
    record { paid = omega (arith, pins, spoiled, t, w, v, l) }
try_pays (Ended x) old new going none keeps e s =
    let w = ap waiting none in
    let a = ap last_part going in
    let l = ap (λ (z : Keeping). last_part z.ended) e in
    record { paid = omega (arith, s, w, a, l) }
try_pays (Served v) old new going none keeps e s = pays_same old new e
try_pays Evicted old new going none keeps e s = pays_same old new e
try_pays Flushed old new going none keeps e s = pays_same old new e
try_pays Nothing old new going none keeps e s = pays_same old new e
try_pays Failed old new going none keeps e s = pays_same old new e

tries_pay : (how : Option Ending) (old new : Engine) (result : Applied) → old.ended ≡ how → old.wanted ≡ None → ((page : ℕ) → result ≡ Absent page → residence new ≡ residence old) → Tries how old result new → Spends result (keeping old) (keeping new) → Pays (part_by result) (keeping old) (keeping new)
tries_pay (Some e) old new result is none keeps t s = subst (λ (z : Applied). Pays (part_by z) (keeping old) (keeping new)) (sym t.0) (pays_same (keeping old) (keeping new) (ap keeping t.1))
tries_pay None old new result is none keeps t s = try_pays result (keeping old) (keeping new) is none keeps t.keeps s

as_answer : (result made : Applied) (old new : Keeping) → result ≡ made → Pays (part_by made) old new → Pays (part_by result) old new
as_answer result made old new e p = subst (λ (z : Applied). Pays (part_by z) old new) (sym e) p

serves_pay : (w : Option ℕ) (old new : Keeping) (result : Applied) → Serves w old result new → Spends result old new → Pays (part_by result) old new
unfolding waiting
serves_pay None old new result x s = as_answer result Nothing old new x.0 (pays_same old new x.1)
serves_pay (Some page) old new result (inl x) s = as_answer result Failed old new x.0 (pays_same old new x.1)
serves_pay (Some page) old new result (inr x) s =
    let v = victim old.residence in
    let spent : Spends (Served v) old new = subst (λ (z : Applied). Spends z old new) x.0 s in
    let w = ap (λ (z : Keeping). waiting z.wanted) x.1 in
    let l = ap (λ (z : Keeping). last_part z.ended) x.1 in
    let few = few_waiting old.wanted in
    as_answer result (Served v) old new x.0 (record { paid = omega (arith, spent, w, l, few) })

evicts_pay : (page : ℕ) (b : Bool) (old new : Keeping) (result : Applied) → Evicts page b old result new → Spends result old new → Pays (part_by result) old new
unfolding waiting
evicts_pay page false old new result x s = as_answer result Nothing old new x.0 (pays_same old new x.1)
evicts_pay page true old new result (inl x) s = as_answer result Failed old new x.0 (pays_same old new x.1)
evicts_pay page true old new result (inr x) s =
    let spent : Spends Evicted old new = subst (λ (z : Applied). Spends z old new) x.0 s in
    let w = ap (λ (z : Keeping). waiting z.wanted) x.1 in
    let l = ap (λ (z : Keeping). last_part z.ended) x.1 in
    as_answer result Evicted old new x.0 (record { paid = omega (arith, spent, w, l) })

flushes_pay : (b : Bool) (old new : Keeping) (result : Applied) → Flushes b old result new → Pays (part_by result) old new
flushes_pay false old new result x = as_answer result Nothing old new x.0 (pays_same old new x.1)
flushes_pay true old new result (inl f, e) = as_answer result Failed old new f (pays_same old new e)
flushes_pay true old new result (inr f, e) = as_answer result Flushed old new f (pays_same old new e)

pays : (e : Event) (old new : Engine) (before after : Option BlockFile) (result : Applied) → (e ≡ event.Attempt → old.wanted ≡ None) → ((page : ℕ) → result ≡ Absent page → residence new ≡ residence old) → Applies e old before result new after → Spends result (keeping old) (keeping new) → Pays (part_by result) (keeping old) (keeping new)
pays event.Attempt old new before after result none keeps h s = tries_pay old.ended old new result refl (none refl) keeps h.0 s
pays event.Serve old new before after result none keeps h s = serves_pay old.wanted (keeping old) (keeping new) result h.0 s
pays (event.Evict page) old new before after result none keeps h s = evicts_pay page (is_listed page (pages old.pager).order) (keeping old) (keeping new) result h.0 s
pays (event.Flush page) old new before after result none keeps h s = flushes_pay (is_listed page (pages old.pager).modified) (keeping old) (keeping new) result h.0

-- lists

record HavePaid (parts : ℕ) (old new : Engine) : Type 0 where
  pub turns : new.turns < last → old.turns ≤ new.turns
  pub spoiled : (residence new).spoiled < last → (residence old).spoiled ≤ (residence new).spoiled
  pub sound : IsSound old → IsSound new
  pub pays : new.turns < last → (residence new).spoiled < last → Pays parts (keeping old) (keeping new)

all_pay : (list : List Happening) (old new : Engine) (before after : Option BlockFile) (first : ℕ) (start : Flat) → old.steps + length list < 2 ^ 64 → FollowsFrom first old before start → AllHappen list old before new after → HavePaid (parts_by list) old new
unfolding AllHappen parts_by
all_pay [] old new before after first start low f h = record {
  turns = rw h.0 (λ low. omega arith);
  spoiled = rw h.0 (λ low. omega arith);
  sound = λ s. subst IsSound (sym h.0) s;
  pays = λ few short. pays_same (keeping old) (keeping new) (ap keeping h.0);
}
all_pay (x ∷ others) old new before after first start low f h =
    let mid = h.0 in
    let between = h.1 in
    let here = h.2 in
    let g = grows x.event old mid before between x.answer here.applies in
    let steps = g.steps in
    let next = event_follows x.event old mid before between x.answer first start (omega (arith, low)) here.applies f in
    let rest = all_pay others mid new between after first start (omega (arith, low, steps)) next h.3 in
    record {
      turns = λ low. let later = rest.turns low in let here = g.turns (omega (arith, later, low)) in omega (arith, here, later);
      spoiled = λ low. let later = rest.spoiled low in let here = g.spoiled (omega (arith, later, low)) in omega (arith, here, later);
      sound = λ s. rest.sound (here.sound s);
      pays = λ few short.
          let keeps = λ (page : ℕ) (e : x.answer ≡ Absent page). here.unsettled f.place f.means f.touching.pins page e in
          let turns = rest.turns few in
          let some = g.turns (omega (arith, turns, few)) in
          let spoiled = rest.spoiled short in
          let more = g.spoiled (omega (arith, spoiled, short)) in
          let spent = here.spends (omega (arith, turns, some, few)) (omega (arith, spoiled, more, short)) in
          let a = (pays x.event old mid before between x.answer here.served keeps here.applies spent).paid in
          let b = (rest.pays few short).paid in
          record { paid = omega (arith, a, b) };
    }

waiting_pins : (w : Option ℕ) (m : Engine) → m.wanted ≡ w → IsSound m → length (residence m).pinned + waiting w ≤ 40
unfolding waiting
waiting_pins None m e s = let p = s.pages.pins in omega (arith, p)
waiting_pins (Some page) m e s = let p = (s.pages.wanted page e).2 in omega (arith, p)

pub events_take_few : (list : List Happening) (old new : Engine) (before after : Option BlockFile) (first : ℕ) (start : Flat) → old.steps + length list < 2 ^ 64 → FollowsFrom first old before start → IsSound old → AllHappen list old before new after → new.turns < 2 ^ 64 - 1 → (residence new).spoiled < 2 ^ 64 - 1
    → new.turns + length (residence old).pinned + (residence old).spoiled ≤ old.turns + 41 * (parts_by list + last_part new.ended) + 40 + (residence new).spoiled
events_take_few list old new before after first start low f s h few short =
    let p = all_pay list old new before after first start low f h in
    let a = (p.pays few short).paid in
    let b = waiting_pins new.wanted new refl (p.sound s) in
    omega (arith, a, b)
