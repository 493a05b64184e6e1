-- What a turn takes.
use Rattle.std.proofs.Common.{◌≡◌, ◌==◌, ◌<◌, ◌≤◌, ◌^◌, ℕ, zero, suc, ◌+◌, ◌*◌, ◌-◌, Bool, true, false, List, [], ◌∷◌, Option, Some, None, length, length-append, map, refl, sym, ap, ◌∙◌, subst, arith, inl, inr}
use Rattle.std.specs.Prelude.{if◌then◌else◌, slice_get, slice_set}
use Rattle.std.specs.Option.{option_map, option_map_or}
use Rattle.std.proofs.lemmas.Bool.{cases_Bool, eqb-true}
use Rattle.std.proofs.lemmas.Bool.Decides.{nat_tests}
use Rattle.std.proofs.lemmas.List.{length-map}
use Rattle.std.proofs.lemmas.Option.{same_Some, slice_get-map, slice_get_within}
use Rattle.vax_outside.specs.Faults.{raised}
use Rattle.vax_flat.specs.declared.Ending.{Ending}
use Rattle.vax_pager.specs.Listing.{AreOnce, is_listed}
use Rattle.vax_pager.specs.Meaning.{pages}
use Rattle.vax_pager.proofs.Listing.{out_none}
use Rattle.vax_pager.proofs.Told.{pager_is}
use Rattle.vax_machine.proofs.Bound.{one_fewer}
use Rattle.vax_machine.proofs.Running.{served_pins}
use Rattle.vax_machine.specs.Machine.{Keeping, missed_cost, tried as keeping_tried}
use Rattle.vax_machine.specs.Meaning.{engine}
use Rattle.vax_machine.specs.Residence.{Residence, eased, taken_out}
use Rattle.vax_machine.specs.declared.event.Applied.{Applied}
use Rattle.vax_machine.specs.declared.event.Applied.TheVariants as applied
use Rattle.vax_machine.specs.declared.machine.Machine.{Machine}
use Rattle.vax_machine_laws.proofs.Spoiling.{served_spoils}
use Rattle.vax_jobs.proofs.Marks.{altered_count, room_free}
use Rattle.vax_jobs.proofs.Rooms.{altered_is, found, get_same}
use Rattle.vax_jobs.specs.Beginning.{machines, pooling}
use Rattle.vax_jobs.specs.Pool.{keeps_of}
use Rattle.vax_jobs.specs.Pooling.{Pooling, altered, came, given, is_pinned, is_there, made_room, pins_at, room_of, taken, with_room}
use Rattle.vax_jobs.specs.Turning.{HasGone, IsTurned, MovesOut, attempted, ending_at, has_failed, has_missed, job_of}
use Rattle.vax_jobs.specs.declared.jobs.Jobs.{Jobs}
use Rattle.vax_jobs.specs.declared.pool.Pair.{Pair}
use Rattle.vax_jobs.specs.declared.turn.Turn.{Turn}
use Rattle.vax_jobs.specs.declared.turn.Turn.TheVariants.{Go, Out, Clean}
use Rattle.vax_jobs.specs.declared.turn.Turned.{Turned}
use Rattle.vax_jobs.specs.declared.turn.Turned.TheVariants.{Stepped, Parted, Absent, Ended, Moved, Nothing, Failed}
use Rattle.vax_jobs_bound.specs.Spending.{AllHappen, AreCounted, GoSpends, Happening, HaveFewPins, Rises, RisesAtMost, Spends, attempts_in, failures, part_by, pins_in}

-- one process is altered

abbrev held : Keeping → ℕ
held k = length k.residence.pinned + k.residence.spoiled

attempts_set : (ks : List Keeping) (job : ℕ) (k new : Keeping) → slice_get ks job ≡ Some k → attempts_in (slice_set ks job new) + k.turns ≡ attempts_in ks + new.turns
unfolding attempts_in
attempts_set [] job k new e = cc
attempts_set (x ∷ ks) zero k new e = let same : x ≡ k = cc in let turns = ap (λ (q : Keeping). q.turns) same in omega (arith, turns)
attempts_set (x ∷ ks) (suc job) k new e = let rest = attempts_set ks job k new e in omega (arith, rest)

pins_set : (ks : List Keeping) (job : ℕ) (k new : Keeping) → slice_get ks job ≡ Some k → pins_in (slice_set ks job new) + held k ≡ pins_in ks + held new
unfolding pins_in
pins_set [] job k new e = cc
pins_set (x ∷ ks) zero k new e =
    let same : x ≡ k = cc in
    let pinned = ap (λ (q : Keeping). length q.residence.pinned) same in
    let spoiled = ap (λ (q : Keeping). q.residence.spoiled) same in
    omega (arith, pinned, spoiled)
pins_set (x ∷ ks) (suc job) k new e = let rest = pins_set ks job k new e in omega (arith, rest)

record Alters (ks new : List Keeping) (k n : Keeping) : Type 0 where
  pub attempts : attempts_in new + k.turns ≡ attempts_in ks + n.turns
  pub pins : pins_in new + held k ≡ pins_in ks + held n

alters : (ks : List Keeping) (job : ℕ) (f : Keeping → Keeping) (k : Keeping) → slice_get ks job ≡ Some k → Alters ks (altered job f ks) k (f k)
alters ks job f k e =
    let is = altered_is job f ks k e in
    let turns = attempts_set ks job k (f k) e in
    let pins = pins_set ks job k (f k) e in
    record { attempts = rw is turns; pins = rw is pins }

altered_there : (ks : List Keeping) (job : ℕ) (f : Keeping → Keeping) (k : Keeping) → slice_get ks job ≡ Some k → slice_get (altered job f ks) job ≡ Some (f k)
altered_there ks job f k e = ap (λ xs. slice_get xs job) (altered_is job f ks k e) ∙ get_same ks job k (f k) e

-- evictions

taken_held : (page : ℕ) (r : Residence) → AreOnce r.pinned → r.spoiled < 2 ^ 64 - 1 → length (taken_out page r).pinned + (taken_out page r).spoiled ≡ length r.pinned + r.spoiled
unfolding taken_out
taken_held page r once low = elim (cases_Bool (is_listed page r.order)) [
  | inl t ↦ rw t (elim (cases_Bool (is_listed page r.pinned)) [
    | inl pinned ↦ rw pinned (let l = one_fewer page r.pinned once pinned in omega (arith, l, low))
    | inr free ↦ rw free (let l = ap length (out_none page r.pinned free) in omega (arith, l))
  ])
  | inr f ↦ rw f refl
]

free_held : (page : ℕ) (r : Residence) → is_listed page r.pinned ≡ false → length (taken_out page r).pinned + (taken_out page r).spoiled ≡ length r.pinned + r.spoiled
unfolding taken_out
free_held page r free = elim (cases_Bool (is_listed page r.order)) [
  | inl t ↦ rw (t, free) (let l = ap length (out_none page r.pinned free) in omega (arith, l))
  | inr f ↦ rw f refl
]

-- what makes room takes nothing

record TakesNothing (ks new : List Keeping) : Type 0 where
  pub attempts : attempts_in new ≡ attempts_in ks
  pub pins : pins_in new ≡ pins_in ks

out_nothing : (ks : List Keeping) (job page : ℕ) (o : Option Keeping) → slice_get ks job ≡ o → is_listed page (pins_at ks job) ≡ false → TakesNothing ks (altered job (taken page) ks)
out_nothing ks job page None e free = record { attempts = rw e refl; pins = rw e refl }
out_nothing ks job page (Some k) e free =
    let a = alters ks job (taken page) k e in
    let pinned : pins_at ks job ≡ k.residence.pinned = ap (λ o. option_map_or (λ (q : Keeping). q.residence.pinned) o []) e in
    let same = free_held page k.residence (sym (ap (is_listed page) pinned) ∙ free) in
    record { attempts = let t = a.attempts in omega (arith, t); pins = let t = a.pins in omega (arith, t, same) }

room_nothing : (p : Pooling) (o : Option Pair) → ((pair : Pair) → o ≡ Some pair → is_pinned p.processes pair ≡ false) → TakesNothing p.processes (made_room o p).processes
room_nothing p None free = record { attempts = refl; pins = refl }
room_nothing p (Some pair) free = out_nothing p.processes pair.job pair.page (slice_get p.processes pair.job) refl (free pair refl)

with_nothing : (p : Pooling) → TakesNothing p.processes (with_room p).processes
with_nothing p = room_nothing p (room_of p) (room_free p)

room_there : (p : Pooling) (o : Option Pair) (job : ℕ) (k : Keeping) → slice_get p.processes job ≡ Some k → (n : Keeping) × (slice_get (made_room o p).processes job ≡ Some n)
room_there p None job k e = (k, e)
room_there p (Some pair) job k e = found (altered pair.job (taken pair.page) p.processes) job (let w = altered_count pair.job (taken pair.page) p.processes in let l = slice_get_within p.processes job k e in omega (arith, w, l))

-- the parts of a turn

eased_held : (r : Residence) → length (eased r).pinned + (eased r).spoiled + missed_cost (length r.pinned) ≡ length r.pinned + r.spoiled + 1
unfolding eased
eased_held r = elim (cases_Bool (length r.pinned == 40)) [
  | inl t ↦ rw t (let l = eqb-true (length r.pinned) 40 t in omega (arith, l))
  | inr f ↦ rw f (omega arith)
]

-- a part was completed
part_spends : (job : ℕ) (answer : Applied) (old new : Pooling) (k : Keeping) → slice_get old.processes job ≡ Some k → new ≡ attempted job answer old → length k.residence.pinned ≤ 40 → (keeping_tried answer k).turns ≤ k.turns + 1 → held (keeping_tried answer k) + length k.residence.pinned ≡ held k → RisesAtMost 41 old new
part_spends job answer old new k e is few turns pins =
    let a = alters old.processes job (keeping_tried answer) k e in
    let attempts = ap (λ (q : Pooling). attempts_in q.processes) is in
    let all = ap (λ (q : Pooling). pins_in q.processes) is in
    let x = a.attempts in
    let y = a.pins in
    omega (arith, few, turns, pins, attempts, all, x, y)

-- a page was missed
missed_spends : (job page : ℕ) (old : Pooling) (k : Keeping) → slice_get old.processes job ≡ Some k → k.turns < 2 ^ 64 - 1 → Rises (missed_cost (length k.residence.pinned)) old (attempted job (applied.Absent page) old)
missed_spends job page old k e low =
    let a = alters old.processes job (keeping_tried (applied.Absent page)) k e in
    let x = a.attempts in
    let y = a.pins in
    let eased_is = eased_held k.residence in
    let turns : raised k.turns ≡ k.turns + 1 = omega (arith, low) in
    omega (arith, x, y, eased_is, turns)

room_spends : (count : ℕ) (old mid : Pooling) → Rises count old mid → Rises count old (with_room mid)
room_spends count old mid h =
    let n = with_nothing mid in
    let x = n.attempts in
    let y = n.pins in
    omega (arith, h, x, y)

given_held : (page : ℕ) (k : Keeping) → held (given page k) ≡ held k + 1
given_held page k =
    let pinned = ap length (served_pins page k.residence) ∙ length-append k.residence.pinned (page ∷ []) in
    let spoiled = served_spoils page k.residence in
    omega (arith, pinned, spoiled)

came_spends : (count job page : ℕ) (old mid : Pooling) (k : Keeping) → slice_get mid.processes job ≡ Some k → 1 ≤ count → Rises count old mid → Rises (count - 1) old (came job page mid)
came_spends count job page old mid k e some h =
    let a = alters mid.processes job (given page) k e in
    let x = a.attempts in
    let y = a.pins in
    let more = given_held page k in
    omega (arith, some, h, x, y, more)

some_cost : (pins : ℕ) → 1 ≤ missed_cost pins
some_cost pins = elim (cases_Bool (pins == 40)) [ inl t ↦ rw t (omega arith) | inr f ↦ rw f (omega arith) ]

module _ (job : ℕ) (old new : Pooling) (k : Keeping) (there : slice_get old.processes job ≡ Some k) (few : length k.residence.pinned ≤ 40) (low : k.turns < 2 ^ 64 - 1) where
  abbrev missed_one : ℕ → Pooling
  missed_one page = attempted job (applied.Absent page) old

  attempt_there : (page : ℕ) → slice_get (missed_one page).processes job ≡ Some (keeping_tried (applied.Absent page) k)
  attempt_there page = altered_there old.processes job (keeping_tried (applied.Absent page)) k there

  go_spends : (o : Option Ending) (result : Turned) → HasGone job o result old new → GoSpends (missed_cost (length k.residence.pinned)) result old new
  go_spends (Some e) result h = subst (λ (r : Turned). GoSpends (missed_cost (length k.residence.pinned)) r old new) (sym h.0) (let same = h.1 in rw same (omega arith))
  go_spends None (Stepped sent) h = part_spends job (applied.Stepped sent) old new k there h few (omega (arith, low)) (omega arith)
  go_spends None Parted h = part_spends job applied.Parted old new k there h few (omega (arith, low)) (omega arith)
  go_spends None (Ended e) h = part_spends job (applied.Ended e) old new k there h few (omega (arith, low)) (omega arith)
  go_spends None (Absent page) h =
      let mid = with_room (missed_one page) in
      let here = room_there (missed_one page) (room_of (missed_one page)) job (keeping_tried (applied.Absent page) k) (attempt_there page) in
      let cost = missed_cost (length k.residence.pinned) in
      subst (λ (q : Pooling). Rises (cost - 1) old q) (sym h)
      (came_spends cost job page old mid here.0 here.1 (some_cost (length k.residence.pinned)) (room_spends cost old (missed_one page) (missed_spends job page old k there low)))
  go_spends None Failed (page, inl e) = subst (λ (q : Pooling). Rises (missed_cost (length k.residence.pinned)) old q) (sym e) (missed_spends job page old k there low)
  go_spends None Failed (page, inr e) =
      subst (λ (q : Pooling). Rises (missed_cost (length k.residence.pinned)) old q) (sym e)
      (room_spends (missed_cost (length k.residence.pinned)) old (missed_one page) (missed_spends job page old k there low))
  go_spends None Moved h = absurd h
  go_spends None Nothing h = absurd h

same_spends : (old new : Pooling) → new ≡ old → Rises 0 old new
same_spends old new e = rw e (omega arith)

out_spends : (job page : ℕ) (there : Bool) (result : Turned) (old new : Pooling) (k : Keeping) → slice_get old.processes job ≡ Some k → AreOnce k.residence.pinned → k.residence.spoiled < 2 ^ 64 - 1 → MovesOut job page there result old new → Rises 0 old new
out_spends job page false result old new k e once low h = same_spends old new h.1
out_spends job page true result old new k e once low (inl h) = same_spends old new h.1
out_spends job page true result old new k e once low (inr h) =
    let a = alters old.processes job (taken page) k e in
    let x = a.attempts in
    let y = a.pins in
    let same = taken_held page k.residence once low in
    let attempts = ap (λ (q : Pooling). attempts_in q.processes) h.1 in
    let all = ap (λ (q : Pooling). pins_in q.processes) h.1 in
    omega (arith, x, y, same, attempts, all)

pub turn_spends : (turn : Turn) (result : Turned) (old new : Pooling) → job_of turn < length old.processes → HaveFewPins old → AreCounted old → IsTurned turn result old new → Spends turn result old new
turn_spends (Go job) result old new within few low h =
    let k = found old.processes job within in
    let pins : pins_at old.processes job ≡ k.0.residence.pinned = ap (λ o. option_map_or (λ (q : Keeping). q.residence.pinned) o []) k.1 in
    subst (λ (xs : List ℕ). GoSpends (missed_cost (length xs)) result old new) (sym pins)
    (go_spends job old new k.0 k.1 (few.few job k.0 k.1) (low.turns job k.0 k.1) (ending_at old job) result h)
turn_spends (Out job page) result old new within few low h =
    let k = found old.processes job within in
    out_spends job page (is_there old.resident job page) result old new k.0 k.1 (few.once job k.0 k.1) (low.spoiled job k.0 k.1) h
turn_spends (Clean job) result old new within few low h = same_spends old new h

-- of processes that were made
kept_at : (ms : List Machine) (job : ℕ) (k : Keeping) → slice_get (map keeps_of ms) job ≡ Some k → (m : Machine) × (keeps_of m ≡ k)
kept_at ms job k e =
    let within = slice_get_within (map keeps_of ms) job k e in
    let count = length-map ms keeps_of in
    let m = found ms job (omega (arith, within, count)) in
    (m.0, same_Some (keeps_of m.0) k (sym (slice_get-map keeps_of ms job ∙ ap (option_map keeps_of) m.1) ∙ e))

pub few_pinned : (r : Jobs) → HaveFewPins (pooling r)
few_pinned r = record {
  few = λ job k e.
      let m = kept_at (machines r) job k e in
      subst (λ (q : Keeping). length q.residence.pinned ≤ 40) m.1 m.0.sound.pages.pins;
  once = λ job k e.
      let m = kept_at (machines r) job k e in
      subst (λ (q : Keeping). AreOnce q.residence.pinned) m.1 (pager_is (engine m.0).pager).pinned_once;
}

-- several turns

at_most : (count : ℕ) (old new : Pooling) → Rises count old new → RisesAtMost count old new
at_most count old new h = omega (arith, h)

one_cost : (pins : ℕ) → pins < 40 → missed_cost pins ≡ 1
one_cost pins low = let other : (pins == 40) ≡ false = grind (arith, nat_tests, low) in rw other refl

-- what one of them costs
abbrev cost_by : Option Ending → Turned → ℕ
cost_by o result = 41 * part_by o result + (if has_failed result then 1 else 0)

go_costs : (job : ℕ) (o : Option Ending) (result : Turned) (old new : Pooling) → HasGone job o result old new → (has_missed result ≡ true → length (pins_at old.processes job) < 40) → GoSpends (missed_cost (length (pins_at old.processes job))) result old new → RisesAtMost (cost_by o result) old new
go_costs job (Some e) result old new h keeps s =
    subst (λ (r : Turned). RisesAtMost (cost_by (Some e) r) old new) (sym h.0) (let same = h.1 in rw same (omega arith))
go_costs job None (Stepped sent) old new h keeps s = s
go_costs job None Parted old new h keeps s = s
go_costs job None (Ended e) old new h keeps s = s
go_costs job None (Absent page) old new h keeps s = let one = one_cost (length (pins_at old.processes job)) (keeps refl) in omega (arith, s, one)
go_costs job None Failed old new h keeps s = let one = one_cost (length (pins_at old.processes job)) (keeps refl) in omega (arith, s, one)
go_costs job None Moved old new h keeps s = absurd h
go_costs job None Nothing old new h keeps s = absurd h

turn_costs : (turn : Turn) (result : Turned) (old new : Pooling) → IsTurned turn result old new → (has_missed result ≡ true → length (pins_at old.processes (job_of turn)) < 40) → Spends turn result old new → RisesAtMost (cost_by (ending_at old (job_of turn)) result) old new
turn_costs (Go job) result old new h keeps s = go_costs job (ending_at old job) result old new h keeps s
turn_costs (Out job page) result old new h keeps s = omega (arith, s)
turn_costs (Clean job) result old new h keeps s = omega (arith, s)

pub turns_cost : (list : List Happening) (parts : ℕ) (old new : Pooling) → AllHappen list parts old new → RisesAtMost (41 * parts + failures list) old new
unfolding AllHappen failures
turns_cost [] parts old new h = let none = h.0 in let same = h.1 in rw same (omega (arith, none))
turns_cost (x ∷ others) parts old new h =
    let mid = h.0 in
    let rest = h.1 in
    let count = h.2 in
    let here = h.3 in
    let one = turn_costs x.turn x.result old mid here.turned here.keeps (turn_spends x.turn x.result old mid here.there here.few here.counted here.turned) in
    let more = turns_cost others rest mid new h.4 in
    omega (arith, count, one, more)
