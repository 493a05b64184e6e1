-- Every run stops, and what later turns write comes behind what was written before.
use Rattle.std.proofs.Common.{ℕ, zero, suc, ◌≡◌, ◌+◌, ◌-◌, ◌<◌, ◌≤◌, Bool, true, false, nat_le, List, [], ◌∷◌, ◌++◌, append-nil, refl, ap, sym, ◌∙◌, subst, arith, inl, inr, Option, Some, None}
use Rattle.std.proofs.lemmas.Bool.Decides.{nat_tests}
use Rattle.std.proofs.lemmas.Bool.{cases_lt}
use Rattle.vax_space.specs.declared.Area.{Area}
use Rattle.vax_outside.specs.Blocks.{BlockFile}
use Rattle.vax_outside.specs.Channels.{Channels}
use Rattle.vax_flat.specs.declared.Ending.{Ending}
use Rattle.vax_flat.specs.declared.Flow.TheVariants as flow
use Rattle.vax_flat.specs.Accesses.{Leaf, Went, Found}
use Rattle.vax_flat.specs.Outcome.{Outcome, Ends, Raised, first_missing, outcome_of}
use Rattle.vax_flat.specs.Parts.{Place, gone_back, machine_at, outcome_at, touches_at, turn, turn_from, units_done}
use Rattle.vax_flat.specs.Step.{Flat, after_delivery, concluded, state_of, whole_delivery, with_byte_sent}
use Rattle.vax_flat.proofs.Runs.{Extends}
use Rattle.vax_sched.specs.Due.{due}
use Rattle.vax_sched.specs.declared.rule.Rule.{Rule}
use Rattle.vax_sched.specs.declared.rule.Target.{Target}
use Rattle.vax_machine.proofs.Listing.{grows_evicted}
use Rattle.vax_machine.proofs.Outputs.{Grows, grows_again, grows_by, grows_same, lost_on}
use Rattle.vax_machine.proofs.Tracking.{many_evicted}
use Rattle.vax_machine.specs.Paged.{Eviction, Paged, Why, all_evicted, all_named, attempted, attempted_by, evictions_of, marked, next_turn, paged, place_after, stop_by, stops, unless_ended}
use Rattle.vax_machine.specs.Residence.{is_resident, victim}
use Rattle.vax_machine.specs.Run.{IsLost, Runs, origin}
use Rattle.vax_machine.specs.Turn.{LostPart}
use Rattle.vax_machine.specs.declared.event.Limits.{Limits}

-- what an attempt sends comes behind what was sent before

extends_same : (output : List ℕ) → Extends output output
extends_same output = record { more = []; is = sym (append-nil output) }

extends_sent : (output : List ℕ) (sent : Option ℕ) → Extends output (with_byte_sent output sent)
extends_sent output None = extends_same output
extends_sent output (Some byte) = record { more = byte ∷ []; is = refl }

extends_concluded : (m : Flat) (leaf : Leaf) (memory : List Area) → Extends m.output (concluded m leaf memory).output
extends_concluded m (Went flow.Done s) memory = extends_sent m.output s.sent
extends_concluded m (Went flow.Clocked s) memory = extends_same m.output
extends_concluded m (Went (flow.Trap kind) s) memory = extends_same m.output
extends_concluded m (Went (flow.More opcode units) s) memory = extends_same m.output
extends_concluded m (Went (flow.Ended e) s) memory = extends_same m.output
extends_concluded m (Found operand s) memory = extends_same m.output

extends_delivery : (m : Flat) (outcome : Outcome Leaf) → Extends m.output (after_delivery m outcome).output
extends_delivery m (Ends leaf memory) = extends_concluded m leaf memory
extends_delivery m (Raised e) = extends_same m.output

extends_turn : (m : Flat) (units : ℕ) (o : Outcome Leaf) → Extends m.output (machine_at (place_after (turn_from m units o))).output
extends_turn m units (Ends (Went flow.Done s) memory) = extends_sent m.output s.sent
extends_turn m units (Ends (Went flow.Clocked s) memory) = extends_same m.output
extends_turn m units (Ends (Went (flow.Trap kind) s) memory) = extends_same m.output
extends_turn m units (Ends (Went (flow.More opcode more) s) memory) = extends_same m.output
extends_turn m units (Ends (Went (flow.Ended e) s) memory) = extends_same m.output
extends_turn m units (Ends (Found operand s) memory) = extends_same m.output
extends_turn m units (Raised e) = extends_delivery m (outcome_of (whole_delivery e (state_of m)) m.memory)

-- a turn sends bytes behind those that were sent
pub turn_extends : (place : Place) → Extends (machine_at place).output (machine_at (place_after (turn place))).output
turn_extends place = extends_turn (gone_back place) (units_done place) (outcome_at place)

extends_by : (m : Option ℕ) (p : Paged) → Extends (machine_at p.place).output (machine_at (attempted_by m p).place).output
extends_by None p = turn_extends p.place
extends_by (Some page) p = extends_same (machine_at p.place).output

extends_unless : (how : Option Ending) (p next : Paged) → Extends (machine_at p.place).output (machine_at next.place).output → Extends (machine_at p.place).output (machine_at (unless_ended how p next).place).output
extends_unless (Some e) p next h = extends_same (machine_at p.place).output
extends_unless None p next h = h

extends_attempted : (p : Paged) → Extends (machine_at p.place).output (machine_at (attempted p).place).output
unfolding attempted
extends_attempted p = extends_unless (machine_at p.place).ending p _ (extends_by (first_missing (is_resident p.residence) (touches_at p.place)) (marked p))

-- and so do the evictions

record Lists (p q : Paged) : Type 0 where
  pub made : List Eviction
  pub is : q.evictions ≡ p.evictions ++ made
  pub later : p.reads ≤ q.reads

lists_by : (m : Option ℕ) (p : Paged) → Lists p (attempted_by m p)
lists_by None p = record { made = []; is = sym (append-nil p.evictions); later = omega arith }
lists_by (Some page) p = record { made = evictions_of (p.turns + 2) (victim p.residence) p; is = refl; later = omega arith }

lists_unless : (how : Option Ending) (p next : Paged) → Lists p next → Lists p (unless_ended how p next)
lists_unless (Some e) p next h = record { made = []; is = sym (append-nil p.evictions); later = omega arith }
lists_unless None p next h = h

lists_attempted : (p : Paged) → Lists p (attempted p)
unfolding attempted
lists_attempted p =
    let l = lists_by (first_missing (is_resident p.residence) (touches_at p.place)) (marked p) in
    lists_unless (machine_at p.place).ending p _ (record { made = l.made; is = l.is; later = l.later })

pub grows_attempted : (listed : Bool) (p : Paged) → Grows listed p (attempted p)
grows_attempted listed p = let l = lists_attempted p in grows_by listed p (attempted p) l.made (extends_attempted p) l.is l.later

pub grows_turn : (listed : Bool) (areas : List Area) (asks : ℕ → List Target) (p : Paged) → Grows listed p (next_turn areas asks p)
grows_turn listed areas asks p =
    let there = all_evicted (all_named areas (asks (p.turns + 1))) p in
    grows_again listed p there (attempted there) (grows_evicted listed (all_named areas (asks (p.turns + 1))) p) (grows_attempted listed there)

grows_paged : (listed : Bool) (areas : List Area) (asks : ℕ → List Target) (count : ℕ) (p : Paged) → Grows listed p (paged areas asks count p)
unfolding paged
grows_paged listed areas asks zero p = grows_same listed p
grows_paged listed areas asks (suc count) p =
    let q = paged areas asks count p in
    grows_again listed p q (next_turn areas asks q) (grows_paged listed areas asks count p) (grows_turn listed areas asks q)

-- turns behind one another

pub paged_more : (areas : List Area) (asks : ℕ → List Target) (a n : ℕ) (b : Paged) → paged areas asks a (paged areas asks n b) ≡ paged areas asks (a + n) b
unfolding paged
paged_more areas asks zero n b = let e : 0 + n ≡ n = omega arith in rw e refl
paged_more areas asks (suc a) n b =
    let e : suc a + n ≡ suc (a + n) = omega arith in
    rw e (ap (next_turn areas asks) (paged_more areas asks a n b))

-- every run stops, at the latest at the limit of turns

halted_not : (how : Option Ending) (steps turns : Bool) → stop_by how steps turns ≡ None → (how ≡ None) × (steps ≡ false) × (turns ≡ false)
halted_not (Some e) steps turns h = cc
halted_not None true turns h = cc
halted_not None false true h = cc
halted_not None false false h = (refl, refl, refl)

-- a run that isn't stopped there goes on: it hasn't ended, and is below both limits
pub record IsGoingOn (limits : Limits) (p : Paged) : Type 0 where
  pub ending : (machine_at p.place).ending ≡ None
  pub steps : p.steps < limits.steps
  pub turns : p.turns < limits.turns

pub going_on : (limits : Limits) (p : Paged) → stops limits.steps limits.turns p ≡ None → IsGoingOn limits p
unfolding stops
going_on limits p h =
    let k = halted_not (machine_at p.place).ending (nat_le limits.steps p.steps) (nat_le limits.turns p.turns) h in
    let s = k.1 in
    let t = k.2 in
    record { ending = k.0; steps = grind (arith, nat_tests, s); turns = grind (arith, nat_tests, t) }

counted_by : (m : Option ℕ) (p : Paged) → (attempted_by m p).turns ≡ p.turns + 1
counted_by None p = refl
counted_by (Some page) p = refl

counted : (p : Paged) → (machine_at p.place).ending ≡ None → (attempted p).turns ≡ p.turns + 1
unfolding attempted
counted p going = rw going (counted_by (first_missing (is_resident p.residence) (touches_at p.place)) (marked p))

pub turn_counted : (areas : List Area) (asks : ℕ → List Target) (p : Paged) → (machine_at p.place).ending ≡ None → (next_turn areas asks p).turns ≡ p.turns + 1
turn_counted areas asks p going =
    let pages = all_named areas (asks (p.turns + 1)) in
    let o = many_evicted pages p in
    let t = o.turns in
    let k = counted (all_evicted pages p) (ap (λ (z : Place). (machine_at z).ending) o.place ∙ going) in
    omega (arith, k, t)

record Halts (limits : Limits) (areas : List Area) (rules : List Rule) (p : Paged) : Type 0 where
  pub count : ℕ
  pub goes : Runs limits areas rules p count
  pub why : Why
  pub stopped : stops limits.steps limits.turns (paged areas (due rules) count p) ≡ Some why

module _ (limits : Limits) (areas : List Area) (rules : List Rule) where
  halts_here : (p : Paged) (why : Why) → stops limits.steps limits.turns p ≡ Some why → Halts limits areas rules p
  unfolding paged
  halts_here p why h = record { count = 0; goes = record { going = λ i low. absurd (omega (arith, low)) }; why = why; stopped = h }

  next_is : (i : ℕ) (p : Paged) → paged areas (due rules) i (next_turn areas (due rules) p) ≡ paged areas (due rules) (suc i) p
  unfolding paged
  next_is i p =
      let e : i + 1 ≡ suc i = omega arith in
      paged_more areas (due rules) i 1 p ∙ ap (λ (n : ℕ). paged areas (due rules) n p) e

  first_or_later : (p : Paged) (i : ℕ) → stops limits.steps limits.turns p ≡ None → ((j : ℕ) → suc j ≡ i → stops limits.steps limits.turns (paged areas (due rules) (suc j) p) ≡ None) → stops limits.steps limits.turns (paged areas (due rules) i p) ≡ None
  unfolding paged
  first_or_later p zero none later = none
  first_or_later p (suc j) none later = later j refl

  halts_later : (p : Paged) → stops limits.steps limits.turns p ≡ None → Halts limits areas rules (next_turn areas (due rules) p) → Halts limits areas rules p
  halts_later p none h = record {
    count = suc h.count;
    goes = record {
      going = λ i low. first_or_later p i none (λ j e. subst (λ (z : Paged). stops limits.steps limits.turns z ≡ None) (next_is j p) (h.goes.going j (omega (arith, e, low))));
    };
    why = h.why;
    stopped = subst (λ (z : Paged). stops limits.steps limits.turns z ≡ Some h.why) (next_is h.count p) h.stopped;
  }

  halts_or : (p : Paged) (x : Option Why) → stops limits.steps limits.turns p ≡ x → (x ≡ None → Halts limits areas rules p) → Halts limits areas rules p
  halts_or p (Some why) e more = halts_here p why e
  halts_or p None e more = more refl

  halts : (left : ℕ) (p : Paged) → limits.turns ≤ p.turns + left → Halts limits areas rules p
  halts zero p few = halts_or p (stops limits.steps limits.turns p) refl (λ none. let g = (going_on limits p none).turns in absurd (omega (arith, g, few)))
  halts (suc left) p few = halts_or p (stops limits.steps limits.turns p) refl (λ none.
      let g = going_on limits p none in
      let t = turn_counted areas (due rules) p g.ending in
      halts_later p none (halts left (next_turn areas (due rules) p) (omega (arith, t, few))))

  -- a prefix of what some turns write is one of what the whole run writes
  pub lost_at : (b : Paged) (before file : Option BlockFile) (n : ℕ) (old new : Option Channels) → Runs limits areas rules b n → LostPart (origin limits areas b before old) (paged areas (due rules) n b) file new → IsLost limits areas rules b before file old new
  lost_at b before file n old new goes lost =
      let o = origin limits areas b before old in
      let q = paged areas (due rules) n b in
      let h = halts limits.turns q (omega arith) in
      let e = paged_more areas (due rules) h.count n b in
      let later = subst (λ (z : Paged). LostPart o z file new) e (lost_on o q (paged areas (due rules) h.count q) file new (grows_paged limits.listed areas (due rules) h.count q) lost) in
      record {
        count = h.count + n;
        goes = record {
          going = λ i low. elim (cases_lt i n) [
            | inl early ↦ goes.going i early
            | inr here ↦
                let f : (i - n) + n ≡ i = omega (arith, here) in
                subst (λ (z : Paged). stops limits.steps limits.turns z ≡ None) (paged_more areas (due rules) (i - n) n b ∙ ap (λ (k : ℕ). paged areas (due rules) k b) f) (h.goes.going (i - n) (omega (arith, low, here)))
          ];
        };
        why = h.why;
        stopped = subst (λ (z : Paged). stops limits.steps limits.turns z ≡ Some h.why) e h.stopped;
        wrote = later.wrote;
        moved = later.moved;
      }
