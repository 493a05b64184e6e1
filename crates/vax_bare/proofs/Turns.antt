-- The turns of a run.
use Rattle.std.specs.Prelude.{IsSome}
use Rattle.std.proofs.lemmas.Bool.{cases_lt}
use Rattle.std.proofs.Common.{◌≡◌, ◌<◌, ◌≤◌, ℕ, zero, suc, ◌+◌, ◌-◌, ◌*◌, ◌^◌, Bool, Option, Some, None, List, [], ◌∷◌, ◌++◌, refl, sym, ap, subst, ◌∙◌, arith, inl, inr, append_assoc, Result, Ok, Err, OnErr}
use Rattle.vax_space.specs.declared.Area.{Area}
use Rattle.vax_flat.specs.declared.Ending.{Ending}
use Rattle.vax_flat.specs.Port.{View, StandsFor, layout, with_marks}
use Rattle.vax_flat.specs.Step.{Flat, run, ended, with_byte_sent}
use Rattle.vax_flat.specs.Memory.{is_mapped, AllResident}
use Rattle.vax_flat.proofs.Memory.{is_mapped-layout}
use Rattle.vax_flat.specs.declared.Flow.TheVariants as flow
use Rattle.vax_flat.specs.Accesses.{Leaf, Went, Found}
use Rattle.vax_flat.specs.Outcome.{Outcome, Ends, Raised, first_missing}
use Rattle.vax_flat.specs.Parts.{Partway, Place, At, Within, Turn, Completes, Leaves, GoesBy, after_part, gone_back, left_by, machine_at, outcome_at, partway, start_of, touches_at, turn, turn_from, units_after, units_done}
use Rattle.vax_flat.specs.StringParts.{remaining_in}
use Rattle.vax_flat.proofs.Parts.{parts_less}
use Rattle.vax_flat.proofs.Attempts.{none_missing_attempt}
use Rattle.vax_strpart.specs.Packing.{unpacked}
use Rattle.vax_word.specs.declared.Core.{Core}
use Rattle.vax_flat.proofs.Runs.{run-run, going_back, output_extends}
use Rattle.vax_outside.specs.Channels.{Channels, Grew, GrewByPrefix, only}
use Rattle.vax_outside.specs.declared.traits.Chan.TheVariants.{Out}
use Rattle.vax_outside.proofs.Growth.{prefix_within}
use Rattle.vax_cpu.specs.declared.cpu.Attempt.{Attempt}
use Rattle.vax_cpu.specs.declared.cpu.Attempt.TheVariants as attempt
use Rattle.vax_cpu.specs.declared.cpu.Cpu.{Cpu}
use Rattle.vax_cpu.specs.declared.cpu.Open.{Open}
use Rattle.vax_cpu.specs.Tried.{start_by}
use Rattle.vax_cpu.specs.Attempt.{flat_of, open_at, Attempted, IsAsBefore, IsAt as IsPlaced}
use Rattle.vax_cpu.specs.Batch.{AreAttempts, IsOneAttempt, StaysAt, marks_after}
use Rattle.vax_cpu.proofs.Steps.{stands_marked, start_there}
use Rattle.vax_bare.specs.Run.{StopsAt, IsRun, IsCutShort}

-- the pages of two lists of areas with one layout
alike_resident : (resident other : ℕ → Bool) (a b : List Area) → other ≡ resident → layout b ≡ layout a → AllResident resident a → AllResident other b
alike_resident resident other a b r same all = λ page h.
    ap (λ f. f page) r ∙ all page (sym (is_mapped-layout a page) ∙ (ap (λ areas. is_mapped areas page) (sym same) ∙ (is_mapped-layout b page ∙ h)))

-- what a part leaves of a machine as it was
left_so : (m : Flat) (units : ℕ) (o : Outcome Leaf) (q : Partway) → turn_from m units o ≡ Leaves q → (q.now.output ≡ m.output) × (q.now.ending ≡ m.ending)
left_so m units (Ends (Went flow.Done s) memory) q e = absurd (cc)
left_so m units (Ends (Went flow.Clocked s) memory) q e = absurd (cc)
left_so m units (Ends (Went (flow.Trap kind) s) memory) q e = absurd (cc)
left_so m units (Ends (Went (flow.More opcode more) s) memory) q e =
    let k : record { opcode = opcode; start = m.core; units = units_after units more; now = record m { core = s.core; memory = memory; taken = s.taken } } ≡ q = cc in
    (sym (ap (λ (z : Partway). z.now.output) k), sym (ap (λ (z : Partway). z.now.ending) k))
left_so m units (Ends (Went (flow.Ended x) s) memory) q e = absurd (cc)
left_so m units (Ends (Found operand s) memory) q e = absurd (cc)
left_so m units (Raised x) q e = absurd (cc)

left_is : (t : Turn) (q : Partway) → left_by t ≡ Some q → t ≡ Leaves q
left_is (Completes m) q e = absurd (cc)
left_is (Leaves p) q e = let k : p ≡ q = cc in ap (λ (z : Partway). Leaves z) k

left_at : (place : Place) (q : Partway) → left_by (turn place) ≡ Some q → (q.now.output ≡ (machine_at place).output) × (q.now.ending ≡ (machine_at place).ending)
left_at place q e = left_so (gone_back place) (units_done place) (outcome_at place) q (left_is (turn place) q e)

left_after : (count : ℕ) (m : Flat) (q : Partway) → partway count m ≡ Some q → (q.now.output ≡ m.output) × (q.now.ending ≡ m.ending)
unfolding partway
left_after zero m q e = left_at (At m) q e
left_after (suc count) m q e = by (partway count m) (λ p is. left_after count m p is) e
  where
    by : (before : Option Partway) → ((p : Partway) → before ≡ Some p → (p.now.output ≡ m.output) × (p.now.ending ≡ m.ending)) → after_part before ≡ Some q → (q.now.output ≡ m.output) × (q.now.ending ≡ m.ending)
    by None so e = absurd (cc)
    by (Some p) so e = let a = left_at (Within p) q e in let b = so p refl in (a.0 ∙ b.0, a.1 ∙ b.1)

same_there : (m : Flat) (place : Place) → GoesBy m place → ((machine_at place).output ≡ m.output) × ((machine_at place).ending ≡ m.ending)
same_there m (At n) e = (ap (λ (x : Flat). x.output) e, ap (λ (x : Flat). x.ending) e)
same_there m (Within p) by = left_after by.0 m p by.1

-- the step behind n steps of the flat machine goes by the place where the processor is, and what was sent before it was written
pub record IsAt (m : Flat) (n : ℕ) (cpu : Cpu) (view : View) (old now : Option Channels) : Type 0 where
  pub place : Place
  pub goes : GoesBy (run n m) place
  pub at : IsPlaced cpu place
  pub stands : StandsFor view (machine_at place).memory
  pub resident : AllResident view.resident (machine_at place).memory
  pub wrote : Grew old now (only Out (run n m).output)

pub at_start : (cpu : Cpu) (view : View) (memory : List Area) (old : Option Channels) → cpu.latch ≡ None → StandsFor view memory → AllResident view.resident view.areas → Grew old old (only Out []) → IsAt (flat_of cpu memory []) 0 cpu view old old
unfolding run
at_start cpu view memory old closed st all wrote = record {
  place = At (flat_of cpu memory []);
  goes = refl;
  at = record { open_one = closed; machine = refl };
  stands = st;
  resident = alike_resident view.resident view.resident view.areas memory refl st.areas all;
  wrote = wrote;
}

-- where no instruction is open, the processor is between two steps
closed_there : (place : Place) (latch : Option Open) → latch ≡ open_at place → latch ≡ None → (m : Flat) → GoesBy m place → machine_at place ≡ m
closed_there (At n) latch held closed m goes = goes
closed_there (Within p) latch held closed m goes = let no : Some _ ≡ None = sym held ∙ closed in absurd (cc)

-- an attempt behind k steps
pub record HasTried (m : Flat) (k : ℕ) (view : View) (last : Attempt) (next : Cpu) (after : View) : Type 0 where
  pub from : Place
  pub seen : View
  pub goes : GoesBy (run k m) from
  pub running : (machine_at from).ending ≡ None
  pub attempted : Attempted seen from last next after
  pub resident : seen.resident ≡ view.resident
  pub areas : seen.areas ≡ view.areas
  pub ended : (e : Ending) → last ≡ attempt.Ended e → (next.core ≡ start_of from) × ((machine_at from).taken ≡ next.term.place) × StandsFor after (machine_at from).memory
  pub absent : (page : ℕ) → last ≡ attempt.Absent page → StandsFor after (machine_at from).memory × (after.areas ≡ view.areas)

module _ (m : Flat) (n : ℕ) (cpu next : Cpu) (view after : View) (old mid : Option Channels) (at : IsAt m n cpu view old mid) (count : ℕ) (last : Attempt)
    (closed : cpu.latch ≡ None → (memory : List Area) → (output : List ℕ) → StandsFor view memory → AreAttempts view (flat_of cpu memory output) count last next after)
    (within : IsSome cpu.latch → (place : Place) → IsPlaced cpu place → StandsFor view (machine_at place).memory → IsOneAttempt view place count last next after)
    (before : count ≡ 0 → IsAsBefore last cpu view next after) where
  abbrev here : Flat
  here = machine_at at.place

  going : here.ending ≡ None
  going = ap (λ (x : Flat). x.ending) (sym at.at.machine)

  -- several attempts from between two steps
  from_closed : cpu.latch ≡ None → HasTried m (count + n) view last next after × ((run (count + n) m).output ≡ (run n m).output)
  from_closed none =
      let a = closed none here.memory here.output at.stands in
      let start : flat_of cpu here.memory here.output ≡ run n m = at.at.machine ∙ closed_there at.place cpu.latch at.at.open_one none (run n m) at.goes in
      let there : a.here ≡ run (count + n) m = sym a.steps ∙ (ap (run count) start ∙ run-run count n m) in (
        record {
          from = At a.here;
          seen = with_marks view (marks_after view.resident view.marked count (flat_of cpu here.memory here.output));
          goes = there;
          running = a.running;
          attempted = a.attempted;
          resident = refl;
          areas = refl;
          ended = λ e is. let s = subst (λ (x : Attempt). StaysAt a.here x next after) is a.stays in (ap (λ (x : Flat). x.core) s.0, sym (ap (λ (x : Flat). x.taken) s.0), s.1);
          absent = λ page is. let s = subst (λ (x : Attempt). StaysAt a.here x next after) is a.stays in (s.1, a.areas);
        },
        sym (ap (λ (x : Flat). x.output) there) ∙ (a.silent ∙ ap (λ (x : Flat). x.output) start),
      )

  -- one attempt at the next part of the instruction that is open
  from_open : IsSome cpu.latch → HasTried m (count + n) view last next after × ((run (count + n) m).output ≡ (run n m).output)
  from_open some =
      let a = within some at.place at.at at.stands in
      let same : count + n ≡ n = omega (arith, a.steps) in (
        record {
          from = at.place;
          seen = view;
          goes = subst (λ (i : ℕ). GoesBy (run i m) at.place) (sym same) at.goes;
          running = going;
          attempted = a.attempted;
          resident = refl;
          areas = refl;
          ended = λ e is. let b = subst (λ (x : Attempt). IsAsBefore x cpu view next after) is (before a.steps) in (
            ap (λ (x : Flat). x.core) b.0 ∙ ((λ k. start_by (at.at.open_one k) (at.at.machine k).core) ∙ start_there at.place),
            sym (ap (λ (x : Flat). x.taken) at.at.machine) ∙ sym (ap (λ (x : Flat). x.taken) b.0),
            subst (λ (v : View). StandsFor v here.memory) (sym b.1) (stands_marked view after.marked here.memory at.stands),
          );
          absent = λ page is. let b = subst (λ (x : Attempt). IsAsBefore x cpu view next after) is (before a.steps) in (
            subst (λ (v : View). StandsFor v here.memory) (sym b.1) (stands_marked view after.marked here.memory at.stands),
            ap (λ (v : View). v.areas) b.1,
          );
        },
        ap (λ (i : ℕ). (run i m).output) same,
      )

  tried : HasTried m (n + count) view last next after × ((run (n + count) m).output ≡ (run n m).output)
  tried =
      let e : count + n ≡ n + count = omega arith in
      subst (λ (i : ℕ). HasTried m i view last next after × ((run i m).output ≡ (run n m).output)) e (by cpu.latch refl)
    where
      by : (latch : Option Open) → cpu.latch ≡ latch → HasTried m (count + n) view last next after × ((run (count + n) m).output ≡ (run n m).output)
      by None is = from_closed is
      by (Some open_one) is = from_open (subst IsSome (sym is) refl)

-- attempts behind n steps of the flat machine, of which the last is behind k; nothing was sent before it
pub record Turned (m : Flat) (n k : ℕ) (cpu next : Cpu) (view after : View) (old mid : Option Channels) (last : Attempt) : Type 0 where
  pub at : IsAt m n cpu view old mid
  pub silent : (run k m).output ≡ (run n m).output
  pub tried : HasTried m k view last next after

pub turned : {m : Flat} {n : ℕ} {cpu : Cpu} {view : View} {old mid : Option Channels} {last said : Attempt} (at : IsAt m n cpu view old mid) (next : Cpu) (after : View) (count : ℕ) → last ≡ said
    → (cpu.latch ≡ None → (memory : List Area) → (output : List ℕ) → StandsFor view memory → AreAttempts view (flat_of cpu memory output) count last next after)
    → (IsSome cpu.latch → (place : Place) → IsPlaced cpu place → StandsFor view (machine_at place).memory → IsOneAttempt view place count last next after)
    → (count ≡ 0 → IsAsBefore last cpu view next after)
    → Turned m n (n + count) cpu next view after old mid said
turned {m} {n} {cpu} {view} {old} {mid} {last} {said} at next after count is closed within before =
    let t = tried m n cpu next view after old mid at count last closed within before in
    record { at = at; silent = t.1; tried = subst (λ (l : Attempt). HasTried m (n + count) view l next after) is t.0 }

-- all pages stay resident
stays_resident : {m : Flat} {n : ℕ} {cpu : Cpu} {view : View} {old mid : Option Channels} (after : View) (at : IsAt m n cpu view old mid) (memory : List Area) → after.resident ≡ view.resident → after.areas ≡ view.areas → StandsFor after memory → AllResident after.resident memory
stays_resident {m} {n} {cpu} {view} {old} {mid} after at memory r s st = alike_resident view.resident after.resident (machine_at at.place).memory memory r (st.areas ∙ (ap layout s ∙ sym at.stands.areas)) at.resident

module _ {m : Flat} {n k : ℕ} {cpu next : Cpu} {view after : View} {old mid : Option Channels} where
  -- a step was completed
  module _ {sent : Option ℕ} (t : Turned m n k cpu next view after old mid (attempt.Step sent)) where
    abbrev sent_there : List ℕ
    sent_there = with_byte_sent (machine_at t.tried.from).output sent

    stepped : run (suc k) m ≡ flat_of next t.tried.attempted.1.memory sent_there
    unfolding run
    stepped =
        let s = same_there (run k m) t.tried.from t.tried.goes in
        t.tried.attempted.1.step (run k m) (sym s.1 ∙ t.tried.running) t.tried.goes

    output_is : (run (suc k) m).output ≡ with_byte_sent (run n m).output sent
    output_is =
        let s = same_there (run k m) t.tried.from t.tried.goes in
        ap (λ (x : Flat). x.output) stepped ∙ ap (λ o. with_byte_sent o sent) (s.0 ∙ t.silent)

    goes_on_so : (new : Option Channels) → next.latch ≡ None → Grew old new (only Out (with_byte_sent (run n m).output sent)) → IsAt m (suc k) next after old new
    goes_on_so new closed wrote = record {
      place = At (flat_of next t.tried.attempted.1.memory sent_there);
      goes = sym stepped;
      at = record { open_one = closed; machine = refl };
      stands = t.tried.attempted.1.leaves.stands;
      resident = stays_resident after t.at t.tried.attempted.1.memory (t.tried.attempted.1.leaves.resident ∙ t.tried.resident) (t.tried.attempted.1.leaves.areas ∙ t.tried.areas) t.tried.attempted.1.leaves.stands;
      wrote = subst (λ o. Grew old new (only Out o)) (sym output_is) wrote;
    }

    pub goes_on : (new : Option Channels) → next.latch ≡ None → Grew old new (only Out (with_byte_sent (run n m).output sent)) → IsAt m (k + 1) next after old new
    goes_on new closed wrote = subst (λ (i : ℕ). IsAt m i next after old new) (let e : suc k ≡ k + 1 = omega arith in e) (goes_on_so new closed wrote)

    pub still_going : (run (suc k) m).ending ≡ None
    still_going = ap (λ (x : Flat). x.ending) stepped

  -- a part was completed
  module _ (t : Turned m n k cpu next view after old mid attempt.Part) where
    pub parted : IsAt m k next after old mid
    parted = record {
      place = Within t.tried.attempted.1.next;
      goes = t.tried.attempted.1.by (run k m) t.tried.goes;
      at = t.tried.attempted.1.at;
      stands = t.tried.attempted.1.leaves.stands;
      resident = stays_resident after t.at t.tried.attempted.1.next.now.memory (t.tried.attempted.1.leaves.resident ∙ t.tried.resident) (t.tried.attempted.1.leaves.areas ∙ t.tried.areas) t.tried.attempted.1.leaves.stands;
      wrote = subst (λ o. Grew old mid (only Out o)) (sym t.silent) t.at.wrote;
    }

  -- no page is absent
  pub none_absent : (page : ℕ) → Turned m n k cpu next view after old mid (attempt.Absent page) → ⊥
  none_absent page t =
      let a = t.tried.absent page refl in
      let all : AllResident view.resident (machine_at t.tried.from).memory =
      alike_resident view.resident view.resident (machine_at t.at.place).memory (machine_at t.tried.from).memory refl (a.0.areas ∙ (ap layout a.1 ∙ sym t.at.stands.areas)) t.at.resident in
      let none = none_missing_attempt t.tried.from view.resident all in
      let seen : first_missing view.resident (touches_at t.tried.from) ≡ Some page = ap (λ f. first_missing f (touches_at t.tried.from)) (sym t.tried.resident) ∙ t.tried.attempted.0 in
      let no : Some page ≡ None = sym seen ∙ none in
      absurd (cc)

module _ (limit : ℕ) (m : Flat) (n : ℕ) (cpu : Cpu) (view : View) (old now : Option Channels) (at : IsAt m n cpu view old now) where
  going_there : (run n m).ending ≡ None
  going_there = sym (same_there (run n m) at.place at.goes).1 ∙ ap (λ (x : Flat). x.ending) (sym at.at.machine)

  pub going_until : (k : ℕ) → k < n → (run k m).ending ≡ None
  going_until k below =
      let e : n ≡ (n - k) + k = omega arith in
      going_back k (n - k) m (ap (λ (i : ℕ). (run i m).ending) (sym e) ∙ going_there)

  -- at the limit
  pub at_limit : cpu.latch ≡ None → n ≤ limit → limit ≤ n → IsRun limit m cpu view old now (record { ending = None; steps = n })
  at_limit closed low high =
      let here : flat_of cpu (machine_at at.place).memory (machine_at at.place).output ≡ run n m = at.at.machine ∙ closed_there at.place cpu.latch at.at.open_one closed (run n m) at.goes in
      record {
        stops = record { within = low; going = going_until; stopped = λ e. omega arith };
        core = sym (ap (λ (x : Flat). x.core) here);
        stands = subst (StandsFor view) (ap (λ (x : Flat). x.memory) here) at.stands;
        taken = sym (ap (λ (x : Flat). x.taken) here);
        ending = going_there;
        wrote = at.wrote;
      }

going_below : (n : ℕ) (m : Flat) → (run n m).ending ≡ None → (k : ℕ) → k < n → (run k m).ending ≡ None
going_below n m going k below =
    let s : n ≡ (n - k) + k = omega arith in
    going_back k (n - k) m (ap (λ (i : ℕ). (run i m).ending) (sym s) ∙ going)

going_through : (n : ℕ) (m : Flat) → (run n m).ending ≡ None → (k : ℕ) → k < suc n → (run k m).ending ≡ None
going_through n m going k below =
    let s : n ≡ (n - k) + k = omega arith in
    going_back k (n - k) m (ap (λ (i : ℕ). (run i m).ending) (sym s) ∙ going)

abbrev Stops : ℕ → ℕ → Flat → Type 0
Stops n limit m = (k : ℕ) × StopsAt k limit m × (n ≤ k)

stops_or_goes_on : (n limit : ℕ) (m : Flat) (e : Option Ending) → n < limit → (run n m).ending ≡ None → (run (suc n) m).ending ≡ e → ((run (suc n) m).ending ≡ None → Stops (suc n) limit m) → Stops n limit m
stops_or_goes_on n limit m None low going next rest = let r = rest next in (r.0, r.1, omega (arith, r.2))
stops_or_goes_on n limit m (Some x) low going next rest = (
  suc n,
  record {
    within = omega arith;
    going = going_through n m going;
    stopped = λ h. let no : Some x ≡ None = sym next ∙ h in cc;
  },
  omega arith,
)

-- a machine that goes on after n steps stops later, or at the limit
pub stops_later : (fuel n limit : ℕ) (m : Flat) → n + fuel ≡ limit → (run n m).ending ≡ None → Stops n limit m
stops_later zero n limit m e going = (
  n,
  record { within = omega arith; going = going_below n m going; stopped = λ h. omega arith },
  omega arith,
)
stops_later (suc fuel) n limit m e going =
    let low : n < limit = omega arith in
    stops_or_goes_on n limit m (run (suc n) m).ending low going refl
    (λ next. let s : suc n + fuel ≡ limit = omega arith in stops_later fuel (suc n) limit m s next)

-- a run whose last attempt ended it
module _ (limit : ℕ) {m : Flat} {n k : ℕ} {cpu next : Cpu} {view after : View} {old mid : Option Channels} where
  ends_so : (e : Ending) → Turned m n k cpu next view after old mid (attempt.Ended e) → suc k ≤ limit → IsRun limit m next after old mid (record { ending = Some e; steps = suc k })
  unfolding run
  ends_so e t low =
      let s = same_there (run k m) t.tried.from t.tried.goes in
      let going : (run k m).ending ≡ None = sym s.1 ∙ t.tried.running in
      let is : run (suc k) m ≡ ended (gone_back t.tried.from) e = t.tried.attempted.1.step (run k m) going t.tried.goes in
      let stays = t.tried.ended e refl in
      record {
        stops = record {
          within = low;
          going = λ i below. going_through k m going i below;
          stopped = λ h. let no : Some e ≡ None = sym (ap (λ (x : Flat). x.ending) is) ∙ h in absurd (cc);
        };
        core = ap (λ (x : Flat). x.core) is ∙ sym stays.0;
        stands = subst (StandsFor after) (sym (ap (λ (x : Flat). x.memory) is)) stays.2;
        taken = ap (λ (x : Flat). x.taken) is ∙ stays.1;
        ending = ap (λ (x : Flat). x.ending) is;
        wrote = subst (λ o. Grew old mid (only Out o)) (sym (ap (λ (x : Flat). x.output) is ∙ (s.0 ∙ t.silent))) t.at.wrote;
      }

  pub ends : (e : Ending) → Turned m n k cpu next view after old mid (attempt.Ended e) → k + 1 ≤ limit → IsRun limit m next after old mid (record { ending = Some e; steps = k + 1 })
  ends e t low =
      let same : suc k ≡ k + 1 = omega arith in
      subst (λ (i : ℕ). IsRun limit m next after old mid (record { ending = Some e; steps = i })) same (ends_so e t (omega arith))

  -- a byte that couldn't be written
  pub cut_short : (byte : ℕ) (new : Option Channels) → Turned m n k cpu next view after old mid (attempt.Step (Some byte)) → k + 1 ≤ limit → GrewByPrefix mid new (only Out (byte ∷ [])) → IsCutShort limit m old new
  cut_short byte new t low wrote =
      let place = suc k in
      let fuel : place + (limit - place) ≡ limit = omega arith in
      let s = stops_later (limit - place) place limit m fuel (still_going t) in
      let far : s.0 ≡ (s.0 - place) + place = omega (arith, s.2) in
      let more = output_extends place (s.0 - place) m in
      let whole : (run s.0 m).output ≡ (run place m).output ++ more.more = ap (λ (i : ℕ). (run i m).output) far ∙ more.is in
      let parts : (run n m).output ++ (byte ∷ [] ++ more.more) ≡ (run s.0 m).output =
      sym (whole ∙ (ap (λ o. o ++ more.more) (output_is t) ∙ append_assoc (run n m).output (byte ∷ []) more.more)) in
      record { steps = s.0; stops = s.1; wrote = prefix_within old mid new Out (run n m).output (byte ∷ []) more.more (run s.0 m).output parts t.at.wrote wrote }

-- at the limit no instruction is open
pub closed_at_limit : (latch : Option Open) (steps limit : ℕ) → (IsSome latch → steps < limit) → limit ≤ steps → latch ≡ None
closed_at_limit None steps limit inside most = refl
closed_at_limit (Some latched) steps limit inside most = let below : steps < limit = inside refl in absurd (omega arith)

-- how much a run has to do: steps, and in a step what remains of its string instruction
abbrev pub rank : Option Open → Core → ℕ
rank None core = 2 ^ 39
rank (Some latched) core = remaining_in latched.opcode core

rank_few : (latch : Option Open) (core : Core) → rank latch core ≤ 2 ^ 39
unfolding unpacked
rank_few None core = omega arith
rank_few (Some latched) core = omega arith

abbrev pub to_do : ℕ → ℕ → Cpu → ℕ
to_do limit steps cpu = (limit - steps) * 2 ^ 40 + rank cpu.latch cpu.core

pub less_by_step : (limit steps count : ℕ) (cpu next : Cpu) → steps + count < limit → to_do limit (steps + count + 1) next < to_do limit steps cpu
less_by_step limit steps count cpu next few = let a = rank_few next.latch next.core in omega arith

-- fewer by parts
less_by_parts : (limit steps count : ℕ) (cpu next : Cpu) → steps + count < limit → 0 < count → to_do limit (steps + count) next < to_do limit steps cpu
less_by_parts limit steps count cpu next few some = let a = rank_few next.latch next.core in omega arith

opened_few : (o : Option Open) (core : Core) → IsSome o → rank o core < 2 ^ 39
unfolding unpacked
opened_few None core some = absurd (cc)
opened_few (Some latched) core some = omega arith

part_rank : (place : Place) (latch : Option Open) (core : Core) → latch ≡ open_at place → (machine_at place).core ≡ core → (m : Flat) → GoesBy m place → (q : Partway) → turn place ≡ Leaves q → remaining_in q.opcode q.now.core < rank latch core
unfolding unpacked
part_rank (At n) latch core held same m goes q is = subst (λ (l : Option Open). remaining_in q.opcode q.now.core < rank l core) (sym held) (omega arith)
part_rank (Within p) latch core held same m goes q is =
    subst (λ (l : Option Open). remaining_in q.opcode q.now.core < rank l core) (sym held)
    (subst (λ (c : Core). remaining_in q.opcode q.now.core < remaining_in p.opcode c) same (parts_less m p q goes is))

pub less_by_part : (limit : ℕ) (m : Flat) (n : ℕ) (cpu next : Cpu) (view after : View) (old mid : Option Channels) (at : IsAt m n cpu view old mid) (count : ℕ) →
    (cpu.latch ≡ None → (memory : List Area) → (output : List ℕ) → StandsFor view memory → AreAttempts view (flat_of cpu memory output) count attempt.Part next after) →
    (IsSome cpu.latch → (place : Place) → IsPlaced cpu place → StandsFor view (machine_at place).memory → IsOneAttempt view place count attempt.Part next after) → IsSome next.latch → n + count < limit →
    to_do limit (n + count) next < to_do limit n cpu
less_by_part limit m n cpu next view after old mid at count closed within opened few = elim (cases_lt 0 count) [
  | inl some ↦ less_by_parts limit n count cpu next few some
  | inr none ↦
      let zero_made : count ≡ 0 = omega arith in
      let same : n + count ≡ n = omega arith in
      subst (λ (i : ℕ). to_do limit i next < to_do limit n cpu) (sym same) (below (by cpu.latch refl))
]
  where
    below : rank next.latch next.core < rank cpu.latch cpu.core → to_do limit n next < to_do limit n cpu
    below h = omega arith

    by : (latch : Option Open) → cpu.latch ≡ latch → rank next.latch next.core < rank cpu.latch cpu.core
    by None is = subst (λ (l : Option Open). rank next.latch next.core < rank l cpu.core) (sym is) (opened_few next.latch next.core opened)
    by (Some latched) is =
        let a = within (subst IsSome (sym is) refl) at.place at.at at.stands in
        let p = a.attempted.1 in
        let there : remaining_in p.next.opcode p.next.now.core ≡ rank next.latch next.core = ap (λ (c : Core). remaining_in p.next.opcode c) (sym (ap (λ (x : Flat). x.core) p.at.machine)) ∙ ap (λ (l : Option Open). rank l next.core) (sym p.at.open_one) in
        subst (λ r. r < rank cpu.latch cpu.core) there (part_rank at.place cpu.latch cpu.core at.at.open_one (sym (ap (λ (x : Flat). x.core) at.at.machine)) (run n m) at.goes p.next p.turn)

pub failed : {A E : Type 0} {P : Type 0} (r : Result A E) → P → OnErr r P
failed (Ok x) p = tt
failed (Err e) p = p
