-- Runs.
use Rattle.std.proofs.Common.{ℕ, zero, suc, ◌≡◌, ◌+◌, ◌-◌, ◌<◌, ◌≤◌, true, false, nat_le, List, [], ◌∷◌, ◌++◌, append-nil, refl, ap, sym, ◌∙◌, subst, arith, inl, inr, Option, Some, None, Result, Ok, Err, OnOk}
use Rattle.std.specs.Prelude.{◌⊎◌, ◌==◌, if◌then◌else◌}
use Rattle.std.proofs.lemmas.Bool.Decides.{nat_tests}
use Rattle.std.proofs.lemmas.Bool.{cases_eq, cases_lt, ne_eqb}
use Rattle.vax_space.specs.declared.Area.{Area}
use Rattle.vax_space.specs.Faults.{IsSpace}
use Rattle.vax_outside.specs.Blocks.{BlockFile}
use Rattle.vax_outside.specs.Channels.{Channels, Grew, GrewByPrefix, nothing}
use Rattle.vax_flat.specs.declared.Ending.{Ending}
use Rattle.vax_flat.specs.Outcome.{first_missing}
use Rattle.vax_flat.specs.Parts.{Place, machine_at, touches_at}
use Rattle.vax_flat.specs.Port.{layout}
use Rattle.vax_flat.specs.Step.{Flat}
use Rattle.vax_pager.specs.Listing.{is_listed}
use Rattle.vax_pager.specs.Calls.{IsPaging}
use Rattle.vax_pager.specs.Meaning.{pages}
use Rattle.vax_pager.specs.Paging.{Paging, StandsWith}
use Rattle.vax_pager.proofs.Listing.{in_push}
use Rattle.vax_sched.specs.Due.{due}
use Rattle.vax_sched.specs.declared.rule.Rule.{Rule}
use Rattle.vax_sched.specs.declared.rule.Target.{Target}
use Rattle.vax_machine.proofs.Halting.{grows_attempted, lost_at, paged_more}
use Rattle.vax_machine.proofs.Listing.{grows_evicted}
use Rattle.vax_machine.proofs.Bound.{IsBounded, begun_bounded, few_cut, few_turns, paged_bounded}
use Rattle.vax_machine.proofs.Moving.{first_on, moved_again, moved_first, moved_none}
use Rattle.vax_machine.proofs.Outputs.{Grows, IsErrLike, lost_on, part_on, sends_none, sends_same, wrote_all, wrote_part}
use Rattle.vax_machine.proofs.Touching.{missed, page_small}
use Rattle.vax_machine.proofs.Tracking.{attempted_miss, evicted_append, evicted_none, many_evicted, pins_evicted}
use Rattle.vax_machine.specs.Blocks.{Moved}
use Rattle.vax_machine.specs.Machine.{Means, residence}
use Rattle.vax_machine.specs.Paged.{Paged, ByEnding, BySteps, ByTurns, all_evicted, all_named, attempted, attempted_by, marked, next_turn, paged, stops, unless_ended}
use Rattle.vax_machine.specs.Residence.{Residence, is_resident, served, victim, without_victim}
use Rattle.vax_machine.specs.Run.{Ends, FewTurns, IsCut, IsLost, IsWhole, Runs, Tracks, begun, origin, why_of}
use Rattle.vax_machine.specs.Touched.{PinsTouched, is_touched}
use Rattle.vax_machine.specs.Calling.{Asking, Misses, NextCallFails, ServiceFails, asking_of, room_made}
use Rattle.vax_machine.specs.GoingOn.{GoneOn, HasStopped}
use Rattle.vax_machine.specs.Turn.{AreCut, AreLost, AreMade, AreWhole, AttemptsCut, AttemptsDone, AttemptsFollow, AttemptsLost, EvictedAll, Finishes, Follows, IsBegun, IsCutTurn, IsStop, IsUnserved, LostPart, Reached, TurnsMade, attempted_times}
use Rattle.vax_machine.specs.Writing.{Origin, Sends, WrotePart, held_in}
use Rattle.vax_machine.specs.declared.engine.Engine.{Engine}
use Rattle.vax_machine.specs.declared.event.Fault.{Fault}
use Rattle.vax_machine.specs.declared.event.Fault.TheVariants.{Page, Write}
use Rattle.vax_machine.specs.declared.event.Limits.{Limits}
use Rattle.vax_machine.specs.declared.event.RunEnd.{RunEnd}
use Rattle.vax_machine.specs.declared.event.RunEnd.TheVariants as run_end
use Rattle.vax_machine.specs.declared.held.Held.{Held}

-- the attempt that comes goes on to touch the pages that are pinned

victim_pins : (v : Option ℕ) (r : Residence) → (without_victim v r).pinned ≡ r.pinned
victim_pins None r = refl
victim_pins (Some page) r = refl

pub served_pins : (page : ℕ) (r : Residence) → (served page r).pinned ≡ r.pinned ++ page ∷ []
unfolding served
served_pins page r = ap (λ (xs : List ℕ). xs ++ page ∷ []) (victim_pins (victim r) r)

pub pinned_or : (page other : ℕ) (xs : List ℕ) → is_listed other (xs ++ page ∷ []) ≡ true → (other ≡ page) ⊎ (is_listed other xs ≡ true)
pinned_or page other xs h = elim (cases_eq other page) [
  | inl e ↦ inl e
  | inr o ↦ let k : (if other == page then true else is_listed other xs) ≡ true = sym (in_push other page xs) ∙ h in inr (rw (ne_eqb other page o) at k)
]

pins_step : (p : Paged) (m : Option ℕ) → first_missing (is_resident p.residence) (touches_at p.place) ≡ m → PinsTouched p.residence p.place → PinsTouched (attempted_by m p).residence (attempted_by m p).place
unfolding is_listed
pins_step p None e h = record { touched = λ page k. let no : false ≡ true = k in cc }
pins_step p (Some page) e h = record {
  touched = λ other k. elim (pinned_or page other p.residence.pinned (ap (is_listed other) (sym (served_pins page p.residence)) ∙ k)) [
    | inl same ↦ ap (λ (z : ℕ). is_touched z (touches_at p.place)) same ∙ (missed (is_resident p.residence) (touches_at p.place) page e).0
    | inr there ↦ h.touched other there
  ];
}

pins_unless : (how : Option Ending) (p next : Paged) → PinsTouched p.residence p.place → PinsTouched next.residence next.place → PinsTouched (unless_ended how p next).residence (unless_ended how p next).place
pins_unless (Some e) p next a b = a
pins_unless None p next a b = b

pins_attempted : (p : Paged) → PinsTouched p.residence p.place → PinsTouched (attempted p).residence (attempted p).place
unfolding attempted
pins_attempted p h = pins_unless (machine_at p.place).ending p (attempted_by (first_missing (is_resident p.residence) (touches_at p.place)) (marked p)) h
    (pins_step (marked p) (first_missing (is_resident p.residence) (touches_at p.place)) refl h)

pub pins_paged : (areas : List Area) (asks : ℕ → List Target) (count : ℕ) (p : Paged) → PinsTouched p.residence p.place → PinsTouched (paged areas asks count p).residence (paged areas asks count p).place
unfolding paged
pins_paged areas asks zero p h = h
pins_paged areas asks (suc count) p h =
    let q = paged areas asks count p in
    pins_attempted (all_evicted (all_named areas (asks (q.turns + 1))) q) (pins_evicted (all_named areas (asks (q.turns + 1))) q (pins_paged areas asks count p h))

-- why a run stops

ending_is : (m : Engine) (file : Option BlockFile) (p : Paged) → Tracks m file p → (machine_at p.place).ending ≡ m.ended
ending_is m file p t = sym (ap (λ (z : Flat). z.ending) t.means.processor.machine)

pub by_ending : (limits : Limits) (m : Engine) (file : Option BlockFile) (p : Paged) (e : Ending) → m.ended ≡ Some e → Tracks m file p → stops limits.steps limits.turns p ≡ Some (ByEnding e)
unfolding stops
by_ending limits m file p e is t = rw (ending_is m file p t, is) refl

pub by_steps : (limits : Limits) (m : Engine) (file : Option BlockFile) (p : Paged) → m.ended ≡ None → limits.steps ≤ m.steps → Tracks m file p → stops limits.steps limits.turns p ≡ Some BySteps
unfolding stops
by_steps limits m file p is s t =
    let a = t.steps in
    let e : nat_le limits.steps p.steps ≡ true = grind (arith, nat_tests, a, s) in
    rw (ending_is m file p t, is, e) refl

pub by_turns : (limits : Limits) (m : Engine) (file : Option BlockFile) (p : Paged) → m.ended ≡ None → m.steps < limits.steps → limits.turns ≤ m.turns → Tracks m file p → stops limits.steps limits.turns p ≡ Some ByTurns
unfolding stops
by_turns limits m file p is s u t =
    let a = t.steps in
    let b = t.turns in
    let e : nat_le limits.steps p.steps ≡ false = grind (arith, nat_tests, a, s) in
    let f : nat_le limits.turns p.turns ≡ true = grind (arith, nat_tests, b, u) in
    rw (ending_is m file p t, is, e, f) refl

pub goes_on : (limits : Limits) (p : Paged) → (machine_at p.place).ending ≡ None → p.steps < limits.steps → p.turns < limits.turns → stops limits.steps limits.turns p ≡ None
unfolding stops
goes_on limits p is s u =
    let e : nat_le limits.steps p.steps ≡ false = grind (arith, nat_tests, s) in
    let f : nat_le limits.turns p.turns ≡ false = grind (arith, nat_tests, u) in
    rw (is, e, f) refl

pub by_none : (limits : Limits) (m : Engine) (file : Option BlockFile) (p : Paged) → m.ended ≡ None → m.steps < limits.steps → m.turns < limits.turns → Tracks m file p → stops limits.steps limits.turns p ≡ None
by_none limits m file p is s u t = goes_on limits p (ending_is m file p t ∙ is) (let a = t.steps in omega (arith, a, s)) (let b = t.turns in omega (arith, b, u))

-- several turns, of which only the first has something due

module _ (limits : Limits) (areas : List Area) (asks : ℕ → List Target) (p : Paged) where
  abbrev behind : Paged
  behind = all_evicted (all_named areas (asks (p.turns + 1))) p

  none_due : (count i : ℕ) (whole : AreWhole behind count) → ((k : ℕ) → k < count → asks (p.turns + 2 + k) ≡ []) → i < count → asks ((attempted_times (suc i) behind).turns + 1) ≡ []
  none_due count i whole quiet low =
      let o = (many_evicted (all_named areas (asks (p.turns + 1))) p).turns in
      let t = whole.turns (suc i) (omega (arith, low)) in
      let e : (attempted_times (suc i) behind).turns + 1 ≡ p.turns + 2 + i = omega (arith, o, t) in
      ap asks e ∙ quiet i low

  turns_are : (count : ℕ) (whole : AreWhole behind count) → ((k : ℕ) → k < count → asks (p.turns + 2 + k) ≡ []) → (i : ℕ) → i ≤ count → paged areas asks (suc i) p ≡ attempted_times (suc i) behind
  unfolding paged attempted_times
  turns_are count whole quiet zero low = refl
  turns_are count whole quiet (suc i) low =
      let x = attempted_times (suc i) behind in
      let due_none : asks (x.turns + 1) ≡ [] = none_due count i whole quiet (omega (arith, low)) in
      ap (next_turn areas asks) (turns_are count whole quiet i (omega (arith, low)))
      ∙ ap attempted (ap (λ (ts : List Target). all_evicted (all_named areas ts) x) due_none ∙ evicted_none x)

  goes_through : (count : ℕ) (whole : AreWhole behind count) → ((k : ℕ) → k < count → asks (p.turns + 2 + k) ≡ []) → stops limits.steps limits.turns p ≡ None → p.steps + count < limits.steps → p.turns + count < limits.turns → (i : ℕ) → i ≤ count → stops limits.steps limits.turns (paged areas asks i p) ≡ None
  unfolding paged
  goes_through count whole quiet first s u zero low = first
  goes_through count whole quiet first s u (suc i) low =
      let o = many_evicted (all_named areas (asks (p.turns + 1))) p in
      let a = o.steps in
      let b = o.turns in
      let c = whole.steps (suc i) low in
      let d = whole.turns (suc i) low in
      subst (λ (z : Paged). stops limits.steps limits.turns z ≡ None) (sym (turns_are count whole quiet i (omega (arith, low))))
      (goes_on limits (attempted_times (suc i) behind) (whole.going (suc i) low) (omega (arith, a, c, s, low)) (omega (arith, b, d, u, low)))

module _ (limits : Limits) (o : Origin) (areas : List Area) (rules : List Rule) (old m : Engine) (before file : Option BlockFile) (now : Option Channels) (left : Held) (p : Paged) (t : Tracks old before p) where
  due_as : all_named areas (due rules (old.turns + 1)) ≡ all_named areas (due rules (p.turns + 1))
  due_as = let e : old.turns + 1 ≡ p.turns + 1 = ap (λ (n : ℕ). n + 1) t.turns in ap (λ (n : ℕ). all_named areas (due rules n)) e

  first_going : stops limits.steps limits.turns p ≡ None → (i : ℕ) → i ≤ 0 → stops limits.steps limits.turns (paged areas (due rules) i p) ≡ None
  unfolding paged
  first_going none i low = let e : i ≡ 0 = omega (arith, low) in subst (λ (z : ℕ). stops limits.steps limits.turns (paged areas (due rules) z p) ≡ None) (sym e) none

  -- not all of what was due was made absent
  cut_evictions : stops limits.steps limits.turns p ≡ None → IsBegun o (all_named areas (due rules (old.turns + 1))) p m file now left → AreCut limits o areas rules p m file now left
  unfolding paged
  cut_evictions none h =
      let e = many_evicted h.front p in
      record {
        count = 0;
        going = first_going none;
        cut = record {
          front = h.front;
          rest = h.rest;
          splits = sym due_as ∙ h.splits;
          residence = h.follows.tracks.residence;
          means = subst (λ (z : Place). Means m file z) e.place h.follows.tracks.means;
          steps = h.follows.tracks.steps ∙ e.steps;
          fails = inl (h.next, h.follows.moved, h.follows.tracks.turns);
          sends = h.follows.sends;
        };
      }

  -- or not all of it was listed
  lost_evictions : stops limits.steps limits.turns p ≡ None → LostPart o (all_evicted (all_named areas (due rules (old.turns + 1))) p) file now → AreLost limits o areas rules p file now
  unfolding paged
  lost_evictions none w =
      let there = all_evicted (all_named areas (due rules (p.turns + 1))) p in
      record {
        count = 0;
        going = first_going none;
        part = lost_on o there (attempted there) file now (grows_attempted o.listed there) (subst (λ (pages : List ℕ). LostPart o (all_evicted pages p) file now) due_as w);
      }

  pub unevicted : (r q : Result (Unit {0}) Fault) → IsErrLike r q → stops limits.steps limits.turns p ≡ None → EvictedAll q o (all_named areas (due rules (old.turns + 1))) p m file now left → TurnsMade r limits o areas rules p m file now left
  unevicted (Ok x) (Ok y) l none h = absurd l
  unevicted (Ok x) (Err b) l none h = absurd l
  unevicted (Err a) (Ok y) l none h = absurd l
  unevicted (Err Page) (Err Page) l none h = cut_evictions none h
  unevicted (Err Write) (Err Write) l none h = lost_evictions none h
  unevicted (Err Page) (Err Write) l none h = cc
  unevicted (Err Write) (Err Page) l none h = cc

  module _ (most : ℕ) (steps_room : old.steps + most ≤ limits.steps) (turns_room : old.turns + most ≤ limits.turns) (none : stops limits.steps limits.turns p ≡ None) (gap : (k : ℕ) → k + 1 < most → due rules (old.turns + 2 + k) ≡ []) where
    quiet : (count : ℕ) → count < most → (k : ℕ) → k < count → due rules (p.turns + 2 + k) ≡ []
    quiet count few k low =
        let e : p.turns + 2 + k ≡ old.turns + 2 + k = ap (λ (n : ℕ). n + 2 + k) (sym t.turns) in
        ap (due rules) e ∙ gap k (omega (arith, few, low))

    steps_low : (count : ℕ) → count < most → p.steps + count < limits.steps
    steps_low count few = let a = t.steps in omega (arith, a, few, steps_room)

    turns_low : (count : ℕ) → count < most → p.turns + count < limits.turns
    turns_low count few = let a = t.turns in omega (arith, a, few, turns_room)

    abbrev here : Paged
    here = behind limits areas (due rules) p

    going_through : (count : ℕ) → count < most → AreWhole here count → (i : ℕ) → i ≤ count → stops limits.steps limits.turns (paged areas (due rules) i p) ≡ None
    going_through count few whole = goes_through limits areas (due rules) p count whole (quiet count few) none (steps_low count few) (turns_low count few)

    last_turn : (count : ℕ) → count < most → AreWhole here count → paged areas (due rules) (suc count) p ≡ attempted_times (suc count) here
    last_turn count few whole = turns_are limits areas (due rules) p count whole (quiet count few) count (omega arith)

    made : AttemptsFollow most o here m file now left → AreMade limits o areas rules p m file now left
    made h = record {
      count = h.count;
      going = going_through h.count h.few h.whole;
      follows = subst (λ (z : Paged). Follows o z m file now left) (sym (last_turn h.count h.few h.whole)) h.follows;
    }

    lost : AttemptsLost most o here file now → AreLost limits o areas rules p file now
    lost h = record {
      count = h.count;
      going = going_through h.count h.few h.whole;
      part = subst (λ (z : Paged). LostPart o z file now) (sym (last_turn h.count h.few h.whole)) h.part;
    }

    -- what the file did up to the attempt whose page wasn't served
    fails_here : (middle : Option BlockFile) (u : IsUnserved most o.areas here middle m file) → Moved o.areas o.at here o.file middle → ServiceFails o.areas o.at (attempted_times u.count here) (asking_of m) o.file file
    fails_here middle u x = record {
      missed = u.fails.missed;
      fails = elim u.fails.fails [
        | inl y ↦ inl (y.0, moved_again o.areas o.at here (attempted_times u.count here) o.file middle file x y.1)
        | inr y ↦ inr (y.0, moved_again o.areas o.at here (room_made (marked (attempted_times u.count here))) o.file middle file x y.1)
      ];
      made = u.fails.made;
      wanted = u.fails.wanted;
    }

    cut_at : (count : ℕ) → (whole : AreWhole here count) → count < most → m.steps ≡ (attempted_times count here).steps → residence m ≡ (attempted_times count here).residence → Means m file (attempted_times count here).place → ServiceFails o.areas o.at (attempted_times count here) (asking_of m) o.file file → Sends o (attempted_times count here) now (held_in left) → IsCutTurn o areas rules (paged areas (due rules) count p) m file now left
    unfolding paged attempted_times
    cut_at zero whole few s r means fails sends =
        let all = all_named areas (due rules (p.turns + 1)) in
        let e = many_evicted all p in
        record {
          front = all;
          rest = [];
          splits = sym (append-nil all);
          residence = r;
          means = subst (λ (z : Place). Means m file z) e.place means;
          steps = s ∙ e.steps;
          fails = inr (refl, fails);
          sends = sends;
        }
    cut_at (suc count) whole few s r means fails sends =
        let x = attempted_times (suc count) here in
        let q = quiet (suc count) few in
        let e = turns_are limits areas (due rules) p (suc count) whole q count (omega arith) in
        let none_at : due rules (x.turns + 1) ≡ [] = none_due limits areas (due rules) p (suc count) count whole q (omega arith) in
        let none_more = sym (evicted_none x) in
        subst (λ (z : Paged). IsCutTurn o areas rules z m file now left) (sym e) (record {
          front = [];
          rest = [];
          splits = ap (all_named areas) none_at;
          residence = r ∙ ap (λ (z : Paged). z.residence) none_more;
          means = means;
          steps = s;
          fails = inr (refl, subst (λ (z : Paged). ServiceFails o.areas o.at z (asking_of m) o.file file) none_more fails);
          sends = subst (λ (z : Paged). Sends o z now (held_in left)) none_more sends;
        })

    cut_short : AttemptsCut most o here m file now left → AreCut limits o areas rules p m file now left
    unfolding attempted_times
    cut_short h =
        let u = h.unserved in
        record {
          count = u.count;
          going = going_through u.count u.few u.whole;
          cut = cut_at u.count u.whole u.few u.steps u.residence u.means (fails_here h.before u h.moved) (sends_same o here (attempted_times u.count here) now (held_in left) h.sends (u.silent o.listed));
        }

    done_by : (result : Result (Unit {0}) Fault) → AttemptsDone result most o here m file now left → TurnsMade result limits o areas rules p m file now left
    done_by (Ok x) h = made h
    done_by (Err Page) h = cut_short h
    done_by (Err Write) h = lost h

    pub turns_made : (result : Result (Unit {0}) Fault) → AttemptsDone result most o (all_evicted (all_named areas (due rules (old.turns + 1))) p) m file now left → TurnsMade result limits o areas rules p m file now left
    turns_made result h = done_by result (subst (λ (pages : List ℕ). AttemptsDone result most o (all_evicted pages p) m file now left) due_as h)

pub on_ok : {A E P : Type 0} (r : Result A E) → P → OnOk r P
on_ok (Ok x) p = p
on_ok (Err e) p = tt

-- where not all that was to be written was, the last attempt's page that made room may have been written

room_reads : (p : Paged) (m : Misses p) → (room_made (marked p)).reads ≤ (attempted p).reads
room_reads p m = let e = ap (λ (z : Paged). z.reads) (attempted_miss p m.page m.going m.missing) in omega (arith, e)

room_evictions : (p : Paged) (m : Misses p) → (attempted p).evictions ≡ (room_made (marked p)).evictions ++ []
room_evictions p m = ap (λ (z : Paged). z.evictions) (attempted_miss p m.page m.going m.missing) ∙ sym (append-nil (room_made (marked p)).evictions)

lost_cut : (o : Origin) (p all : Paged) (rest : List ℕ) (asks : Asking) (file : Option BlockFile) (now : Option Channels) → Grows o.listed p all → all_evicted rest p ≡ all → WrotePart o p now → NextCallFails o.areas o.at p rest asks o.file file → LostPart o (attempted all) file now
lost_cut o p all rest asks file now g e w (inl x) =
    lost_on o all (attempted all) file now (grows_attempted o.listed all) (lost_on o p all file now g (record { wrote = w; moved = moved_first o.areas o.at p o.file file x.1 }))
lost_cut o p all rest asks file now g e w (inr x) =
    let same : p ≡ all = sym (evicted_none p) ∙ (ap (λ (xs : List ℕ). all_evicted xs p) (sym x.0) ∙ e) in
    let m = x.1.missed in
    let wrote = part_on o p (attempted p) now (grows_attempted o.listed p) w in
    subst (λ (z : Paged). LostPart o (attempted z) file now) same (elim x.1.fails [
      | inl y ↦ lost_on o p (attempted p) file now (grows_attempted o.listed p) (record { wrote = w; moved = moved_first o.areas o.at p o.file file y.1 })
      | inr y ↦ record {
        wrote = wrote;
        moved =
            first_on o.areas o.at (room_made (marked p)) (attempted p) o.file file [] (room_evictions p m) (room_reads p m)
            (moved_first o.areas o.at (room_made (marked p)) o.file file y.1);
      }
    ])

-- a run begins with few pages pinned

stands_layout : (s : Paging) (file : Option BlockFile) (memory : List Area) → StandsWith s file memory → layout memory ≡ layout s.areas
stands_layout s None memory st = absurd st
stands_layout s (Some file) memory st = st.areas

pub begins_bounded : (m : Engine) (file : Option BlockFile) (place : Place) → IsPaging (pages m.pager) → IsSpace (pages m.pager).areas → Means m file place → PinsTouched (residence m) place → IsBounded (pages m.pager).areas (begun m place) (begun m place)
begins_bounded m file place f space means pins =
    begun_bounded (pages m.pager).areas (begun m place) (stands_layout (pages m.pager) file (machine_at place).memory means.memory) pins f.pinned_once f.pinned
    (λ page r. page_small (pages m.pager).areas page space (f.inside page r))

-- the loop

pub at_here : (limits : Limits) (o : Origin) (areas : List Area) (rules : List Rule) (p : Paged) (m : Engine) (file : Option BlockFile) (now : Option Channels) (left : Held) → Follows o p m file now left → Reached limits o areas rules p m file now left
unfolding paged
at_here limits o areas rules p m file now left f = record { made = 0; goes = record { going = λ i low. absurd (omega (arith, low)) }; follows = f }

-- where a run begins it is at once
pub at_start : (limits : Limits) (areas : List Area) (m : Engine) (file : Option BlockFile) (place : Place) (old : Option Channels) (left : Held) → held_in left ≡ nothing → left.listed ≡ limits.listed → (pages m.pager).areas ≡ areas → Means m file place → Follows (origin limits areas (begun m place) file old) (begun m place) m file old left
at_start limits areas m file place old left none listed same h = record {
  tracks = record { steps = refl; turns = refl; residence = refl; modified = refl; blocked = refl; means = h };
  sends = sends_none (origin limits areas (begun m place) file old) (held_in left) none;
  listed = listed;
  areas = same;
  moved = moved_none areas (begun m place) file;
}

module _ (limits : Limits) (o : Origin) (areas : List Area) (rules : List Rule) (p : Paged) (m : Engine) (file : Option BlockFile) (now : Option Channels) (left : Held) (r : Reached limits o areas rules p m file now left) where
  abbrev q : Paged
  q = paged areas (due rules) r.made p

  goes_far : (count : ℕ) → ((i : ℕ) → i ≤ count → stops limits.steps limits.turns (paged areas (due rules) i q) ≡ None) → Runs limits areas rules p (suc (count + r.made))
  goes_far count going = record {
    going = λ i low. elim (cases_lt i r.made) [
      | inl early ↦ r.goes.going i early
      | inr here ↦
          let e : (i - r.made) + r.made ≡ i = omega (arith, here) in
          let k = going (i - r.made) (omega (arith, low, here)) in
          subst (λ (z : Paged). stops limits.steps limits.turns z ≡ None) (paged_more areas (due rules) (i - r.made) r.made p ∙ ap (λ (n : ℕ). paged areas (due rules) n p) e) k
    ];
  }

  all_going : (count : ℕ) → ((i : ℕ) → i ≤ count → stops limits.steps limits.turns (paged areas (due rules) i q) ≡ None) → (i : ℕ) → i ≤ count + r.made → stops limits.steps limits.turns (paged areas (due rules) i p) ≡ None
  all_going count going i low = (goes_far count going).going i (omega (arith, low))

  later : (count : ℕ) → paged areas (due rules) (suc count) q ≡ paged areas (due rules) (suc (count + r.made)) p
  later count =
      let e : suc count + r.made ≡ suc (count + r.made) = omega arith in
      paged_more areas (due rules) (suc count) r.made p ∙ ap (λ (n : ℕ). paged areas (due rules) n p) e

  pub goes_further : (new : Engine) (after : Option BlockFile) (next : Option Channels) (held : Held) → AreMade limits o areas rules q new after next held → Reached limits o areas rules p new after next held
  goes_further new after next held h = record {
    made = suc (h.count + r.made);
    goes = goes_far h.count h.going;
    follows = subst (λ (z : Paged). Follows o z new after next held) (later h.count) h.follows;
  }

  pub cut_further : (new : Engine) (after : Option BlockFile) (next : Option Channels) (held : Held) → AreCut limits o areas rules q new after next held → AreCut limits o areas rules p new after next held
  cut_further new after next held h = record {
    count = h.count + r.made;
    going = all_going h.count h.going;
    cut = subst (λ (z : Paged). IsCutTurn o areas rules z new after next held) (paged_more areas (due rules) h.count r.made p) h.cut;
  }

  pub lost_further : (after : Option BlockFile) (next : Option Channels) → AreLost limits o areas rules q after next → AreLost limits o areas rules p after next
  lost_further after next h = record {
    count = h.count + r.made;
    going = all_going h.count h.going;
    part = subst (λ (z : Paged). LostPart o z after next) (later h.count) h.part;
  }

  stopped_as : (end : RunEnd) → stops limits.steps limits.turns q ≡ why_of end → HasStopped limits o areas rules p end m file now left
  stopped_as end why = record { made = r.made; goes = r.goes; stopped = why; follows = r.follows }

  -- it stopped by itself
  pub stopped_here : (end : RunEnd) → IsStop end → ((p : Paged) → Tracks m file p → stops limits.steps limits.turns p ≡ why_of end) → GoneOn limits o areas rules p end m file now left
  stopped_here (run_end.Ended e) s why = stopped_as (run_end.Ended e) (why q r.follows.tracks)
  stopped_here run_end.Steps s why = stopped_as run_end.Steps (why q r.follows.tracks)
  stopped_here run_end.Turns s why = stopped_as run_end.Turns (why q r.follows.tracks)
  stopped_here run_end.PageFault s why = absurd s
  stopped_here run_end.WriteFault s why = absurd s

-- where it was begun and went on, and what is held back is written

module _ (limits : Limits) (areas : List Area) (rules : List Rule) (b : Paged) (before : Option BlockFile) (m : Engine) (file : Option BlockFile) (old now : Option Channels) (left : Held) (bounded : IsBounded areas b b) (space : IsSpace areas) where
  abbrev o : Origin
  o = origin limits areas b before old

  few_at : (count : ℕ) → FewTurns b (paged areas (due rules) count b)
  few_at count = few_turns areas b (paged areas (due rules) count b) (paged_bounded areas (due rules) count b b space bounded)

  runs_to : (count : ℕ) → ((i : ℕ) → i ≤ count → stops limits.steps limits.turns (paged areas (due rules) i b) ≡ None) → Runs limits areas rules b (suc count)
  runs_to count going = record { going = λ i low. going i (omega (arith, low)) }

  whole : (result : RunEnd) (next : Option Channels) → HasStopped limits o areas rules b result m file now left → Grew now next (held_in left) → IsWhole limits areas rules b result before m file old next
  whole result next h g = record {
    count = h.made;
    goes = h.goes;
    stopped = h.stopped;
    tracks = h.follows.tracks;
    wrote = wrote_all o (paged areas (due rules) h.made b) now (held_in left) h.follows.sends next g;
    moved = h.follows.moved;
    few = few_at h.made;
  }

  unwritten : (result : RunEnd) (next : Option Channels) → HasStopped limits o areas rules b result m file now left → GrewByPrefix now next (held_in left) → IsLost limits areas rules b before file old next
  unwritten result next h g =
      let p = paged areas (due rules) h.made b in
      lost_at limits areas rules b before file h.made old next h.goes (record { wrote = wrote_part o p now (held_in left) h.follows.sends next g; moved = moved_first areas b p before file h.follows.moved })

  cut : (next : Option Channels) → AreCut limits o areas rules b m file now left → Grew now next (held_in left) → IsCut limits areas rules b before m file old next
  cut next h g =
      let k = h.cut in
      let p = paged areas (due rules) h.count b in
      record {
        count = h.count;
        goes = runs_to h.count h.going;
        front = k.front;
        rest = k.rest;
        splits = k.splits;
        residence = k.residence;
        means = k.means;
        steps = k.steps;
        fails = k.fails;
        wrote = wrote_all o (all_evicted k.front p) now (held_in left) k.sends next g;
        few = few_cut areas b p k.front k.rest (asking_of m) before file space (paged_bounded areas (due rules) h.count b b space bounded) k.fails;
      }

  cut_lost : (next : Option Channels) → AreCut limits o areas rules b m file now left → GrewByPrefix now next (held_in left) → IsLost limits areas rules b before file old next
  unfolding paged
  cut_lost next h g =
      let k = h.cut in
      let p = paged areas (due rules) h.count b in
      let w = wrote_part o (all_evicted k.front p) now (held_in left) k.sends next g in
      let all = all_evicted (all_named areas (due rules (p.turns + 1))) p in
      let e : all_evicted k.rest (all_evicted k.front p) ≡ all = sym (ap (λ (xs : List ℕ). all_evicted xs p) k.splits ∙ evicted_append k.front k.rest p) in
      lost_at limits areas rules b before file (suc h.count) old next (runs_to h.count h.going)
      (lost_cut o (all_evicted k.front p) all k.rest (asking_of m) file next (subst (λ (z : Paged). Grows limits.listed (all_evicted k.front p) z) e (grows_evicted limits.listed k.rest (all_evicted k.front p))) e w k.fails)

  written_all : (end : RunEnd) (next : Option Channels) → GoneOn limits o areas rules b end m file now left → Grew now next (held_in left) → (end ≡ run_end.WriteFault → ⊥) → Ends limits areas rules b before end m file old next
  written_all (run_end.Ended e) next h g other = whole (run_end.Ended e) next h g
  written_all run_end.Steps next h g other = whole run_end.Steps next h g
  written_all run_end.Turns next h g other = whole run_end.Turns next h g
  written_all run_end.PageFault next h g other = cut next h g
  written_all run_end.WriteFault next h g other = absurd (other refl)

  written_part : (end : RunEnd) (next : Option Channels) → GoneOn limits o areas rules b end m file now left → GrewByPrefix now next (held_in left) → (end ≡ run_end.WriteFault → ⊥) → IsLost limits areas rules b before file old next
  written_part (run_end.Ended e) next h g other = unwritten (run_end.Ended e) next h g
  written_part run_end.Steps next h g other = unwritten run_end.Steps next h g
  written_part run_end.Turns next h g other = unwritten run_end.Turns next h g
  written_part run_end.PageFault next h g other = cut_lost next h g
  written_part run_end.WriteFault next h g other = absurd (other refl)

  -- all of it, or a prefix where that fails
  pub ends_so : (end result : RunEnd) (next : Option Channels) (rose : Type 0) → GoneOn limits o areas rules b end m file now left → (end ≡ run_end.WriteFault → ⊥) → Finishes end result (held_in left) now next rose → Ends limits areas rules b before result m file old next
  ends_so end result next rose h other (inl f) =
      subst (λ (x : RunEnd). Ends limits areas rules b before x m file old next) (sym f.0) (written_all end next h f.1 other)
  ends_so end result next rose h other (inr f) =
      subst (λ (x : RunEnd). Ends limits areas rules b before x m file old next) (sym f.0) (written_part end next h f.1 other)

  -- nothing more is written where a write failed
  pub lost_turns : AreLost limits o areas rules b file now → IsLost limits areas rules b before file old now
  lost_turns h = lost_at limits areas rules b before file (suc h.count) old now (runs_to h.count h.going) h.part
