-- A machine follows the run of the flat machine, whatever happens to it.
use Rattle.std.proofs.Common.{ℕ, ◌==◌, zero, suc, ◌≡◌, ◌+◌, ◌-◌, ◌^◌, ◌<◌, ◌≤◌, Bool, true, false, List, [], ◌∷◌, length, refl, ap, sym, ◌∙◌, subst, arith, inl, inr, Option, Some, None}
use Rattle.vax_space.specs.declared.Area.{Area}
use Rattle.vax_outside.specs.Blocks.{BlockFile}
use Rattle.vax_outside.specs.Faults.{raised}
use Rattle.vax_flat.specs.declared.Ending.{Ending}
use Rattle.vax_flat.specs.declared.Flow.TheVariants as flow
use Rattle.vax_flat.specs.Accesses.{Leaf, Went, Found}
use Rattle.vax_flat.specs.Outcome.{Outcome, Ends, Raised, first_missing}
use Rattle.vax_flat.specs.Parts.{Partway, Place, At, Within, Turn, Completes, Leaves, GoesBy, after_part, gone_back, left_by, machine_at, outcome_at, partway, touches_at, turn, turn_from, units_after, units_done}
use Rattle.vax_flat.specs.Step.{Flat, ended, run, step}
use Rattle.vax_flat.proofs.Parts.{turns_agree}
use Rattle.vax_pager.specs.Listing.{is_listed}
use Rattle.vax_pager.specs.Meaning.{pages}
use Rattle.vax_sched.specs.declared.rule.Target.{Target}
use Rattle.std.proofs.lemmas.Bool.{cases_Bool}
use Rattle.vax_machine.proofs.Running.{pinned_or, served_pins}
use Rattle.vax_machine.proofs.Touching.{missed}
use Rattle.vax_machine.proofs.Tracking.{fewer_pinned, many_evicted}
use Rattle.vax_machine.specs.Batch.{Advances, HasTriedSeveral, Spot, several}
use Rattle.vax_machine.specs.Events.{FollowsFrom, GoesOn, Happen, IsTouching, KeepsRun}
use Rattle.vax_machine.specs.Laws.{Run, state_at}
use Rattle.vax_machine.specs.Machine.{Applies, Evicts, Flushes, Goes, Keeping, KeepsPlace, Means, Serves, Tries, keeping, modified_of, residence, tried}
use Rattle.vax_machine.specs.Paged.{Paged, all_evicted, all_named, attempted, attempted_by, fresh, marked, paged, place_after, steps_after, unless_ended}
use Rattle.vax_machine.specs.Residence.{Residence, eased, is_resident, unpinned}
use Rattle.vax_machine.specs.Touched.{is_touched}
use Rattle.vax_machine.specs.declared.engine.Engine.{Engine}
use Rattle.vax_machine.specs.declared.event.Applied.{Applied}
use Rattle.vax_machine.specs.declared.event.Applied.TheVariants.{Absent, Ended, Evicted, Failed, Flushed, Nothing, Parted, Served, Stepped}
use Rattle.vax_machine.specs.declared.event.Event.{Event}
use Rattle.vax_machine.specs.declared.event.Event.TheVariants as event

-- a part leaves the machine as much going as it was

leaves_ending : (m : Flat) (units : ℕ) (o : Outcome Leaf) (q : Partway) → turn_from m units o ≡ Leaves q → q.now.ending ≡ m.ending
leaves_ending m units (Ends (Went flow.Done s) memory) q e = cc
leaves_ending m units (Ends (Went flow.Clocked s) memory) q e = cc
leaves_ending m units (Ends (Went (flow.Trap kind) s) memory) q e = cc
leaves_ending m units (Ends (Went (flow.More opcode more) s) memory) q e = let k : record { opcode = opcode; start = m.core; units = units_after units more; now = record m { core = s.core; memory = memory; taken = s.taken } } ≡ q = cc in ap (λ (z : Partway). z.now.ending) (sym k)
leaves_ending m units (Ends (Went (flow.Ended x) s) memory) q e = cc
leaves_ending m units (Ends (Found operand s) memory) q e = cc
leaves_ending m units (Raised x) q e = cc

left_is : (t : Turn) (q : Partway) → left_by t ≡ Some q → t ≡ Leaves q
left_is (Completes m) q e = cc
left_is (Leaves p) q e = let k : p ≡ q = cc in ap (λ (z : Partway). Leaves z) k

pub part_ending : (place : Place) (q : Partway) → left_by (turn place) ≡ Some q → q.now.ending ≡ (machine_at place).ending
part_ending place q e = leaves_ending (gone_back place) (units_done place) (outcome_at place) q (left_is (turn place) q e)

after_ending : (o : Option Partway) (q : Partway) (how : Option Ending) → ((p : Partway) → o ≡ Some p → p.now.ending ≡ how) → after_part o ≡ Some q → q.now.ending ≡ how
after_ending None q how before e = cc
after_ending (Some p) q how before e = part_ending (Within p) q e ∙ before p refl

partway_ending : (count : ℕ) (m : Flat) (q : Partway) → partway count m ≡ Some q → q.now.ending ≡ m.ending
unfolding partway
partway_ending zero m q e = part_ending (At m) q e
partway_ending (suc count) m q e = after_ending (partway count m) q m.ending (λ p is. partway_ending count m p is) e

pub goes_ending : (m : Flat) (place : Place) → GoesBy m place → (machine_at place).ending ≡ m.ending
goes_ending m (At n) e = ap (λ (z : Flat). z.ending) e
goes_ending m (Within q) (count, e) = partway_ending count m q e

-- the parts of a step

pub goes_further : (m : Flat) (place : Place) (q : Partway) → GoesBy m place → turn place ≡ Leaves q → GoesBy m (Within q)
unfolding partway
goes_further m (At n) q e t = (0, ap (λ (z : Flat). left_by (turn (At z))) (sym e) ∙ ap left_by t)
goes_further m (Within p) q (count, e) t = (suc count, ap after_part e ∙ ap left_by t)

-- where the machine is

running : (m : Engine) (file : Option BlockFile) (place : Place) → m.ended ≡ None → Means m file place → (machine_at place).ending ≡ None
running m file place going means = sym (ap (λ (z : Flat). z.ending) means.processor.machine) ∙ going

pub one_further : (steps n : ℕ) (start next : Flat) → n ≡ steps + 1 → step (run steps start) ≡ next → next ≡ run n start
unfolding run
one_further steps n start next e is = let k : n ≡ suc steps = omega (arith, e) in sym is ∙ ap (λ (z : ℕ). run z start) (sym k)

-- a machine that keeps this, and that began with a number of steps, goes on at a place to which its steps since lead
record IsGoing (first : ℕ) (k : Keeping) (place : Place) (start : Flat) : Type 0 where
  pub made : ℕ
  pub steps : k.steps ≡ first + made
  pub goes : GoesBy (run made start) place
  pub running : (machine_at place).ending ≡ None
  pub touching : IsTouching k place

going_at : (first : ℕ) (m : Engine) (file : Option BlockFile) (start : Flat) (f : FollowsFrom first m file start) → m.ended ≡ None → IsGoing first (keeping m) f.place start
going_at first m file start f going = record { made = f.made; steps = f.steps; goes = f.goes; running = running m file f.place going f.means; touching = f.touching }

-- where its step leads
step_is : (first : ℕ) (k : Keeping) (place : Place) (start next : Flat) (g : IsGoing first k place start) → turn place ≡ Completes next → step (run g.made start) ≡ next
step_is first k place start next g t =
    let alive : (run g.made start).ending ≡ None = sym (goes_ending (run g.made start) place g.goes) ∙ g.running in
    turns_agree (run g.made start) place next alive g.goes t

completes : (first : ℕ) (k : Keeping) (place : Place) (new : Engine) (file : Option BlockFile) (start next : Flat) → IsGoing first k place start → new.steps ≡ k.steps + 1 → turn place ≡ Completes next → Means new file (At next) → IsTouching (keeping new) (At next) → FollowsFrom first new file start
completes first k place new file start next g steps t means touching = record {
  place = At next;
  means = means;
  made = g.made + 1;
  steps = let s = g.steps in omega (arith, s, steps);
  goes = one_further g.made (g.made + 1) start next refl (step_is first k place start next g t);
  touching = touching;
}

same_place : (first : ℕ) (old new : Engine) (before after : Option BlockFile) (start : Flat) → new.steps ≡ old.steps → KeepsPlace old before new after → ((place : Place) → IsTouching (keeping old) place → IsTouching (keeping new) place) → FollowsFrom first old before start → FollowsFrom first new after start
same_place first old new before after start steps keeps touches f = record {
  place = f.place;
  means = keeps f.place f.means;
  made = f.made;
  steps = steps ∙ f.steps;
  goes = f.goes;
  touching = touches f.place f.touching;
}

-- the pages that the attempt that comes touches

-- no page is pinned or wanted
nothing_touched : (k m : Keeping) (place : Place) → m.residence ≡ unpinned k.residence → m.wanted ≡ None → IsTouching m place
unfolding is_listed
nothing_touched k m place r w = record {
  pins = rw r (record { touched = λ page h. let no : false ≡ true = h in cc });
  wanted = λ page e. let no : None ≡ Some page = sym w ∙ e in cc;
}

eased_fewer : (r : Residence) (page : ℕ) → is_listed page (eased r).pinned ≡ true → is_listed page r.pinned ≡ true
unfolding eased is_listed
eased_fewer r page = elim (cases_Bool (length r.pinned == 40)) [
  | inl t ↦ rw t (λ h. let no : false ≡ true = h in cc)
  | inr f ↦ rw f (λ h. h)
]

missed_touched : (k m : Keeping) (place : Place) (page : ℕ) → m.residence ≡ eased k.residence → m.wanted ≡ Some page → first_missing (is_resident k.residence) (touches_at place) ≡ Some page → IsTouching k place → IsTouching m place
missed_touched k m place page r w e h = record {
  pins = rw r (record { touched = λ other listed. h.pins.touched other (eased_fewer k.residence other listed) });
  wanted = λ other is.
      let same : Some page ≡ Some other = sym w ∙ is in
      let q : page ≡ other = cc in
      ap (λ (z : ℕ). is_touched z (touches_at place)) (sym q) ∙ (missed (is_resident k.residence) (touches_at place) page e).0;
}

as_before : (k m : Keeping) (place : Place) → m ≡ k → IsTouching k place → IsTouching m place
as_before k m place e h = rw e h

serve_touches : (want : Option ℕ) (old new : Keeping) (result : Applied) (place : Place) → old.wanted ≡ want → Serves want old result new → IsTouching old place → IsTouching new place
serve_touches None old new result place w x h = as_before old new place x.1 h
serve_touches (Some page) old new result place w (inl x) h = as_before old new place x.1 h
serve_touches (Some page) old new result place w (inr x) h = rw x.1 (record {
  pins = record {
    touched = λ other listed. elim (pinned_or page other old.residence.pinned (ap (is_listed other) (sym (served_pins page old.residence)) ∙ listed)) [
      | inl same ↦ ap (λ (z : ℕ). is_touched z (touches_at place)) same ∙ h.wanted page w
      | inr there ↦ h.pins.touched other there
    ];
  };
  wanted = λ other e. let no : None ≡ Some other = e in cc;
})

evict_touches : (page : ℕ) (b : Bool) (old new : Keeping) (result : Applied) (place : Place) → Evicts page b old result new → IsTouching old place → IsTouching new place
evict_touches page false old new result place x h = as_before old new place x.1 h
evict_touches page true old new result place (inl x) h = as_before old new place x.1 h
evict_touches page true old new result place (inr x) h = rw x.1 (record { pins = record { touched = λ other listed. h.pins.touched other (fewer_pinned page old.residence other listed) }; wanted = h.wanted })

flush_touches : (b : Bool) (old new : Keeping) (result : Applied) (place : Place) → Flushes b old result new → IsTouching old place → IsTouching new place
flush_touches false old new result place x h = as_before old new place x.1 h
flush_touches true old new result place x h = as_before old new place x.1 h

exact : (n : ℕ) → n < 2 ^ 64 - 1 → raised n ≡ n + 1
exact n h = omega (arith, h)

attempt_follows : (result : Applied) (k : Keeping) (place : Place) (new : Engine) (file : Option BlockFile) (first : ℕ) (start : Flat) → IsGoing first k place start → k.steps < 2 ^ 64 - 1 → keeping new ≡ tried result k → Goes result (is_resident k.residence) new file place → FollowsFrom first new file start
attempt_follows (Stepped sent) k place new file first start g low e t =
    completes first k place new file start t.1.next g (ap (λ (z : Keeping). z.steps) e ∙ exact k.steps low) t.1.turn t.1.means
    (nothing_touched k (keeping new) (At t.1.next) (ap (λ (z : Keeping). z.residence) e) (ap (λ (z : Keeping). z.wanted) e))
attempt_follows Parted k place new file first start g low e t = record {
  place = Within t.1.next;
  means = t.1.means;
  made = g.made;
  steps = ap (λ (z : Keeping). z.steps) e ∙ g.steps;
  goes = goes_further (run g.made start) place t.1.next g.goes t.1.turn;
  touching = nothing_touched k (keeping new) (Within t.1.next) (ap (λ (z : Keeping). z.residence) e) (ap (λ (z : Keeping). z.wanted) e);
}
attempt_follows (Absent page) k place new file first start g low e t = record {
  place = place;
  means = t.1;
  made = g.made;
  steps = ap (λ (z : Keeping). z.steps) e ∙ g.steps;
  goes = g.goes;
  touching = missed_touched k (keeping new) place page (ap (λ (z : Keeping). z.residence) e) (ap (λ (z : Keeping). z.wanted) e) t.0 g.touching;
}
attempt_follows (Ended x) k place new file first start g low e t =
    completes first k place new file start (ended (gone_back place) x) g (ap (λ (z : Keeping). z.steps) e ∙ exact k.steps low) t.1.turn t.1.means
    (nothing_touched k (keeping new) (At (ended (gone_back place) x)) (ap (λ (z : Keeping). z.residence) e) (ap (λ (z : Keeping). z.wanted) e))
attempt_follows (Served page) k place new file first start g low e t = absurd t
attempt_follows Evicted k place new file first start g low e t = absurd t
attempt_follows Flushed k place new file first start g low e t = absurd t
attempt_follows Nothing k place new file first start g low e t = absurd t
attempt_follows Failed k place new file first start g low e t = absurd t

tries_follow : (how : Option Ending) (result : Applied) (old new : Engine) (file : Option BlockFile) (first : ℕ) (start : Flat) → old.ended ≡ how → FollowsFrom first old file start → old.steps < 2 ^ 64 - 1 → Tries how old result new → FollowsFrom first new file start
tries_follow (Some e) result old new file first start is f low t = subst (λ (z : Engine). FollowsFrom first z file start) (sym t.1) f
tries_follow None result old new file first start is f low t =
    attempt_follows result (keeping old) f.place new file first start (going_at first old file start f is) low t.keeps (t.goes file f.place f.means)

-- so do several attempts

several_steps : (count : ℕ) (k : Keeping) → (several count k).steps ≤ k.steps + count
unfolding several
several_steps zero k = omega arith
several_steps (suc count) k = let few = several_steps count k in omega (arith, few)

several_order : (count : ℕ) (k : Keeping) → (several count k).residence.order ≡ k.residence.order
unfolding several
several_order zero k = refl
several_order (suc count) k = several_order count k

several_going : (count : ℕ) (k : Keeping) (resident : ℕ → Bool) (first : ℕ) (start : Flat) (from to : Spot) → k.steps + count < 2 ^ 64 → IsGoing first k from.place start → Advances resident count from to → IsGoing first (several count k) to.place start
unfolding several Advances
several_going zero k resident first start from to low g a = subst (λ (s : Spot). IsGoing first k s.place start) (sym a) g
several_going (suc count) k resident first start from to low g a =
    let mid = several count k in
    let few = several_steps count k in
    let h = several_going count k resident first start from a.0 (omega (arith, low)) g a.2 in
    let more : raised mid.steps ≡ mid.steps + 1 = exact mid.steps (omega (arith, few, low)) in
    subst (λ (s : Spot). IsGoing first (tried (Stepped None) mid) s.place start) (sym a.6) (record {
      made = h.made + 1;
      steps = let s = h.steps in omega (arith, s, more);
      goes = one_further h.made (h.made + 1) start a.1 refl (step_is first mid a.0.place start a.1 h a.4);
      running = a.5;
      touching = nothing_touched mid (tried (Stepped None) mid) (At a.1) refl refl;
    })

pub attempts_follow : (most : ℕ) (old new : Engine) (result : Applied) (file : Option BlockFile) → old.ended ≡ None → old.steps + most < 2 ^ 64 → HasTriedSeveral most old result new → KeepsRun old file new file
attempts_follow most old new result file going low h first start f =
    let far = h.goes file f.place f.means in
    let few = h.few in
    let mid = several h.count (keeping old) in
    let steps = several_steps h.count (keeping old) in
    let g = several_going h.count (keeping old) (is_resident (residence old)) first start (record { place = f.place; modified = modified_of old }) far.here (omega (arith, few, low)) (going_at first old file start f going) far.advances in
    attempt_follows result mid far.here.place new file first start g (omega (arith, few, low, steps)) h.keeps
    (subst (λ (xs : List ℕ). Goes result (λ page. is_listed page xs) new file far.here.place) (sym (several_order h.count (keeping old))) far.goes)

serve_steps : (want : Option ℕ) (old : Keeping) (result : Applied) (new : Keeping) → Serves want old result new → new.steps ≡ old.steps
serve_steps None old result new x = ap (λ (z : Keeping). z.steps) x.1
serve_steps (Some page) old result new (inl x) = ap (λ (z : Keeping). z.steps) x.1
serve_steps (Some page) old result new (inr x) = ap (λ (z : Keeping). z.steps) x.1

evict_steps : (page : ℕ) (b : Bool) (old : Keeping) (result : Applied) (new : Keeping) → Evicts page b old result new → new.steps ≡ old.steps
evict_steps page false old result new x = ap (λ (z : Keeping). z.steps) x.1
evict_steps page true old result new (inl x) = ap (λ (z : Keeping). z.steps) x.1
evict_steps page true old result new (inr x) = ap (λ (z : Keeping). z.steps) x.1

flush_steps : (b : Bool) (old : Keeping) (result : Applied) (new : Keeping) → Flushes b old result new → new.steps ≡ old.steps
flush_steps false old result new x = ap (λ (z : Keeping). z.steps) x.1
flush_steps true old result new x = ap (λ (z : Keeping). z.steps) x.1

pub serve_follows : (old new : Engine) (before after : Option BlockFile) (result : Applied) → Applies event.Serve old before result new after → KeepsRun old before new after
serve_follows old new before after result h first start f =
    same_place first old new before after start (serve_steps old.wanted (keeping old) result (keeping new) h.0) h.1
    (λ place t. serve_touches old.wanted (keeping old) (keeping new) result place refl h.0 t) f

pub evict_follows : (page : ℕ) (old new : Engine) (before after : Option BlockFile) (result : Applied) → Applies (event.Evict page) old before result new after → KeepsRun old before new after
evict_follows page old new before after result h first start f =
    same_place first old new before after start (evict_steps page (is_listed page (pages old.pager).order) (keeping old) result (keeping new) h.0) h.1
    (λ place t. evict_touches page (is_listed page (pages old.pager).order) (keeping old) (keeping new) result place h.0 t) f

flush_follows : (page : ℕ) (old new : Engine) (before after : Option BlockFile) (result : Applied) → Applies (event.Flush page) old before result new after → KeepsRun old before new after
flush_follows page old new before after result h first start f =
    same_place first old new before after start (flush_steps (is_listed page (pages old.pager).modified) (keeping old) result (keeping new) h.0) h.1
    (λ place t. flush_touches (is_listed page (pages old.pager).modified) (keeping old) (keeping new) result place h.0 t) f

pub event_follows : (e : Event) (old new : Engine) (before after : Option BlockFile) (result : Applied) (first : ℕ) (start : Flat) → old.steps < 2 ^ 64 - 1 → Applies e old before result new after → FollowsFrom first old before start → FollowsFrom first new after start
event_follows event.Attempt old new before after result first start low h f =
    subst (λ (z : Option BlockFile). FollowsFrom first new z start) (sym h.1) (tries_follow old.ended result old new before first start refl f low h.0)
event_follows event.Serve old new before after result first start low h f = serve_follows old new before after result h first start f
event_follows (event.Evict page) old new before after result first start low h f = evict_follows page old new before after result h first start f
event_follows (event.Flush page) old new before after result first start low h f = flush_follows page old new before after result h first start f

-- a machine at a place by which the step of this flat machine comes, with no page pinned or wanted
pub starts_follow : (m : Engine) (file : Option BlockFile) (place : Place) (start : Flat) → m.wanted ≡ None → (residence m).pinned ≡ [] → Means m file place → GoesBy start place → FollowsFrom m.steps m file start
unfolding run is_listed
starts_follow m file place start wanted pinned means goes = record {
  place = place;
  means = means;
  made = 0;
  steps = omega arith;
  goes = goes;
  touching = record {
    pins = record { touched = λ page h. let no : false ≡ true = subst (λ (xs : List ℕ). is_listed page xs ≡ true) pinned h in cc };
    wanted = λ page e. let no : None ≡ Some page = sym wanted ∙ e in cc;
  };
}

-- an event completes at most one step

tried_steps : (result : Applied) (k : Keeping) → (tried result k).steps ≤ k.steps + 1
tried_steps (Stepped sent) k = omega arith
tried_steps Parted k = omega arith
tried_steps (Absent page) k = omega arith
tried_steps (Ended x) k = omega arith
tried_steps (Served page) k = omega arith
tried_steps Evicted k = omega arith
tried_steps Flushed k = omega arith
tried_steps Nothing k = omega arith
tried_steps Failed k = omega arith

tries_steps : (how : Option Ending) (result : Applied) (old new : Engine) → Tries how old result new → new.steps ≤ old.steps + 1
tries_steps (Some e) result old new t = let k : new.steps ≡ old.steps = ap (λ (z : Engine). z.steps) t.1 in omega (arith, k)
tries_steps None result old new t =
    let k : new.steps ≡ (tried result (keeping old)).steps = ap (λ (z : Keeping). z.steps) t.keeps in
    let most = tried_steps result (keeping old) in
    omega (arith, k, most)

event_steps : (e : Event) (old new : Engine) (before after : Option BlockFile) (result : Applied) → Applies e old before result new after → new.steps ≤ old.steps + 1
event_steps event.Attempt old new before after result h = tries_steps old.ended result old new h.0
event_steps event.Serve old new before after result h = let k = serve_steps old.wanted (keeping old) result (keeping new) h.0 in omega (arith, k)
event_steps (event.Evict page) old new before after result h =
    let k = evict_steps page (is_listed page (pages old.pager).order) (keeping old) result (keeping new) h.0 in
    omega (arith, k)
event_steps (event.Flush page) old new before after result h =
    let k = flush_steps (is_listed page (pages old.pager).modified) (keeping old) result (keeping new) h.0 in
    omega (arith, k)

pub events_follow : (events : List Event) (old new : Engine) (before after : Option BlockFile) (first : ℕ) (start : Flat) → old.steps + length events < 2 ^ 64 → Happen events old before new after → FollowsFrom first old before start → FollowsFrom first new after start
unfolding Happen
events_follow [] old new before after first start low h f =
    subst (λ (z : Engine). FollowsFrom first z after start) (sym h.0) (subst (λ (z : Option BlockFile). FollowsFrom first old z start) (sym h.1) f)
events_follow (e ∷ events) old new before after first start low h f =
    let steps = event_steps e old h.0 before h.1 h.2 h.3 in
    events_follow events h.0 new h.1 after first start (omega (arith, low, steps)) h.4 (event_follows e old h.0 before h.1 h.2 first start (omega (arith, low)) h.3 f)

-- and so does the paged run

paged_turn : (t : Turn) (p : Paged) (made : ℕ) (start : Flat) → (machine_at p.place).ending ≡ None → GoesBy (run made start) p.place → turn p.place ≡ t → GoesBy (run (steps_after t made) start) (place_after t)
paged_turn (Completes next) p made start going g is =
    let alive : (run made start).ending ≡ None = sym (goes_ending (run made start) p.place g) ∙ going in
    one_further made (made + 1) start next refl (turns_agree (run made start) p.place next alive g is)
paged_turn (Leaves q) p made start going g is = goes_further (run made start) p.place q g is

steps_more : (t : Turn) (steps made : ℕ) → steps_after t (steps + made) ≡ steps + steps_after t made
steps_more (Completes next) steps made = omega arith
steps_more (Leaves q) steps made = refl

paged_by : (m : Option ℕ) (p : Paged) (steps : ℕ) (start : Flat) → (machine_at p.place).ending ≡ None → GoesOn steps start p → GoesOn steps start (attempted_by m p)
paged_by (Some page) p steps start going g = record { made = g.made; steps = g.steps; goes = g.goes }
paged_by None p steps start going g = record {
  made = steps_after (turn p.place) g.made;
  steps = ap (steps_after (turn p.place)) g.steps ∙ steps_more (turn p.place) steps g.made;
  goes = paged_turn (turn p.place) p g.made start going g.goes refl;
}

paged_unless : (how : Option Ending) (p next : Paged) (steps : ℕ) (start : Flat) → (machine_at p.place).ending ≡ how → GoesOn steps start p → ((machine_at p.place).ending ≡ None → GoesOn steps start next) → GoesOn steps start (unless_ended how p next)
paged_unless (Some e) p next steps start is g more = g
paged_unless None p next steps start is g more = more is

paged_attempted : (p : Paged) (steps : ℕ) (start : Flat) → GoesOn steps start p → GoesOn steps start (attempted p)
unfolding attempted
paged_attempted p steps start g =
    paged_unless (machine_at p.place).ending p _ steps start refl g (λ going. paged_by (first_missing (is_resident p.residence) (touches_at p.place)) (marked p) steps start going (record { made = g.made; steps = g.steps; goes = g.goes }))

paged_evicted : (pages : List ℕ) (p : Paged) (steps : ℕ) (start : Flat) → GoesOn steps start p → GoesOn steps start (all_evicted pages p)
paged_evicted pages p steps start g =
    let o = many_evicted pages p in
    record { made = g.made; steps = o.steps ∙ g.steps; goes = subst (λ (z : Place). GoesBy (run g.made start) z) (sym o.place) g.goes }

pub paged_follows : (areas : List Area) (asks : ℕ → List Target) (count : ℕ) (b : Paged) (steps : ℕ) (start : Flat) → GoesOn steps start b → GoesOn steps start (paged areas asks count b)
unfolding paged
paged_follows areas asks zero b steps start g = g
paged_follows areas asks (suc count) b steps start g =
    let q = paged areas asks count b in
    let all = all_named areas (asks (q.turns + 1)) in
    paged_attempted (all_evicted all q) steps start (paged_evicted all q steps start (paged_follows areas asks count b steps start g))

pub turns_go : (areas : List Area) (asks : ℕ → List Target) (count : ℕ) (b : Paged) (start : Flat) → b.place ≡ At start → GoesOn b.steps start (paged areas asks count b)
unfolding run
turns_go areas asks count b start is =
    paged_follows areas asks count b b.steps start (record { made = 0; steps = omega arith; goes = subst (λ (z : Place). GoesBy start z) (sym is) refl })

pub turns_follow : (r : Run) (n : ℕ) → GoesBy (run (state_at r n).steps r.start) (state_at r n).place
turns_follow r n =
    let g = turns_go r.areas r.asks n (fresh r.frames r.start) r.start refl in
    let e : g.made ≡ (state_at r n).steps = let s = g.steps in omega (arith, s) in
    subst (λ (steps : ℕ). GoesBy (run steps r.start) (state_at r n).place) e g.goes
