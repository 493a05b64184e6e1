-- The parts that a run makes are those of the session's steps.
use Rattle.std.proofs.Common.{◌≡◌, ◌+◌, ℕ, zero, suc, List, Option, Some, None, refl, sym, ap, subst, ◌∙◌, arith}
use Rattle.vax_space.specs.declared.Area.{Area}
use Rattle.vax_flat.specs.declared.Ending.{Ending}
use Rattle.vax_flat.specs.Outcome.{first_missing}
use Rattle.vax_flat.specs.Parts.{Partway, Place, At, Within, Turn, Completes, Leaves, GoesBy, after_part, left_by, machine_at, partway, touches_at, turn}
use Rattle.vax_flat.specs.Step.{Flat, step}
use Rattle.vax_flat.proofs.Parts.{turns_agree}
use Rattle.vax_sched.specs.Due.{due}
use Rattle.vax_sched.specs.declared.rule.Rule.{Rule}
use Rattle.vax_machine.specs.Paged.{Paged, all_evicted, all_named, attempted, attempted_by, marked, paged, place_after, steps_after, unless_ended}
use Rattle.vax_machine.specs.Residence.{is_resident}
use Rattle.vax_machine.proofs.Tracking.{many_evicted}
use Rattle.vax_console.specs.Parts.{HasParts, LeadsTo, LeftBefore, StepHasParts, StepsHaveParts}
use Rattle.vax_console.specs.Transcript.{Session, advanced, step_by, stepped}
use Rattle.vax_console.proofs.Outputs.{goes_ending}

pub goes_by : (m : Flat) (place : Place) (parts : ℕ) → LeadsTo m place parts → GoesBy m place
goes_by m (At n) parts l = l.0
goes_by m (Within p) parts l = (l.0, l.1)

-- one part more

part_of : (m : Flat) (place : Place) (parts : ℕ) (o : Option Partway) → LeadsTo m place parts → left_by (turn place) ≡ o → partway parts m ≡ o
unfolding partway
part_of m (At n) parts o l e =
    let first : partway 0 m ≡ o = ap (λ (z : Flat). left_by (turn (At z))) (sym l.0) ∙ e in
    ap (λ (k : ℕ). partway k m) l.1 ∙ first
part_of m (Within p) parts o l e =
    let here : partway (suc l.0) m ≡ o = ap after_part l.1 ∙ e in
    let k : parts ≡ suc l.0 = omega (arith, l.2) in
    ap (λ (n : ℕ). partway n m) k ∙ here

left_before : (m : Flat) (place : Place) (parts : ℕ) → LeadsTo m place parts → LeftBefore parts m
left_before m (At n) parts l = subst (λ (k : ℕ). LeftBefore k m) (sym l.1) tt
left_before m (Within p) parts l =
    let k : suc l.0 ≡ parts = omega (arith, l.2) in
    subst (λ (n : ℕ). LeftBefore n m) k (p, l.1)

further : (m : Flat) (place : Place) (q : Partway) (parts : ℕ) → LeadsTo m place parts → turn place ≡ Leaves q → LeadsTo m (Within q) (parts + 1)
further m place q parts l t = (parts, part_of m place parts (Some q) l (ap left_by t), refl)

whole_step : (m : Flat) (place : Place) (next : Flat) (parts : ℕ) → LeadsTo m place parts → turn place ≡ Completes next → HasParts m (parts + 1)
whole_step m place next parts l t = record { last = parts; counted = refl; whole = part_of m place parts None l (ap left_by t); before = left_before m place parts l }

-- where a run is in the steps of a session
pub record Through (s : Session) (place : Place) (steps parts : ℕ) : Type 0 where
  pub made : ℕ
  pub counted : steps ≡ s.steps + made
  pub same : (advanced made s).steps ≡ s.steps + made
  pub done : ℕ
  pub have : StepsHaveParts made s done
  pub begun : ℕ
  pub leads : LeadsTo (advanced made s).machine place begun
  pub all : parts ≡ done + begun

completes : (s : Session) (place : Place) (steps parts : ℕ) (next : Flat) → Through s place steps parts → (machine_at place).ending ≡ None → turn place ≡ Completes next → Through s (At next) (steps + 1) (parts + 1)
unfolding advanced StepsHaveParts
completes s place steps parts next h going t =
    let here = advanced h.made s in
    let m = here.machine in
    let by = goes_by m place h.begun h.leads in
    let alive : m.ending ≡ None = sym (goes_ending m place by) ∙ going in
    let agree : step m ≡ next = turns_agree m place next alive by t in
    let after : stepped here ≡ record { machine = step m; steps = here.steps + 1 } = ap (λ (k : Option Ending). step_by k here) alive in
    let part : StepHasParts m.ending m (h.begun + 1) = subst (λ (k : Option Ending). StepHasParts k m (h.begun + 1)) (sym alive) (whole_step m place next h.begun h.leads t) in
    record {
      made = suc h.made;
      counted = let k = h.counted in omega (arith, k);
      same = ap (λ (z : Session). z.steps) after ∙ (let k = h.same in omega (arith, k));
      done = h.done + (h.begun + 1);
      have = (h.done, h.begun + 1, h.have, part, refl);
      begun = 0;
      leads = (sym agree ∙ sym (ap (λ (z : Session). z.machine) after), refl);
      all = let k = h.all in omega (arith, k);
    }

leaves : (s : Session) (place : Place) (steps parts : ℕ) (q : Partway) → Through s place steps parts → turn place ≡ Leaves q → Through s (Within q) steps (parts + 1)
leaves s place steps parts q h t = record {
  made = h.made;
  counted = h.counted;
  same = h.same;
  done = h.done;
  have = h.have;
  begun = h.begun + 1;
  leads = further (advanced h.made s).machine place q h.begun h.leads t;
  all = let k = h.all in omega (arith, k);
}

by_turn : (t : Turn) (s : Session) (place : Place) (steps parts : ℕ) → Through s place steps parts → (machine_at place).ending ≡ None → turn place ≡ t → Through s (place_after t) (steps_after t steps) (parts + 1)
by_turn (Completes next) s place steps parts h going t = completes s place steps parts next h going t
by_turn (Leaves q) s place steps parts h going t = leaves s place steps parts q h t

by_attempt : (missing : Option ℕ) (s : Session) (p : Paged) → Through s p.place p.steps p.parts → (machine_at p.place).ending ≡ None → Through s (attempted_by missing p).place (attempted_by missing p).steps (attempted_by missing p).parts
by_attempt None s p h going = by_turn (turn p.place) s p.place p.steps p.parts h going refl
by_attempt (Some page) s p h going = h

by_ending : (how : Option Ending) (s : Session) (p next : Paged) → Through s p.place p.steps p.parts → (machine_at p.place).ending ≡ how → ((machine_at p.place).ending ≡ None → Through s next.place next.steps next.parts) → Through s (unless_ended how p next).place (unless_ended how p next).steps (unless_ended how p next).parts
by_ending None s p next h is f = f is
by_ending (Some e) s p next h is f = h

one_attempt : (s : Session) (p : Paged) → Through s p.place p.steps p.parts → Through s (attempted p).place (attempted p).steps (attempted p).parts
unfolding attempted
one_attempt s p h =
    let missing = first_missing (is_resident p.residence) (touches_at p.place) in
    by_ending (machine_at p.place).ending s p (attempted_by missing (marked p)) h refl (λ going. by_attempt missing s (marked p) h going)

evicted_through : (s : Session) (pages : List ℕ) (p : Paged) → Through s p.place p.steps p.parts → Through s (all_evicted pages p).place (all_evicted pages p).steps (all_evicted pages p).parts
evicted_through s pages p h =
    let o = many_evicted pages p in
    let q = all_evicted pages p in
    subst (λ (z : Place). Through s z q.steps q.parts) (sym o.place) (subst (λ (n : ℕ). Through s p.place n q.parts) (sym o.steps) (subst (λ (n : ℕ). Through s p.place p.steps n) (sym o.parts) h))

paged_through : (s : Session) (areas : List Area) (rules : List Rule) (count : ℕ) (b : Paged) → Through s b.place b.steps b.parts → Through s (paged areas (due rules) count b).place (paged areas (due rules) count b).steps (paged areas (due rules) count b).parts
unfolding paged
paged_through s areas rules zero b h = h
paged_through s areas rules (suc count) b h =
    let p = paged areas (due rules) count b in
    let pages = all_named areas (due rules (p.turns + 1)) in
    one_attempt s (all_evicted pages p) (evicted_through s pages p (paged_through s areas rules count b h))

pub run_through : (s : Session) (areas : List Area) (rules : List Rule) (count : ℕ) (b : Paged) → b.place ≡ At s.machine → b.steps ≡ s.steps → b.parts ≡ 0 → Through s (paged areas (due rules) count b).place (paged areas (due rules) count b).steps (paged areas (due rules) count b).parts
unfolding advanced StepsHaveParts
run_through s areas rules count b place steps parts =
    paged_through s areas rules count b (record {
      made = 0;
      counted = omega (arith, steps);
      same = omega arith;
      done = 0;
      have = refl;
      begun = 0;
      leads = subst (λ (z : Place). LeadsTo s.machine z 0) (sym place) (refl, refl);
      all = parts;
    })
