-- Few attempts are made for a request, and for lines one after the other.
use Rattle.std.proofs.Common.{◌≡◌, ◌<◌, ◌≤◌, ◌+◌, ◌-◌, ◌^◌, ℕ, zero, suc, nat_le, List, [], ◌∷◌, ◌++◌, length, Option, Some, None, Result, Ok, Err, refl, sym, ap, subst, ◌∙◌, arith}
use Rattle.vax_space.specs.declared.Area.{Area}
use Rattle.vax_outside.specs.Blocks.{BlockFile}
use Rattle.vax_outside.specs.Channels.{Channels}
use Rattle.vax_outside.specs.declared.faults.Failures.{Failures}
use Rattle.vax_flat.specs.declared.Ending.{Ending}
use Rattle.vax_flat.specs.Parts.{Place, At, GoesBy, machine_at}
use Rattle.vax_flat.specs.Step.{Flat}
use Rattle.vax_sched.specs.Due.{due}
use Rattle.vax_sched.specs.declared.rule.Rule.{Rule}
use Rattle.vax_machine.specs.Console.{HasLetGo, IsBetween, StopsBetween, let_go}
use Rattle.vax_machine.specs.Machine.{Keeping, Means, keeping, residence}
use Rattle.vax_machine.specs.Paged.{Paged, all_evicted, paged, stops}
use Rattle.vax_machine.specs.Residence.{Residence}
use Rattle.vax_machine.specs.Run as run_spec
use Rattle.vax_machine.specs.Run.{begun}
use Rattle.vax_machine.specs.declared.engine.Engine.{Engine}
use Rattle.vax_machine.specs.declared.event.Limits.{Limits}
use Rattle.vax_machine.specs.declared.event.RunEnd.{RunEnd}
use Rattle.vax_machine.specs.declared.event.RunEnd.TheVariants as run_end
use Rattle.vax_script.specs.declared.request.Line.{Line}
use Rattle.vax_console.specs.Ends.{Replies, answer_of, session_on, steps_in}
use Rattle.vax_console.specs.Parts.{FewAttempts, LeadsThrough, LeadsTo, LinesHaveParts, MakesNone, Spends, SpendsAll, SpendsFirst, SpendsInto, SpendsOpen, SpendsSome, SpendsSteps, StepHasParts, StepsHaveParts, StepsSpend}
use Rattle.vax_console.specs.Transcript.{Session, advanced, after_line, session_after}
use Rattle.vax_console.specs.declared.stopped.Stopped.{Stopped}
use Rattle.vax_console.specs.declared.stopped.Stopped.TheVariants as stopped
use Rattle.vax_console.proofs.Advancing.{Makes, advanced_stays, is_below, run_makes}
use Rattle.vax_console.proofs.Outputs.{goes_ending}
use Rattle.vax_console.proofs.Parting.{Through, goes_by, run_through}
use Rattle.vax_console.proofs.Running.{by_ending, by_steps, by_turns, is_le, limits_of, place_between}
use Rattle.vax_console.proofs.Sessions.{after_append, splits_behind, splits_further, steps_append}
use Rattle.vax_console.proofs.Spoiling.{cut_unspoiled, evicted_spoils, paged_spoils, paged_unspoiled, spoils_then}

-- counts

few_none : (rules : List Rule) (old new : Engine) (parts spare : ℕ) → MakesNone old new → FewAttempts rules old new parts spare
few_none rules old new parts spare n =
    let t = n.turns in
    let s = n.spoiled in
    record { spoils = λ low. omega (arith, s); turns = λ low. omega (arith, s, t); unspoiled = λ none. s }

few_then : (rules : List Rule) (a b c : Engine) (p q spare : ℕ) → FewAttempts rules a b p 0 → FewAttempts rules b c q spare → FewAttempts rules a c (p + q) spare
few_then rules a b c p q spare x y = record {
  spoils = λ low.
      let m = y.spoils low in
      let l = x.spoils (omega (arith, m, low)) in
      omega (arith, l, m);
  turns = λ low.
      let m = y.spoils low in
      let u = y.turns low in
      let t = x.turns (omega (arith, m, low)) in
      omega (arith, t, u);
  unspoiled = λ none. y.unspoiled none ∙ x.unspoiled none;
}

pub none_let_go : (old new : Engine) → HasLetGo old new → MakesNone old new
none_let_go old new h = record { steps = h.steps; turns = h.turns; spoiled = h.spoiled }

pub none_kept : (old new : Engine) → keeping new ≡ keeping old → MakesNone old new
none_kept old new e = record { steps = ap (λ (z : Keeping). z.steps) e; turns = ap (λ (z : Keeping). z.turns) e; spoiled = ap (λ (z : Keeping). z.residence.spoiled) e }

pub none_register : (old new : Engine) → keeping new ≡ let_go (keeping old) → MakesNone old new
none_register old new e = record { steps = ap (λ (z : Keeping). z.steps) e; turns = ap (λ (z : Keeping). z.turns) e; spoiled = ap (λ (z : Keeping). z.residence.spoiled) e }

pub none_same : (m : Engine) → MakesNone m m
none_same m = record { steps = refl; turns = refl; spoiled = refl }

-- requests that make no step

no_steps : (n : ℕ) (s : Session) → n ≡ 0 → StepsHaveParts n s 0
unfolding StepsHaveParts
no_steps n s e = subst (λ (k : ℕ). StepsHaveParts k s 0) (sym e) refl

one_line : (limit : ℕ) (s : Session) (l : Line) (parts : ℕ) → StepsHaveParts (steps_in limit s (l ∷ [])) s parts → LinesHaveParts limit s (l ∷ []) parts
unfolding LinesHaveParts
one_line limit s l parts h = (parts, 0, h, refl, omega arith)

pub line_spends : (limit : ℕ) (rules : List Rule) (s : Session) (l : Line) (old new : Engine) → steps_in limit s (l ∷ []) ≡ 0 → MakesNone old new → SpendsAll limit rules s (l ∷ []) old new
line_spends limit rules s l old new e n = record { parts = 0; have = one_line limit s l 0 (no_steps (steps_in limit s (l ∷ [])) s e); few = few_none rules old new 0 0 n }

pub cut_spends : (limit : ℕ) (rules : List Rule) (s : Session) (l : Line) (old new : Engine) (file : Option BlockFile) → s.steps ≡ old.steps → Means new file (At s.machine) → MakesNone old new → SpendsSome limit rules s (l ∷ []) old new file
unfolding advanced StepsHaveParts LinesHaveParts session_after
cut_spends limit rules s l old new file same means n = record {
  place = At s.machine;
  means = means;
  parts = 0;
  through = record {
    front = [];
    back = l ∷ [];
    splits = refl;
    before = 0;
    had = refl;
    count = 0;
    counted = let k = n.steps in omega (arith, k, same);
    within = omega arith;
    whole = 0;
    have = refl;
    begun = 0;
    leads = (refl, refl);
    all = refl;
  };
  few = few_none rules old new 0 40 n;
}

pub simple_spends : (r : Result (Unit {0}) Stopped) (limit : ℕ) (rules : List Rule) (s : Session) (l : Line) (old new : Engine) (file : Option BlockFile) (before now : Failures) (was is : Option Channels) (text : List ℕ) → steps_in limit s (l ∷ []) ≡ 0 → MakesNone old new → Replies r before now was is text → Spends r limit rules s (l ∷ []) old new file
simple_spends (Ok x) limit rules s l old new file before now was is text e n p = line_spends limit rules s l old new e n
simple_spends (Err stopped.Turns) limit rules s l old new file before now was is text e n p = absurd p
simple_spends (Err stopped.PageFault) limit rules s l old new file before now was is text e n p = absurd p
simple_spends (Err stopped.WriteFault) limit rules s l old new file before now was is text e n p = tt

-- a run

parts_stay : (more made : ℕ) (s : Session) (e : Ending) (parts : ℕ) → (advanced made s).machine.ending ≡ Some e → StepsHaveParts made s parts → StepsHaveParts (more + made) s parts
unfolding StepsHaveParts
parts_stay zero made s e parts h k =
    let is : made ≡ zero + made = omega arith in
    subst (λ (n : ℕ). StepsHaveParts n s parts) is k
parts_stay (suc more) made s e parts h k =
    let same : advanced (more + made) s ≡ advanced made s = advanced_stays (more + made) made s e (omega arith) h in
    let ended : (advanced (more + made) s).machine.ending ≡ Some e = ap (λ (z : Session). z.machine.ending) same ∙ h in
    let none : StepHasParts (advanced (more + made) s).machine.ending (advanced (more + made) s).machine 0 = subst (λ (z : Option Ending). StepHasParts z (advanced (more + made) s).machine 0) (sym ended) refl in
    let is : suc (more + made) ≡ suc more + made = omega arith in
    subst (λ (n : ℕ). StepsHaveParts n s parts) is (parts, 0, parts_stay more made s e parts h k, none, omega arith)

all_parts : (most made : ℕ) (s : Session) (e : Ending) (parts : ℕ) → made ≤ most → (advanced made s).machine.ending ≡ Some e → StepsHaveParts made s parts → StepsHaveParts most s parts
all_parts most made s e parts l h k =
    let is : (most - made) + made ≡ most = omega (arith, l) in
    subst (λ (n : ℕ). StepsHaveParts n s parts) is (parts_stay (most - made) made s e parts h k)

pub ended_parts : (most : ℕ) (s : Session) (e : Ending) → s.machine.ending ≡ Some e → StepsHaveParts most s 0
unfolding advanced StepsHaveParts
ended_parts most s e h = all_parts most 0 s e 0 (omega arith) h refl

-- between two steps no part is begun
none_begun : (m : Flat) (place : Place) (x : Flat) (parts : ℕ) → place ≡ At x → LeadsTo m place parts → parts ≡ 0
none_begun m place x parts e l = (subst (λ (z : Place). LeadsTo m z parts) e l).1

run_few : (areas : List Area) (rules : List Rule) (count spare : ℕ) (old new : Engine) (b p : Paged) (parts : ℕ) → p ≡ paged areas (due rules) count b → b.parts ≡ 0 → b.turns ≡ old.turns → b.residence ≡ residence old → run_spec.FewTurns b p → new.turns ≡ p.turns → residence new ≡ p.residence → p.parts ≡ parts → length p.residence.pinned ≤ spare → FewAttempts rules old new parts spare
run_few areas rules count spare old new b p parts is none turns held few t r e pins =
    let rs : (residence new).spoiled ≡ p.residence.spoiled = ap (λ (z : Residence). z.spoiled) r in
    let bs : b.residence.spoiled ≡ (residence old).spoiled = ap (λ (z : Residence). z.spoiled) held in
    let grows = subst (λ (z : Paged). z.residence.spoiled < 2 ^ 64 - 1 → b.residence.spoiled ≤ z.residence.spoiled) (sym is) (paged_spoils areas rules count b) in
    record {
      spoils = λ low. let g = grows (omega (arith, rs, low)) in omega (arith, g, rs, bs);
      turns = λ low. let f = few.turns (omega (arith, rs, low)) in omega (arith, f, none, turns, t, rs, bs, e, pins);
      unspoiled = λ quiet. rs ∙ (ap (λ (z : Paged). z.residence.spoiled) is ∙ (paged_unspoiled areas rules count b quiet ∙ bs));
    }

goes_at : (s : Session) (made : ℕ) (p : Paged) (x : Flat) → p.place ≡ At x → GoesBy (advanced made s).machine p.place → (machine_at p.place).ending ≡ (advanced made s).machine.ending
goes_at s made p x at g = goes_ending (advanced made s).machine p.place g

-- a run that came to its end between two steps

ended_through : (count : ℕ) (s : Session) (p : Paged) (x : Flat) (e : Ending) → p.place ≡ At x → (k : Makes s count p) → Through s p.place p.steps p.parts → (advanced k.made s).machine.ending ≡ Some e → StepsHaveParts count s p.parts
ended_through count s p x e at k t ended =
    let made : t.made ≡ k.made = let a = t.counted in let b = k.steps in omega (arith, a, b) in
    let none = none_begun (advanced t.made s).machine p.place x t.begun at t.leads in
    let parts : t.done ≡ p.parts = let a = t.all in omega (arith, a, none) in
    let have : StepsHaveParts k.made s p.parts = subst (λ (n : ℕ). StepsHaveParts n s p.parts) made (subst (λ (n : ℕ). StepsHaveParts t.made s n) parts t.have) in
    all_parts count k.made s e p.parts k.few ended have

steps_through : (count : ℕ) (s : Session) (p : Paged) (x : Flat) → p.place ≡ At x → (k : Makes s count p) → Through s p.place p.steps p.parts → k.made ≡ count → StepsHaveParts count s p.parts
steps_through count s p x at k t all =
    let made : t.made ≡ count = let a = t.counted in let b = k.steps in omega (arith, a, b, all) in
    let none = none_begun (advanced t.made s).machine p.place x t.begun at t.leads in
    let parts : t.done ≡ p.parts = let a = t.all in omega (arith, a, none) in
    subst (λ (n : ℕ). StepsHaveParts n s p.parts) made (subst (λ (n : ℕ). StepsHaveParts t.made s n) parts t.have)

no_pins : (m : Engine) (p : Paged) → IsBetween m → residence m ≡ p.residence → length p.residence.pinned ≤ 0
no_pins m p b r =
    let none : p.residence.pinned ≡ [] = sym (ap (λ (z : Residence). z.pinned) r) ∙ b.unpinned in
    let l : length p.residence.pinned ≡ 0 = ap length none in
    omega (arith, l)

steps_spend : (end : RunEnd) (limits : Limits) (count : ℕ) (areas : List Area) (rules : List Rule) (flat : Flat) (m1 m2 : Engine) (f1 f2 : Option BlockFile) (old new : Option Channels) → (StopsBetween end → IsBetween m2) →
    run_spec.Ends (limits_of limits m1.steps count) areas rules (begun m1 (At flat)) f1 end m2 f2 old new → StepsSpend (answer_of end) count rules (session_on m1 flat) m1 m2 f2
unfolding stops
steps_spend (run_end.Ended e) limits count areas rules flat m1 m2 f1 f2 old new between w =
    let s = session_on m1 flat in
    let b = begun m1 (At flat) in
    let p = paged areas (due rules) w.count b in
    let k = run_makes (limits_of limits m1.steps count) areas rules w.count count b s refl refl refl w.goes in
    let t = run_through s areas rules w.count b refl refl refl in
    let x = place_between p.place (sym (between tt).closed ∙ w.tracks.means.processor.open_one) in
    let ended : (machine_at p.place).ending ≡ Some e = by_ending (machine_at p.place).ending (nat_le (m1.steps + count) p.steps) (nat_le limits.turns p.turns) e w.stopped in
    let at = goes_at s k.made p x.0 x.1 k.goes in
    record {
      parts = p.parts;
      have = ended_through count s p x.0 e x.1 k t (sym at ∙ ended);
      few = run_few areas rules w.count 0 m1 m2 b p p.parts refl refl refl refl w.few w.tracks.turns w.tracks.residence refl (no_pins m2 p (between tt) w.tracks.residence);
    }
steps_spend run_end.Steps limits count areas rules flat m1 m2 f1 f2 old new between w =
    let s = session_on m1 flat in
    let b = begun m1 (At flat) in
    let p = paged areas (due rules) w.count b in
    let k = run_makes (limits_of limits m1.steps count) areas rules w.count count b s refl refl refl w.goes in
    let t = run_through s areas rules w.count b refl refl refl in
    let x = place_between p.place (sym (between tt).closed ∙ w.tracks.means.processor.open_one) in
    let why = by_steps (machine_at p.place).ending (nat_le (m1.steps + count) p.steps) (nat_le limits.turns p.turns) w.stopped in
    let all : m1.steps + count ≤ p.steps = is_le (m1.steps + count) p.steps why.1 in
    let made : k.made ≡ count = let y = k.few in let z = k.steps in omega (arith, all, y, z) in
    record {
      parts = p.parts;
      have = steps_through count s p x.0 x.1 k t made;
      few = run_few areas rules w.count 0 m1 m2 b p p.parts refl refl refl refl w.few w.tracks.turns w.tracks.residence refl (no_pins m2 p (between tt) w.tracks.residence);
    }
steps_spend run_end.Turns limits count areas rules flat m1 m2 f1 f2 old new between w =
    let s = session_on m1 flat in
    let b = begun m1 (At flat) in
    let p = paged areas (due rules) w.count b in
    let k = run_makes (limits_of limits m1.steps count) areas rules w.count count b s refl refl refl w.goes in
    let t = run_through s areas rules w.count b refl refl refl in
    let why = by_turns (machine_at p.place).ending (nat_le (m1.steps + count) p.steps) (nat_le limits.turns p.turns) w.stopped in
    let low : p.steps < m1.steps + count = is_below (m1.steps + count) p.steps why.1 in
    let ending : (machine_at p.place).ending ≡ (advanced t.made s).machine.ending = goes_ending (advanced t.made s).machine p.place (goes_by (advanced t.made s).machine p.place t.begun t.leads) in
    let first : SpendsFirst count rules s m1 m2 f2 = record {
      made = t.made;
      counted = let a = t.counted in let k = w.tracks.steps in omega (arith, a, k);
      within = let a = t.counted in let c = k.steps in let d = k.few in omega (arith, a, c, d);
      whole = t.done;
      have = t.have;
      place = p.place;
      means = w.tracks.means;
      begun = t.begun;
      leads = t.leads;
      few = run_few areas rules w.count 40 m1 m2 b p (t.done + t.begun) refl refl refl refl w.few w.tracks.turns w.tracks.residence t.all w.few.pins;
    } in
    record { first = first; below = let a = t.counted in omega (arith, a, low); going = sym ending ∙ why.0 }
steps_spend run_end.PageFault limits count areas rules flat m1 m2 f1 f2 old new between w =
    let s = session_on m1 flat in
    let b = begun m1 (At flat) in
    let p = paged areas (due rules) w.count b in
    let q = all_evicted w.front p in
    let k = run_makes (limits_of limits m1.steps count) areas rules w.count count b s refl refl refl (record { going = λ i l. w.goes.going i (omega (arith, l)) }) in
    let t = run_through s areas rules w.count b refl refl refl in
    let rs : (residence m2).spoiled ≡ q.residence.spoiled = ap (λ (z : Residence). z.spoiled) w.residence in
    record {
      made = t.made;
      counted = let a = t.counted in let k = w.steps in omega (arith, a, k);
      within = let a = t.counted in let c = k.steps in let d = k.few in omega (arith, a, c, d);
      whole = t.done;
      have = t.have;
      place = p.place;
      means = w.means;
      begun = t.begun;
      leads = t.leads;
      few = record {
        spoils = λ low. let g = spoils_then b.residence p.residence q.residence (paged_spoils areas rules w.count b) (evicted_spoils w.front p) (omega (arith, rs, low)) in omega (arith, g, rs);
        turns = λ low. let f = w.few (omega (arith, rs, low)) in let a = t.all in omega (arith, f, a, rs);
        unspoiled = λ quiet. rs ∙ (cut_unspoiled areas rules (p.turns + 1) w.front w.rest p w.splits quiet ∙ paged_unspoiled areas rules w.count b quiet);
      };
    }
steps_spend run_end.WriteFault limits count areas rules flat m1 m2 f1 f2 old new between w = tt

pub steps_spend_from : (end : RunEnd) (limits : Limits) (count first : ℕ) (areas : List Area) (rules : List Rule) (flat : Flat) (m1 m2 : Engine) (f1 f2 : Option BlockFile) (old new : Option Channels) → first ≡ m1.steps → (StopsBetween end → IsBetween m2) →
    run_spec.Ends (limits_of limits first count) areas rules (begun m1 (At flat)) f1 end m2 f2 old new → StepsSpend (answer_of end) count rules (session_on m1 flat) m1 m2 f2
steps_spend_from end limits count first areas rules flat m1 m2 f1 f2 old new e between w =
    steps_spend end limits count areas rules flat m1 m2 f1 f2 old new between (subst (λ (n : ℕ). run_spec.Ends (limits_of limits n count) areas rules (begun m1 (At flat)) f1 end m2 f2 old new) e w)

-- the steps of a request

pub run_spends : (r : Result (Unit {0}) Stopped) (limit : ℕ) (rules : List Rule) (s : Session) (l : Line) (count : ℕ) (old new : Engine) (file : Option BlockFile) (before now : Failures) (was is : Option Channels) (text : List ℕ) → steps_in limit s (l ∷ []) ≡ count → SpendsSteps count rules s old new → Replies r before now was is text → Spends r limit rules s (l ∷ []) old new file
run_spends (Ok x) limit rules s l count old new file before now was is text e h p = record { parts = h.parts; have = one_line limit s l h.parts (subst (λ (n : ℕ). StepsHaveParts n s h.parts) (sym e) h.have); few = h.few }
run_spends (Err stopped.Turns) limit rules s l count old new file before now was is text e h p = absurd p
run_spends (Err stopped.PageFault) limit rules s l count old new file before now was is text e h p = absurd p
run_spends (Err stopped.WriteFault) limit rules s l count old new file before now was is text e h p = tt

pub ended_spends : (r : Result (Unit {0}) Stopped) (limit : ℕ) (rules : List Rule) (s : Session) (l : Line) (e : Ending) (m : Engine) (file : Option BlockFile) (before now : Failures) (was is : Option Channels) (text : List ℕ) → s.machine.ending ≡ Some e → Replies r before now was is text → Spends r limit rules s (l ∷ []) m m file
ended_spends r limit rules s l e m file before now was is text h p =
    run_spends r limit rules s l (steps_in limit s (l ∷ [])) m m file before now was is text refl (record { parts = 0; have = ended_parts (steps_in limit s (l ∷ [])) s e h; few = few_none rules m m 0 0 (none_same m) }) p

first_spends : (limit : ℕ) (rules : List Rule) (s : Session) (l : Line) (count : ℕ) (old new : Engine) (file : Option BlockFile) → steps_in limit s (l ∷ []) ≡ count → SpendsFirst count rules s old new file → SpendsSome limit rules s (l ∷ []) old new file
unfolding LinesHaveParts session_after
first_spends limit rules s l count old new file e h = record {
  place = h.place;
  means = h.means;
  parts = h.whole + h.begun;
  through = record {
    front = [];
    back = l ∷ [];
    splits = refl;
    before = 0;
    had = refl;
    count = h.made;
    counted = h.counted;
    within = let k = h.within in omega (arith, k, e);
    whole = h.whole;
    have = h.have;
    begun = h.begun;
    leads = h.leads;
    all = omega arith;
  };
  few = h.few;
}

open_spends : (limit : ℕ) (rules : List Rule) (s : Session) (l : Line) (count : ℕ) (old new : Engine) (file : Option BlockFile) → steps_in limit s (l ∷ []) ≡ count → SpendsOpen count rules s old new file → SpendsInto limit rules s (l ∷ []) old new file
unfolding first_spends session_after
open_spends limit rules s l count old new file e h = record { some = first_spends limit rules s l count old new file e h.first; below = let k = h.below in omega (arith, k, e); going = h.going }

pub stopped_spends : (e : Stopped) (limit : ℕ) (rules : List Rule) (s : Session) (l : Line) (count : ℕ) (old new : Engine) (file : Option BlockFile) → steps_in limit s (l ∷ []) ≡ count → StepsSpend {T = Option Ending} (Err e) count rules s old new file → Spends {T = Unit {0}} (Err e) limit rules s (l ∷ []) old new file
stopped_spends stopped.Turns limit rules s l count old new file is h = open_spends limit rules s l count old new file is h
stopped_spends stopped.PageFault limit rules s l count old new file is h = first_spends limit rules s l count old new file is h
stopped_spends stopped.WriteFault limit rules s l count old new file is h = tt

-- lines one after the other

pub none_spent : (limit : ℕ) (rules : List Rule) (s : Session) (m : Engine) → SpendsAll limit rules s [] m m
unfolding LinesHaveParts
none_spent limit rules s m = record { parts = 0; have = refl; few = few_none rules m m 0 0 (none_same m) }

parts_append : (limit : ℕ) (s : Session) (front back : List Line) (a b : ℕ) → LinesHaveParts limit s front a → LinesHaveParts limit (session_after limit s front) back b → LinesHaveParts limit s (front ++ back) (a + b)
unfolding LinesHaveParts session_after
parts_append limit s [] back a b x y =
    let e : b ≡ a + b = omega (arith, x) in
    subst (λ (n : ℕ). LinesHaveParts limit s back n) e y
parts_append limit s (l ∷ front) back a b x y =
    let h = x.4 in
    (x.0, x.1 + b, x.2, parts_append limit (after_line limit s l) front back x.1 b x.3 y, omega (arith, h))

all_behind : (limit : ℕ) (rules : List Rule) (s : Session) (front back : List Line) (a b c : Engine) → SpendsAll limit rules s front a b → SpendsAll limit rules (session_after limit s front) back b c → SpendsAll limit rules s (front ++ back) a c
all_behind limit rules s front back a b c x y = record { parts = x.parts + y.parts; have = parts_append limit s front back x.parts y.parts x.have y.have; few = few_then rules a b c x.parts y.parts 0 x.few y.few }

through_behind : (limit : ℕ) (s : Session) (front lines : List Line) (steps : ℕ) (place : Place) (a b : ℕ) → LinesHaveParts limit s front a → LeadsThrough limit (session_after limit s front) lines steps place b → LeadsThrough limit s (front ++ lines) steps place (a + b)
through_behind limit s front lines steps place a b had y =
    let e = after_append limit s front y.front in
    record {
      front = front ++ y.front;
      back = y.back;
      splits = splits_behind front y.front y.back lines y.splits;
      before = a + y.before;
      had = parts_append limit s front y.front a y.before had y.had;
      count = y.count;
      counted = subst (λ (z : Session). steps ≡ z.steps + y.count) (sym e) y.counted;
      within = subst (λ (z : Session). y.count ≤ steps_in limit z y.back) (sym e) y.within;
      whole = y.whole;
      have = subst (λ (z : Session). StepsHaveParts y.count z y.whole) (sym e) y.have;
      begun = y.begun;
      leads = subst (λ (z : Session). LeadsTo (advanced y.count z).machine place y.begun) (sym e) y.leads;
      all = let k = y.all in omega (arith, k);
    }

some_behind : (limit : ℕ) (rules : List Rule) (s : Session) (front lines : List Line) (a b c : Engine) (file : Option BlockFile) → SpendsAll limit rules s front a b → SpendsSome limit rules (session_after limit s front) lines b c file → SpendsSome limit rules s (front ++ lines) a c file
some_behind limit rules s front lines a b c file x y = record {
  place = y.place;
  means = y.means;
  parts = x.parts + y.parts;
  through = through_behind limit s front lines c.steps y.place x.parts y.parts x.have y.through;
  few = few_then rules a b c x.parts y.parts 40 x.few y.few;
}

into_behind : (limit : ℕ) (rules : List Rule) (s : Session) (front lines : List Line) (a b c : Engine) (file : Option BlockFile) → SpendsAll limit rules s front a b → SpendsInto limit rules (session_after limit s front) lines b c file → SpendsInto limit rules s (front ++ lines) a c file
unfolding some_behind through_behind
into_behind limit rules s front lines a b c file x y =
    let t = y.some.through in
    let e = after_append limit s front t.front in
    record {
      some = some_behind limit rules s front lines a b c file x y.some;
      below = subst (λ (z : Session). t.count < steps_in limit z t.back) (sym e) y.below;
      going = subst (λ (z : Session). (advanced t.count z).machine.ending ≡ None) (sym e) y.going;
    }

behind : (r : Result (Unit {0}) Stopped) (limit : ℕ) (rules : List Rule) (s : Session) (front lines : List Line) (a b c : Engine) (file : Option BlockFile) → SpendsAll limit rules s front a b → Spends r limit rules (session_after limit s front) lines b c file → Spends r limit rules s (front ++ lines) a c file
behind (Ok x) limit rules s front lines a b c file p q = all_behind limit rules s front lines a b c p q
behind (Err stopped.Turns) limit rules s front lines a b c file p q = into_behind limit rules s front lines a b c file p q
behind (Err stopped.PageFault) limit rules s front lines a b c file p q = some_behind limit rules s front lines a b c file p q
behind (Err stopped.WriteFault) limit rules s front lines a b c file p q = tt

-- a line behind lines that were carried out, as the machine is there
pub then_spends : (r : Result (Unit {0}) Stopped) (limit : ℕ) (rules : List Rule) (s : Session) (front lines : List Line) (a b c : Engine) (f1 f2 : Option BlockFile) → b.steps ≡ (session_after limit s front).steps → Means b f1 (At (session_after limit s front).machine) → SpendsAll limit rules s front a b →
    ((m : Flat) → Means b f1 (At m) → Spends r limit rules (session_on b m) lines b c f2) → Spends r limit rules s (front ++ lines) a c f2
then_spends r limit rules s front lines a b c f1 f2 steps means p q =
    let t = session_after limit s front in
    let is : session_on b t.machine ≡ t = ap (λ (n : ℕ). record { machine = t.machine; steps = n }) steps in
    behind r limit rules s front lines a b c f2 p (subst (λ (z : Session). Spends r limit rules z lines b c f2) is (q t.machine means))

-- what stopped within some lines stopped within more

through_further : (limit : ℕ) (s : Session) (lines more : List Line) (steps : ℕ) (place : Place) (parts : ℕ) → LeadsThrough limit s lines steps place parts → LeadsThrough limit s (lines ++ more) steps place parts
through_further limit s lines more steps place parts h = record {
  front = h.front;
  back = h.back ++ more;
  splits = splits_further h.front h.back lines more h.splits;
  before = h.before;
  had = h.had;
  count = h.count;
  counted = h.counted;
  within = let k = h.within in let l = steps_append limit (session_after limit s h.front) h.back more in omega (arith, k, l);
  whole = h.whole;
  have = h.have;
  begun = h.begun;
  leads = h.leads;
  all = h.all;
}

some_further : (limit : ℕ) (rules : List Rule) (s : Session) (lines more : List Line) (old new : Engine) (file : Option BlockFile) → SpendsSome limit rules s lines old new file → SpendsSome limit rules s (lines ++ more) old new file
some_further limit rules s lines more old new file h = record {
  place = h.place;
  means = h.means;
  parts = h.parts;
  through = through_further limit s lines more new.steps h.place h.parts h.through;
  few = h.few;
}

into_further : (limit : ℕ) (rules : List Rule) (s : Session) (lines more : List Line) (old new : Engine) (file : Option BlockFile) → SpendsInto limit rules s lines old new file → SpendsInto limit rules s (lines ++ more) old new file
unfolding some_further through_further
into_further limit rules s lines more old new file h =
    let t = h.some.through in
    record {
      some = some_further limit rules s lines more old new file h.some;
      below = let k = h.below in let l = steps_append limit (session_after limit s t.front) t.back more in omega (arith, k, l);
      going = h.going;
    }

pub spends_further : (e : Stopped) (limit : ℕ) (rules : List Rule) (s : Session) (lines more : List Line) (old new : Engine) (file : Option BlockFile) → Spends {T = Unit {0}} (Err e) limit rules s lines old new file → Spends {T = Unit {0}} (Err e) limit rules s (lines ++ more) old new file
spends_further stopped.Turns limit rules s lines more old new file h = into_further limit rules s lines more old new file h
spends_further stopped.PageFault limit rules s lines more old new file h = some_further limit rules s lines more old new file h
spends_further stopped.WriteFault limit rules s lines more old new file h = tt
