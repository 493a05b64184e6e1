-- The machine's runs make the steps of a session that is debugged.
use Rattle.std.proofs.Common.{◌≡◌, ◌<◌, ◌≤◌, ◌+◌, ◌-◌, ◌^◌, ℕ, min, Bool, true, false, List, [], ◌++◌, append-nil, append_assoc, Option, Result, Ok, Err, refl, sym, ap, subst, ◌∙◌, inr, arith}
use Rattle.vax_space.specs.declared.Area.{Area}
use Rattle.vax_outside.specs.Blocks.{BlockFile}
use Rattle.vax_outside.specs.Channels.{Channels, Grew, GrewByPrefix, append, nothing}
use Rattle.vax_outside.specs.declared.faults.Failures.{Failures}
use Rattle.vax_outside.proofs.Counting.{rose_then}
use Rattle.vax_outside.proofs.Growth.{append-nothing, grew_more, prefix_in}
use Rattle.vax_flat.specs.Parts.{Place, At, GoesBy}
use Rattle.vax_flat.specs.Step.{Flat}
use Rattle.vax_sched.specs.declared.rule.Rule.{Rule}
use Rattle.vax_machine.specs.Console.{IsBetween, MayGoOn, StopsBetween}
use Rattle.vax_pager.specs.Listing.{is_listed}
use Rattle.vax_machine.specs.Machine.{residence}
use Rattle.vax_machine.specs.Touched.{PinsTouched}
use Rattle.vax_machine.specs.Run as run_spec
use Rattle.vax_machine.specs.Run.{begun}
use Rattle.vax_machine.specs.declared.engine.Engine.{Engine}
use Rattle.vax_machine.specs.declared.event.Limits.{Limits}
use Rattle.vax_machine.specs.declared.event.RunEnd.{RunEnd}
use Rattle.vax_machine.specs.declared.event.RunEnd.TheVariants as run_end
use Rattle.vax_console.specs.Transcript.{Session, advanced, stepped}
use Rattle.vax_console.specs.Ends.{Advances, IsAt, IsOnTheWay, IsOutOfTurns, IsPartOf, IsWithin, Scene, answer_of, session_on, writes}
use Rattle.vax_console.proofs.Replying.{changes_once_then}
use Rattle.vax_console.proofs.Running.{advances_by}
use Rattle.vax_debug.specs.Attempts.{IsUnderway}
use Rattle.vax_debug.specs.Sessions.{Arrives, Counts, IsHere, Origin}
use Rattle.vax_debug.specs.declared.failure.Failure.{Failure}
use Rattle.vax_debug.specs.declared.failure.Failure.TheVariants as failure
use Rattle.vax_debug.proofs.Travelling.{advanced_behind, few_steps, none_advanced, one_advanced, only_one, travel_begins, travel_ends, travel_goes, travel_halts}
use Rattle.vax_debug.specs.Steps.{Halts, Steps}
use Rattle.vax_debug.specs.Travel.{Stops, has_halted, travelled}

-- what is sent behind what was sent and replied

-- the session's output and the replies were written
pub record HasTold (from : Flat) (s : Session) (replies : List ℕ) (old now : Option Channels) : Type 0 where
  pub sent : List ℕ
  pub output : s.machine.output ≡ from.output ++ sent
  pub wrote : Grew old now (writes sent replies)

pub told_at : (from : Flat) (s : Session) (replies : List ℕ) (m : Engine) (f : Option BlockFile) (a b : Option Channels) → IsAt from s replies m f a b → HasTold from s replies a b
told_at from s replies m f a b p = record { sent = p.sent; output = p.output; wrote = p.wrote }

pub at_behind : (from : Flat) (s t : Session) (replies : List ℕ) (m2 : Engine) (f2 : Option BlockFile) (a b c : Option Channels) → HasTold from s replies a b → IsAt s.machine t [] m2 f2 b c → IsAt from t replies m2 f2 a c
at_behind from s t replies m2 f2 a b c p q = record {
  steps = q.steps;
  means = q.means;
  sent = p.sent ++ q.sent;
  output = q.output ∙ (ap (λ (z : List ℕ). z ++ q.sent) p.output ∙ append_assoc from.output p.sent q.sent);
  wrote = subst (λ (z : List ℕ). Grew a c (writes (p.sent ++ q.sent) z)) (append-nil replies) (grew_more a b c (writes p.sent replies) (writes q.sent []) p.wrote q.wrote);
}

within_behind : (from : Flat) (s : Session) (most : ℕ) (replies : List ℕ) (m2 : Engine) (f2 : Option BlockFile) (a b c : Option Channels) → HasTold from s replies a b → IsWithin s.machine s most [] m2 f2 b c → IsWithin from s most replies m2 f2 a c
within_behind from s most replies m2 f2 a b c p q = record {
  place = q.place;
  goes = q.goes;
  means = q.means;
  sent = p.sent ++ q.sent;
  output = q.output ∙ (ap (λ (z : List ℕ). z ++ q.sent) p.output ∙ append_assoc from.output p.sent q.sent);
  wrote = subst (λ (z : List ℕ). Grew a c (writes (p.sent ++ q.sent) z)) (append-nil replies) (grew_more a b c (writes p.sent replies) (writes q.sent []) p.wrote q.wrote);
}

pub part_behind : (from : Flat) (s t : Session) (replies : List ℕ) (a b c : Option Channels) → HasTold from s replies a b → IsPartOf s.machine t [] b c → IsPartOf from t replies a c
part_behind from s t replies a b c p q = record {
  sent = p.sent ++ q.sent;
  output = q.output ∙ (ap (λ (z : List ℕ). z ++ q.sent) p.output ∙ append_assoc from.output p.sent q.sent);
  wrote = subst (λ (z : List ℕ). GrewByPrefix a c (writes (p.sent ++ q.sent) z)) (append-nil replies) (prefix_in a b c (writes p.sent replies) (writes q.sent []) nothing (writes (p.sent ++ q.sent) (replies ++ [])) (ap (append (writes p.sent replies)) (append-nothing (writes q.sent []))) p.wrote q.wrote);
}

-- one step

-- what the end of a run of one step comes to
abbrev pub outcome_of : RunEnd → Result (Unit {0}) Failure
outcome_of (run_end.Ended e) = Ok tt
outcome_of run_end.Steps = Ok tt
outcome_of run_end.Turns = Err failure.Turns
outcome_of run_end.PageFault = Err failure.PageFault
outcome_of run_end.WriteFault = Err failure.WriteFault

pub here_behind : (o : Origin) (s : Session) (replies : List ℕ) (v w : Scene) → HasTold o.flat s replies o.channels v.sink → IsBetween w.machine → IsAt s.machine (advanced 1 s) [] w.machine w.file v.sink w.sink → IsHere o (stepped s) replies w
here_behind o s replies v w told between a = record {
  at = subst (λ (t : Session). IsAt o.flat t replies w.machine w.file o.channels w.sink) (only_one s)
      (at_behind o.flat s (advanced 1 s) replies w.machine w.file o.channels v.sink w.sink told a);
  between = between;
}

step_arrives : (end : RunEnd) (limits : Limits) (o : Origin) (s : Session) (replies : List ℕ) (v w : Scene) → HasTold o.flat s replies o.channels v.sink → (StopsBetween end → IsBetween w.machine) →
    Advances (answer_of end) limits 1 s w.machine w.file v.sink w.sink → Arrives (outcome_of end) limits.turns 1 (stepped s) o s replies w
step_arrives (run_end.Ended e) limits o s replies v w told between a = here_behind o s replies v w told (between tt) a.1
step_arrives run_end.Steps limits o s replies v w told between a = here_behind o s replies v w told (between tt) a.1
step_arrives run_end.Turns limits o s replies v w told between a =
    (a.0, within_behind o.flat s 1 replies w.machine w.file o.channels v.sink w.sink told a.1)
step_arrives run_end.PageFault limits o s replies v w told between a =
    within_behind o.flat s 1 replies w.machine w.file o.channels v.sink w.sink told a
step_arrives run_end.WriteFault limits o s replies v w told between a = record {
  made = 1;
  few = omega arith;
  part = part_behind o.flat s (advanced 1 s) replies o.channels v.sink w.sink told a;
}

-- the session that a machine makes
session_is : (s : Session) (m : Engine) → m.steps ≡ s.steps → session_on m s.machine ≡ s
session_is s m steps = ap (λ (n : ℕ). record { machine = s.machine; steps = n }) steps

-- a run up to the end of the next step, from a place by which that goes
pub run_arrives_by : (end : RunEnd) (limits : Limits) (most : ℕ) (areas : List Area) (rules : List Rule) (o : Origin) (s : Session) (replies : List ℕ) (place : Place) (v w : Scene) → GoesBy s.machine place → HasTold o.flat s replies o.channels v.sink → v.machine.steps ≡ s.steps →
    (StopsBetween end → IsBetween w.machine) → most ≡ v.machine.steps + 1 →
    run_spec.Ends (record { steps = most; turns = limits.turns; listed = false }) areas rules (begun v.machine place) v.file end w.machine w.file v.sink w.sink → Arrives (outcome_of end) limits.turns 1 (stepped s) o s replies w
run_arrives_by end limits most areas rules o s replies place v w by told steps between is e =
    let run = subst (λ (n : ℕ). run_spec.Ends (record { steps = n; turns = limits.turns; listed = false }) areas rules (begun v.machine place) v.file end w.machine w.file v.sink w.sink) is e in
    let a = advances_by end limits 1 areas rules s.machine place v.machine w.machine v.file w.file v.sink w.sink by between run in
    step_arrives end limits o s replies v w told between (subst (λ (z : Session). Advances (answer_of end) limits 1 z w.machine w.file v.sink w.sink) (session_is s v.machine steps) a)

-- a run of one step more
pub run_arrives : (end : RunEnd) (limits : Limits) (most : ℕ) (areas : List Area) (rules : List Rule) (o : Origin) (s : Session) (replies : List ℕ) (v w : Scene) → IsHere o s replies v → (StopsBetween end → IsBetween w.machine) → most ≡ v.machine.steps + 1 →
    run_spec.Ends (record { steps = most; turns = limits.turns; listed = false }) areas rules (begun v.machine (At s.machine)) v.file end w.machine w.file v.sink w.sink → Arrives (outcome_of end) limits.turns 1 (stepped s) o s replies w
run_arrives end limits most areas rules o s replies v w h between is e =
    run_arrives_by end limits most areas rules o s replies (At s.machine) v w refl (told_at o.flat s replies v.machine v.file o.channels v.sink h.at) h.at.steps between is e

-- the same of the rest of a step
pub run_resumes : (end : RunEnd) (limits : Limits) (most : ℕ) (areas : List Area) (rules : List Rule) (o : Origin) (s : Session) (replies : List ℕ) (v w : Scene) (u : IsUnderway o s replies v) → (StopsBetween end → MayGoOn most v.machine → IsBetween w.machine) → most ≡ v.machine.steps + 1 →
    run_spec.Ends (record { steps = most; turns = limits.turns; listed = false }) areas rules (begun v.machine u.place) v.file end w.machine w.file v.sink w.sink → Arrives (outcome_of end) limits.turns 1 (stepped s) o s replies w
run_resumes end limits most areas rules o s replies v w u between is e =
    run_arrives_by end limits most areas rules o s replies u.place v w u.goes (record { sent = u.sent; output = u.output; wrote = u.wrote }) u.steps
    (λ t. between t (inr (u.going, omega (arith, is)))) is e

-- the limit of turns behind so many steps
out_behind : (turns count i : ℕ) (s : Session) (m : Engine) → i + 1 ≤ count → IsOutOfTurns turns (advanced i s) 1 m → IsOutOfTurns turns s count m
out_behind turns count i s m few o = record {
  reached = o.reached;
  going = o.going;
  below = let here = o.below in let before = few_steps i s in omega (arith, here, before, few);
}

way_on : (count i : ℕ) (s : Session) (place : Place) (steps : ℕ) → i + 1 ≤ count → IsOnTheWay (advanced i s) 1 place steps → IsOnTheWay s count place steps
way_on count i s place steps few w = record {
  count = w.count + i;
  few = let one = w.few in omega (arith, one, few);
  steps = w.steps ∙ ap (λ (z : Session). z.steps) (advanced_behind w.count i s);
  goes = subst (λ (z : Session). GoesBy z.machine place) (advanced_behind w.count i s) w.goes;
}

way_behind : (from : Flat) (count i : ℕ) (s : Session) (replies : List ℕ) (o : Option Channels) (w : Scene) → i + 1 ≤ count → IsWithin from (advanced i s) 1 replies w.machine w.file o w.sink → IsWithin from s count replies w.machine w.file o w.sink
way_behind from count i s replies o w few q = record {
  place = q.place;
  goes = way_on count i s q.place w.machine.steps few q.goes;
  means = q.means;
  sent = q.sent;
  output = q.output;
  wrote = q.wrote;
}

-- a step that failed behind so many
pub fails_behind : (e : Failure) (turns count i : ℕ) (t u : Session) (o : Origin) (s : Session) (replies : List ℕ) (w : Scene) → i + 1 ≤ count → Arrives (Err e) turns 1 t o (advanced i s) replies w → Arrives (Err e) turns count u o s replies w
fails_behind failure.Turns turns count i t u o s replies w few a = (out_behind turns count i s w.machine few a.0, way_behind o.flat count i s replies o.channels w few a.1)
fails_behind failure.PageFault turns count i t u o s replies w few a = way_behind o.flat count i s replies o.channels w few a
fails_behind failure.WriteFault turns count i t u o s replies w few a = record {
  made = a.made + i;
  few = let one = a.few in omega (arith, few, one);
  part = subst (λ (z : Session). IsPartOf o.flat z replies o.channels w.sink) (advanced_behind a.made i s) a.part;
}

-- so many steps were made, and the others are still to be made
pub record HasCome (count i : ℕ) (stops : Stops) (o : Origin) (s : Session) (replies : List ℕ) (v : Scene) : Type 0 where
  pub here : IsHere o (advanced i s) replies v
  pub rest : travelled count stops s ≡ travelled (count - i) stops (advanced i s)

pub comes_first : (count : ℕ) (stops : Stops) (o : Origin) (s : Session) (replies : List ℕ) (v : Scene) → IsHere o s replies v → HasCome count 0 stops o s replies v
comes_first count stops o s replies v h = record {
  here = subst (λ (t : Session). IsHere o t replies v) (none_advanced s) h;
  rest = travel_begins count stops s;
}

-- there are numbers for the next step
pub has_number : (count i : ℕ) (s : Session) → i < count → s.steps + count < 2 ^ 64 → (advanced i s).steps + 1 < 2 ^ 64
has_number count i s below few = let before = few_steps i s in omega (arith, before, below, few)

pub comes_on : (count i : ℕ) (stops : Stops) (o : Origin) (s : Session) (replies : List ℕ) (w : Scene) (b : Bool) → i < count → travelled count stops s ≡ travelled (count - i) stops (advanced i s) → IsHere o (stepped (advanced i s)) replies w →
    b ≡ has_halted stops (stepped (advanced i s)) → b ≡ false → HasCome count (i + 1) stops o s replies w
comes_on count i stops o s replies w b below rest h told going = record {
  here = subst (λ (t : Session). IsHere o t replies w) (one_advanced i s) h;
  rest = travel_goes count i stops s below rest (sym told ∙ going);
}

pub comes_to_stop : (count i : ℕ) (stops : Stops) (o : Origin) (s : Session) (replies : List ℕ) (w : Scene) (b : Bool) → i < count → travelled count stops s ≡ travelled (count - i) stops (advanced i s) → IsHere o (stepped (advanced i s)) replies w →
    b ≡ has_halted stops (stepped (advanced i s)) → b ≡ true → IsHere o (travelled count stops s) replies w
comes_to_stop count i stops o s replies w b below rest h told halted =
    subst (λ (t : Session). IsHere o t replies w) (sym (travel_halts count i stops s below rest (sym told ∙ halted))) h

-- behind a step it is on the way through it
pub within_step : (o : Origin) (s : Session) (replies : List ℕ) (v : Scene) → IsHere o (stepped s) replies v → IsWithin o.flat s 1 replies v.machine v.file o.channels v.sink
within_step o s replies v h = record {
  place = At (stepped s).machine;
  goes = record {
    count = 1;
    few = omega arith;
    steps = h.at.steps ∙ ap (λ (z : Session). z.steps) (sym (only_one s));
    goes = ap (λ (z : Session). z.machine) (sym (only_one s));
  };
  means = h.at.means;
  sent = h.at.sent;
  output = h.at.output;
  wrote = h.at.wrote;
}

-- whether to stop is told behind a step
pub steps_by : (r : Result Bool Failure) (turns : ℕ) (stops : Stops) (o : Origin) (s : Session) (replies : List ℕ) (v : Scene) → Halts r stops o (stepped s) replies v → Steps r turns stops o s replies v
steps_by (Ok b) turns stops o s replies v h = h
steps_by (Err failure.Turns) turns stops o s replies v h = absurd h
steps_by (Err failure.PageFault) turns stops o s replies v h = within_step o s replies v h
steps_by (Err failure.WriteFault) turns stops o s replies v h = absurd h

pub comes_to_end : (count i : ℕ) (stops : Stops) (o : Origin) (s : Session) (replies : List ℕ) (v : Scene) → count ≤ i → HasCome count i stops o s replies v → IsHere o (travelled count stops s) replies v
comes_to_end count i stops o s replies v all k = subst (λ (t : Session). IsHere o t replies v) (sym (travel_ends count i stops s all k.rest)) k.here

-- the limit of a run of one step
pub step_most : (o : Origin) (s : Session) (replies : List ℕ) (v : Scene) (steps most : ℕ) → IsHere o s replies v → s.steps + 1 < 2 ^ 64 → steps ≡ v.machine.steps → most ≡ min (steps + 1) (2 ^ 64 - 1) → most ≡ v.machine.steps + 1
step_most o s replies v steps most h few told is = let here = h.at.steps in omega (arith, here, few, told, is)

-- no page is pinned, so the attempt that comes touches each one that is
pub touches_none : (m : Engine) (place : Place) → (residence m).pinned ≡ [] → PinsTouched (residence m) place
unfolding is_listed
touches_none m place none = record { touched = λ page h. let no : false ≡ true = sym (ap (is_listed page) none) ∙ h in absurd (cc no) }

-- the same of the rest of a step
pub rest_most : (s : Session) (m : Engine) (steps most : ℕ) → m.steps ≡ s.steps → s.steps + 1 < 2 ^ 64 → steps ≡ m.steps → most ≡ min (steps + 1) (2 ^ 64 - 1) → most ≡ m.steps + 1
rest_most s m steps most here few told is = omega (arith, here, few, told, is)

-- calls that failed behind calls of which none did
pub counts_then : (r : Result (Unit {0}) Failure) (f g h x y z : Failures) → g.count ≡ f.count → y.count ≡ x.count → Counts r g h y z → Counts r f h x z
counts_then (Ok v) f g h x y z a b c = (c.0 ∙ a, c.1 ∙ b)
counts_then (Err failure.Turns) f g h x y z a b c = (c.0 ∙ a, c.1 ∙ b)
counts_then (Err failure.PageFault) f g h x y z a b c = (let l = c.0 in omega (arith, a, l), rose_then a c.1, c.2 ∙ b)
counts_then (Err failure.WriteFault) f g h x y z a b c = (let l = c.0 in omega (arith, a, l), let m = c.1 in omega (arith, b, m), rose_then b c.2, changes_once_then f g h a c.3)
