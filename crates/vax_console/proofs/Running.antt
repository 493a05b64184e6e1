-- The requests that make steps, by how the machine's run ended.
use Rattle.std.proofs.Common.{◌≡◌, ◌≢◌, ◌<◌, ◌≤◌, ◌+◌, ℕ, min, Bool, true, false, nat_le, nat_lt, is_some, List, [], ◌∷◌, ◌++◌, append_assoc, codes, Option, Some, None, Result, Ok, Err, refl, sym, ap, subst, ◌∙◌, arith}
use Rattle.std.proofs.lemmas.Bool.{false≢true}
use Rattle.std.proofs.lemmas.Bool.Decides.{nat_tests}
use Rattle.std.specs.Prelude.{IsOk}
use Rattle.std.specs.Result.{IsErrAnd}
use Rattle.vax_space.specs.declared.Area.{Area}
use Rattle.vax_outside.specs.Blocks.{BlockFile}
use Rattle.vax_outside.specs.Channels.{Channels, Grew, GrewByPrefix, append, unsaved}
use Rattle.vax_outside.specs.Faults.{Rose}
use Rattle.vax_outside.specs.declared.faults.Failures.{Failures}
use Rattle.vax_flat.specs.declared.Ending.{Ending}
use Rattle.vax_flat.specs.Parts.{Place, At, Within, GoesBy, machine_at}
use Rattle.vax_flat.specs.Step.{Flat}
use Rattle.vax_machine.specs.Attempt.{open_at}
use Rattle.vax_sched.specs.Due.{due}
use Rattle.vax_sched.specs.declared.rule.Rule.{Rule}
use Rattle.vax_report.specs.Lines.{line}
use Rattle.vax_machine.specs.Console.{IsBetween, StopsBetween}
use Rattle.vax_machine.specs.Machine.{Means, residence}
use Rattle.vax_machine.specs.Touched.{PinsTouched}
use Rattle.vax_pager.specs.Listing.{is_listed}
use Rattle.vax_machine.specs.Paged.{Paged, ByEnding, BySteps, ByTurns, all_evicted, paged, stop_by, stops}
use Rattle.vax_machine.specs.Run as run_spec
use Rattle.vax_machine.specs.Run.{begun}
use Rattle.vax_machine.specs.Writing.{lines_of, output_of}
use Rattle.vax_machine.specs.declared.engine.Engine.{Engine}
use Rattle.vax_machine.specs.declared.event.Limits.{Limits}
use Rattle.vax_machine.specs.declared.event.RunEnd.{RunEnd}
use Rattle.vax_machine.specs.declared.event.RunEnd.TheVariants as run_end
use Rattle.vax_machine.proofs.Tracking.{many_evicted}
use Rattle.vax_script.specs.declared.request.Request.TheVariants.{Next, Continue}
use Rattle.vax_script.specs.declared.request.Line.TheVariants.{Request as Asks}
use Rattle.vax_console.specs.Transcript.{Session, advanced, answered, left, next_line, reply, stop_line, unless_ended}
use Rattle.vax_console.specs.Ends.{Advances, Causes, ChangesOnce, Goes, IsAt, IsOnTheWay, IsWithin, Replies, answer_of, session_on, writes}
use Rattle.vax_console.specs.declared.stopped.Stopped.{Stopped}
use Rattle.vax_console.specs.declared.stopped.Stopped.TheVariants as stopped
use Rattle.vax_console.proofs.Advancing.{Makes, advanced_ended, advanced_stays, is_below, run_makes_by}
use Rattle.vax_console.proofs.Outputs.{goes_output, steps_further}
use Rattle.vax_console.proofs.Replying.{prefix_before, replied_goes, run_cut, run_lost, run_out, simple_goes}

-- the limits of a run of so many steps more
abbrev pub limits_of : Limits → ℕ → ℕ → Limits
limits_of limits first count = record { steps = first + count; turns = limits.turns; listed = false }

-- no page is pinned
pub pins_none : (m : Engine) (place : Place) → IsBetween m → PinsTouched (residence m) place
unfolding is_listed
pins_none m place b = record { touched = λ page h. let no : false ≡ true = sym (ap (is_listed page) b.unpinned) ∙ h in absurd (cc no) }

-- a machine between two steps is at one
pub place_between : (place : Place) → None ≡ open_at place → (x : Flat) × (place ≡ At x)
place_between (At x) e = (x, refl)
place_between (Within p) e = absurd (cc e)

-- what was sent
record HasSent (from : Flat) (p : Paged) (more : Channels) : Type 0 where
  pub output : (machine_at p.place).output ≡ from.output ++ more.out
  pub only : more ≡ writes more.out []

sent_of : (from : Flat) (p b : Paged) (more : Channels) → (machine_at b.place).output ≡ from.output → output_of false p ≡ append (output_of false b) more → HasSent from p more
unfolding lines_of
sent_of from p b more place e =
    let report : more.report ≡ [] = sym (ap (λ (z : Channels). z.report) e) in
    let recorded : more.recorded ≡ [] = sym (ap (λ (z : Channels). z.recorded) e) in
    let saved : more.saved ≡ unsaved = sym (ap (λ (z : Channels). z.saved) e) in
    record {
      output = ap (λ (z : Channels). z.out) e ∙ ap (λ (z : List ℕ). z ++ more.out) place;
      only = λ i. record { out = more.out; report = report i; recorded = recorded i; saved = saved i };
    }

grew_sent : (from : Flat) (p : Paged) (more : Channels) (old new : Option Channels) → HasSent from p more → Grew old new more → Grew old new (writes more.out [])
grew_sent from p more old new h g = subst (λ (z : Channels). Grew old new z) h.only g

part_sent : (from : Flat) (p : Paged) (more : Channels) (old new : Option Channels) → HasSent from p more → GrewByPrefix old new more → GrewByPrefix old new (writes more.out [])
part_sent from p more old new h g = subst (λ (z : Channels). GrewByPrefix old new z) h.only g

-- where the run is

on_the_way : (s : Session) (most : ℕ) (p : Paged) (steps : ℕ) → Makes s most p → steps ≡ p.steps → IsOnTheWay s most p.place steps
on_the_way s most p steps m e = record { count = m.made; few = m.few; steps = e ∙ (m.steps ∙ sym m.same); goes = m.goes }

within_run : (s : Session) (most : ℕ) (p : Paged) (more : Channels) (m : Engine) (file : Option BlockFile) (old new : Option Channels) → Makes s most p → m.steps ≡ p.steps → Means m file p.place → HasSent s.machine p more → Grew old new more → IsWithin s.machine s most [] m file old new
within_run s most p more m file old new k steps means sent wrote = record {
  place = p.place;
  goes = on_the_way s most p m.steps k steps;
  means = means;
  sent = more.out;
  output = sent.output;
  wrote = grew_sent s.machine p more old new sent wrote;
}

-- it is between two steps
arrived : (s : Session) (most : ℕ) (p : Paged) (more : Channels) (m : Engine) (file : Option BlockFile) (old new : Option Channels) (k : Makes s most p) → m.steps ≡ p.steps → Means m file p.place → m.cpu.latch ≡ None → HasSent s.machine p more → Grew old new more →
    IsAt s.machine (advanced k.made s) [] m file old new × ((machine_at p.place).ending ≡ (advanced k.made s).machine.ending)
arrived s most p more m file old new k steps means closed sent wrote =
    let x = place_between p.place (sym closed ∙ means.processor.open_one) in
    let is : x.0 ≡ (advanced k.made s).machine = subst (λ (z : Place). GoesBy (advanced k.made s).machine z) x.1 k.goes in
    let at : p.place ≡ At (advanced k.made s).machine = x.1 ∙ ap At is in (
      record {
        steps = steps ∙ (k.steps ∙ sym k.same);
        means = subst (λ (z : Place). Means m file z) at means;
        sent = more.out;
        output = sym (ap (λ (z : Place). (machine_at z).output) at) ∙ sent.output;
        wrote = grew_sent s.machine p more old new sent wrote;
      },
      ap (λ (z : Place). (machine_at z).ending) at,
    )

at_as : (from : Flat) (s t : Session) (m : Engine) (file : Option BlockFile) (old new : Option Channels) → t ≡ s → IsAt from s [] m file old new → IsAt from t [] m file old new
at_as from s t m file old new e a = subst (λ (z : Session). IsAt from z [] m file old new) (sym e) a

-- why it stopped

pub by_ending : (how : Option Ending) (steps turns : Bool) (e : Ending) → stop_by how steps turns ≡ Some (ByEnding e) → how ≡ Some e
by_ending (Some x) steps turns e h = let k : x ≡ e = cc in ap Some k
by_ending None true turns e h = absurd (cc h)
by_ending None false true e h = absurd (cc h)
by_ending None false false e h = absurd (cc h)

pub by_steps : (how : Option Ending) (steps turns : Bool) → stop_by how steps turns ≡ Some BySteps → (how ≡ None) × (steps ≡ true)
by_steps (Some x) steps turns h = absurd (cc h)
by_steps None true turns h = (refl, refl)
by_steps None false true h = absurd (cc h)
by_steps None false false h = absurd (cc h)

pub by_turns : (how : Option Ending) (steps turns : Bool) → stop_by how steps turns ≡ Some ByTurns → (how ≡ None) × (steps ≡ false) × (turns ≡ true)
by_turns (Some x) steps turns h = absurd (cc h)
by_turns None true turns h = absurd (cc h)
by_turns None false true h = (refl, refl, refl)
by_turns None false false h = absurd (cc h)

pub is_le : (a b : ℕ) → nat_le a b ≡ true → a ≤ b
is_le a b h = grind (arith, nat_tests)

-- what a run of so many steps comes to, from a place by which the first of them goes
pub advances_by : (end : RunEnd) (limits : Limits) (count : ℕ) (areas : List Area) (rules : List Rule) (flat : Flat) (place : Place) (m1 m2 : Engine) (f1 f2 : Option BlockFile) (old new : Option Channels) → GoesBy flat place → (StopsBetween end → IsBetween m2) →
    run_spec.Ends (limits_of limits m1.steps count) areas rules (begun m1 place) f1 end m2 f2 old new → Advances (answer_of end) limits count (session_on m1 flat) m2 f2 old new
unfolding stops
advances_by (run_end.Ended e) limits count areas rules flat place m1 m2 f1 f2 old new by between w =
    let s = session_on m1 flat in
    let b = begun m1 place in
    let p = paged areas (due rules) w.count b in
    let k = run_makes_by (limits_of limits m1.steps count) areas rules w.count count b s by refl refl w.goes in
    let sent = sent_of flat p b w.wrote.more (goes_output flat place by) w.wrote.is in
    let a = arrived s count p w.wrote.more m2 f2 old new k w.tracks.steps w.tracks.means (between tt).closed sent w.wrote.grew in
    let ended : (advanced k.made s).machine.ending ≡ Some e = sym a.1 ∙ by_ending (machine_at p.place).ending (nat_le (m1.steps + count) p.steps) (nat_le limits.turns p.turns) e w.stopped in
    let is = advanced_stays count k.made s e k.few ended in
    (sym (ap (λ (z : Session). z.machine.ending) is ∙ ended), at_as flat (advanced k.made s) (advanced count s) m2 f2 old new is a.0)
advances_by run_end.Steps limits count areas rules flat place m1 m2 f1 f2 old new by between w =
    let s = session_on m1 flat in
    let b = begun m1 place in
    let p = paged areas (due rules) w.count b in
    let k = run_makes_by (limits_of limits m1.steps count) areas rules w.count count b s by refl refl w.goes in
    let sent = sent_of flat p b w.wrote.more (goes_output flat place by) w.wrote.is in
    let a = arrived s count p w.wrote.more m2 f2 old new k w.tracks.steps w.tracks.means (between tt).closed sent w.wrote.grew in
    let why = by_steps (machine_at p.place).ending (nat_le (m1.steps + count) p.steps) (nat_le limits.turns p.turns) w.stopped in
    let all : m1.steps + count ≤ p.steps = is_le (m1.steps + count) p.steps why.1 in
    let made : k.made ≡ count = let x = k.few in let y = k.steps in omega (arith, all, x, y) in
    let is : advanced count s ≡ advanced k.made s = ap (λ (n : ℕ). advanced n s) (sym made) in
    (sym (ap (λ (z : Session). z.machine.ending) is ∙ (sym a.1 ∙ why.0)), at_as flat (advanced k.made s) (advanced count s) m2 f2 old new is a.0)
advances_by run_end.Turns limits count areas rules flat place m1 m2 f1 f2 old new by between w =
    let s = session_on m1 flat in
    let b = begun m1 place in
    let p = paged areas (due rules) w.count b in
    let k = run_makes_by (limits_of limits m1.steps count) areas rules w.count count b s by refl refl w.goes in
    let sent = sent_of flat p b w.wrote.more (goes_output flat place by) w.wrote.is in
    let why = by_turns (machine_at p.place).ending (nat_le (m1.steps + count) p.steps) (nat_le limits.turns p.turns) w.stopped in
    let reached : limits.turns ≤ p.turns = is_le limits.turns p.turns why.2 in
    let below : p.steps < m1.steps + count = is_below (m1.steps + count) p.steps why.1 in
    let ended : m2.ended ≡ None = ap (λ (z : Flat). z.ending) w.tracks.means.processor.machine ∙ why.0 in (
      record {
        reached = let x = w.tracks.turns in omega (arith, x, reached);
        going = ended;
        below = let x = w.tracks.steps in omega (arith, x, below);
      },
      within_run s count p w.wrote.more m2 f2 old new k w.tracks.steps w.tracks.means sent w.wrote.grew,
    )
advances_by run_end.PageFault limits count areas rules flat place m1 m2 f1 f2 old new by between w =
    let s = session_on m1 flat in
    let b = begun m1 place in
    let p = paged areas (due rules) w.count b in
    let k = run_makes_by (limits_of limits m1.steps count) areas rules w.count count b s by refl refl (record { going = λ i l. w.goes.going i (omega (arith, l)) }) in
    let q = all_evicted w.front p in
    let o = many_evicted w.front p in
    let sent = sent_of flat q b w.wrote.more (goes_output flat place by) w.wrote.is in
    let here : HasSent flat p w.wrote.more = record { output = sym (ap (λ (z : Place). (machine_at z).output) o.place) ∙ sent.output; only = sent.only } in
    within_run s count p w.wrote.more m2 f2 old new k w.steps w.means here w.wrote.grew
advances_by run_end.WriteFault limits count areas rules flat place m1 m2 f1 f2 old new by between w =
    let s = session_on m1 flat in
    let b = begun m1 place in
    let p = paged areas (due rules) w.count b in
    let k = run_makes_by (limits_of limits m1.steps count) areas rules w.count count b s by refl refl w.goes in
    let sent = sent_of flat p b w.wrote.more (goes_output flat place by) w.wrote.is in
    let whole = steps_further k.made count s k.few in
    let reached : (machine_at p.place).output ≡ (advanced k.made s).machine.output = goes_output (advanced k.made s).machine p.place k.goes in
    let wrote : GrewByPrefix old new (writes (w.wrote.more.out ++ whole.0) ([] ++ [])) = prefix_before old new w.wrote.more.out whole.0 [] [] (part_sent flat p w.wrote.more old new sent w.wrote.grew) in
    record {
      sent = w.wrote.more.out ++ whole.0;
      output = whole.1 ∙ (ap (λ (z : List ℕ). z ++ whole.0) (sym reached ∙ sent.output) ∙ append_assoc flat.output w.wrote.more.out whole.0);
      wrote = wrote;
    }

pub advances_from : (end : RunEnd) (limits : Limits) (count first : ℕ) (areas : List Area) (rules : List Rule) (flat : Flat) (m1 m2 : Engine) (f1 f2 : Option BlockFile) (old new : Option Channels) → first ≡ m1.steps → (StopsBetween end → IsBetween m2) →
    run_spec.Ends (limits_of limits first count) areas rules (begun m1 (At flat)) f1 end m2 f2 old new → Advances (answer_of end) limits count (session_on m1 flat) m2 f2 old new
advances_from end limits count first areas rules flat m1 m2 f1 f2 old new e between w =
    advances_by end limits count areas rules flat (At flat) m1 m2 f1 f2 old new refl between (subst (λ (n : ℕ). run_spec.Ends (limits_of limits n count) areas rules (begun m1 (At flat)) f1 end m2 f2 old new) e w)

-- all steps were made, or the machine ended, where a run stops between two steps
pub between_ok : (end : RunEnd) → IsOk (answer_of end) → StopsBetween end
between_ok (run_end.Ended e) ok = tt
between_ok run_end.Steps ok = tt
between_ok run_end.Turns ok = absurd (false≢true ok)
between_ok run_end.PageFault ok = absurd (false≢true ok)
between_ok run_end.WriteFault ok = absurd (false≢true ok)

-- which calls failed, by how the run ended
pub record HasCauses (end : RunEnd) (f f' k k' : Failures) : Type 0 where
  pub later : f.count ≤ f'.count
  pub sunk : k.count ≤ k'.count
  pub fault : end ≡ run_end.PageFault → Rose f f'
  pub cause : end ≡ run_end.WriteFault → Rose k k'
  pub unfailed : end ≢ run_end.PageFault → end ≢ run_end.WriteFault → f'.count ≡ f.count
  pub failed : ChangesOnce f f'
  pub written : end ≢ run_end.WriteFault → k'.count ≡ k.count

pub causes_of : (end : RunEnd) (f f' k k' : Failures) → HasCauses end f f' k k' → Causes (answer_of end) f f' k k'
causes_of (run_end.Ended e) f f' k k' h = (h.unfailed (λ i. cc i) (λ i. cc i), h.written (λ i. cc i))
causes_of run_end.Steps f f' k k' h = (h.unfailed (λ i. cc i) (λ i. cc i), h.written (λ i. cc i))
causes_of run_end.Turns f f' k k' h = (h.unfailed (λ i. cc i) (λ i. cc i), h.written (λ i. cc i))
causes_of run_end.PageFault f f' k k' h = (h.later, h.fault refl, h.written (λ i. cc i))
causes_of run_end.WriteFault f f' k k' h = (h.later, h.sunk, h.cause refl, h.failed)

-- requests of an ended machine

pub next_refused : (r : Result (Unit {0}) Stopped) (limits : Limits) (flat : Flat) (count : ℕ) (e : Ending) (m : Engine) (file : Option BlockFile) (before now : Failures) (old new : Option Channels) → Means m file (At flat) → flat.ending ≡ Some e →
    Replies r before now old new (line (codes "?ENDED")) → Goes r limits (session_on m flat) (Asks (Next count) ∷ []) m file old new
unfolding reply answered
next_refused r limits flat count e m file before now old new means ended p =
    let s = session_on m flat in
    simple_goes r limits s s (Asks (Next count)) (line (codes "?ENDED")) m file before now old new (advanced_ended (min count (left limits.steps s)) s e ended) (rw ended refl) refl means refl p

pub continue_refused : (r : Result (Unit {0}) Stopped) (limits : Limits) (flat : Flat) (e : Ending) (m : Engine) (file : Option BlockFile) (before now : Failures) (old new : Option Channels) → Means m file (At flat) → flat.ending ≡ Some e →
    Replies r before now old new (line (codes "?ENDED")) → Goes r limits (session_on m flat) (Asks Continue ∷ []) m file old new
unfolding reply answered
continue_refused r limits flat e m file before now old new means ended p =
    let s = session_on m flat in
    simple_goes r limits s s (Asks Continue) (line (codes "?ENDED")) m file before now old new (advanced_ended (left limits.steps s) s e ended) (rw ended refl) refl means refl p

-- and of one that goes on: the steps were made

pub next_said : (limits : Limits) (s : Session) (count : ℕ) (text : List ℕ) → s.machine.ending ≡ None → next_line (nat_lt (left limits.steps s) count) (advanced (min count (left limits.steps s)) s) ≡ text → reply limits.steps s (Next count) ≡ text
unfolding reply
next_said limits s count text going e =
    ap (λ (h : Option Ending). unless_ended h (next_line (nat_lt (left limits.steps s) count) (advanced (min count (left limits.steps s)) s))) going ∙ e

pub continue_said : (limits : Limits) (s : Session) (text : List ℕ) → s.machine.ending ≡ None → stop_line (advanced (left limits.steps s) s) ≡ text → reply limits.steps s Continue ≡ text
unfolding reply
continue_said limits s text going e = ap (λ (h : Option Ending). unless_ended h (stop_line (advanced (left limits.steps s) s))) going ∙ e

pub next_goes : (r : Result (Unit {0}) Stopped) (limits : Limits) (s : Session) (count : ℕ) (text : List ℕ) (m : Engine) (file : Option BlockFile) (before now : Failures) (old mid new : Option Channels) → s.machine.ending ≡ None → IsAt s.machine (advanced (min count (left limits.steps s)) s) [] m file old mid →
    next_line (nat_lt (left limits.steps s) count) (advanced (min count (left limits.steps s)) s) ≡ text → Replies r before now mid new text → Goes r limits s (Asks (Next count) ∷ []) m file old new
unfolding answered
next_goes r limits s count text m file before now old mid new going a said p =
    replied_goes r limits s (advanced (min count (left limits.steps s)) s) (Asks (Next count)) text a.sent m file before now old mid new refl (next_said limits s count text going said) a.steps a.means a.output a.wrote p

pub continue_goes : (r : Result (Unit {0}) Stopped) (limits : Limits) (s : Session) (text : List ℕ) (m : Engine) (file : Option BlockFile) (before now : Failures) (old mid new : Option Channels) → s.machine.ending ≡ None → IsAt s.machine (advanced (left limits.steps s) s) [] m file old mid →
    stop_line (advanced (left limits.steps s) s) ≡ text → Replies r before now mid new text → Goes r limits s (Asks Continue ∷ []) m file old new
unfolding answered
continue_goes r limits s text m file before now old mid new going a said p =
    replied_goes r limits s (advanced (left limits.steps s) s) (Asks Continue) text a.sent m file before now old mid new refl (continue_said limits s text going said) a.steps a.means a.output a.wrote p

-- or they weren't

pub next_stopped : (e : Stopped) (limits : Limits) (s : Session) (count : ℕ) (m : Engine) (file : Option BlockFile) (old new : Option Channels) → Advances (Err e) limits (min count (left limits.steps s)) s m file old new → Goes (Err e) limits s (Asks (Next count) ∷ []) m file old new
unfolding answered
next_stopped stopped.Turns limits s count m file old new a = run_out limits s (Asks (Next count)) (min count (left limits.steps s)) m file old new refl a.0 a.1
next_stopped stopped.PageFault limits s count m file old new a = run_cut limits s (Asks (Next count)) (min count (left limits.steps s)) m file old new refl a
next_stopped stopped.WriteFault limits s count m file old new a = run_lost limits s (advanced (min count (left limits.steps s)) s) (Asks (Next count)) m file old new refl a

pub continue_stopped : (e : Stopped) (limits : Limits) (s : Session) (m : Engine) (file : Option BlockFile) (old new : Option Channels) → Advances (Err e) limits (left limits.steps s) s m file old new → Goes (Err e) limits s (Asks Continue ∷ []) m file old new
unfolding answered
continue_stopped stopped.Turns limits s m file old new a = run_out limits s (Asks Continue) (left limits.steps s) m file old new refl a.0 a.1
continue_stopped stopped.PageFault limits s m file old new a = run_cut limits s (Asks Continue) (left limits.steps s) m file old new refl a
continue_stopped stopped.WriteFault limits s m file old new a = run_lost limits s (advanced (left limits.steps s) s) (Asks Continue) m file old new refl a

-- an error that is passed on
pub err_same : {T : Type 0} (r : Result T Stopped) (e : Stopped) → IsErrAnd r (λ x. x ≡ e) → r ≡ Err e
err_same (Ok x) e h = absurd h
err_same (Err y) e h = ap Err h

pub some_of : (how : Option Ending) → is_some how ≡ true → (e : Ending) × (how ≡ Some e)
some_of (Some e) h = (e, refl)
some_of None h = absurd (cc h)

pub none_of : (how : Option Ending) → is_some how ≡ false → how ≡ None
none_of (Some e) h = absurd (cc h)
none_of None h = refl
