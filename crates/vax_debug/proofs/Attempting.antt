-- One attempt of a session's machine.
use Rattle.std.proofs.Common.{◌≡◌, ◌<◌, ◌+◌, ◌-◌, ◌^◌, ◌&&◌, not, nat_le, is_some, ℕ, min, Bool, true, false, List, [], ◌++◌, append-nil, Option, None, Some, Result, Ok, Err, refl, sym, ap, subst, ◌∙◌, arith, inl, inr}
use Rattle.vax_outside.specs.Blocks.{BlockFile}
use Rattle.vax_outside.specs.Channels.{Channels, Grew, GrewByPrefix, only, unsaved}
use Rattle.vax_outside.specs.declared.traits.Chan.TheVariants.{Out}
use Rattle.vax_outside.specs.declared.faults.Failures.{Failures}
use Rattle.vax_outside.proofs.Growth.{grew_nothing, front_unsaved}
use Rattle.vax_flat.specs.declared.Ending.{Ending}
use Rattle.vax_flat.specs.Parts.{At, Within, Completes, Leaves, Turn, gone_back, left_by, partway, turn}
use Rattle.vax_flat.specs.Step.{Flat, ended, step, with_byte_sent}
use Rattle.vax_flat.proofs.Parts.{turns_agree}
use Rattle.vax_machine.specs.Console.{IsBetween, let_go}
use Rattle.vax_machine.specs.Machine.{Applies, HasTried, Keeping, KeepsPlace, Means, Serves, Tries, keeping, residence}
use Rattle.vax_machine.specs.declared.engine.Engine.{Engine}
use Rattle.vax_machine.specs.declared.event.Applied.{Applied}
use Rattle.vax_machine.specs.declared.event.Applied.TheVariants as applied
use Rattle.vax_machine.specs.declared.event.Event.TheVariants as event
use Rattle.vax_console.specs.Transcript.{Session, advanced, step_by, stepped}
use Rattle.vax_console.specs.Ends.{IsAt, IsWithin, OnlyReplied, Scene, scene, writes}
use Rattle.vax_console.proofs.Requested.{same_ending}
use Rattle.vax_console.proofs.Running.{is_le}
use Rattle.vax_debug.specs.Attempts.{Attempts, Brings, IsUnderway, Sends, bare, bytes_sent, missing_none}
use Rattle.vax_debug.specs.Pages.{absent_in, attempted, is_parted, missed_by, pages_at, parted_in, told_of, unless_ended}
use Rattle.vax_debug.specs.Sessions.{Arrives, Counts, IsHere, Origin}
use Rattle.vax_debug.specs.declared.attempts.Tried.{Tried}
use Rattle.vax_debug.specs.declared.attempts.Tried.TheVariants as tried
use Rattle.vax_debug.specs.declared.failure.Failure.{Failure}
use Rattle.vax_debug.specs.declared.failure.Failure.TheVariants as failure
use Rattle.vax_debug.proofs.Arriving.{HasTold, here_behind, part_behind, told_at}
use Rattle.vax_debug.proofs.Calling.{within_here}
use Rattle.vax_debug.proofs.Reported.{none_left}
use Rattle.vax_debug.proofs.Travelling.{none_advanced, only_one}

-- nothing was written
nothing_grew : (a b : Option Channels) → b ≡ a → Grew a b (writes [] [])
nothing_grew a b is = subst (λ (z : Option Channels). Grew a z (writes [] [])) (sym is) (grew_nothing a)

-- an attempt that missed nothing

-- what is told of one that made the step whole, or in parts
told_made : (missed : Option ℕ) (s : Session) → None ≡ missed → is_parted s ≡ false → tried.Made ≡ told_of missed (is_parted s)
told_made missed s none whole = sym (ap (λ (b : Bool). told_of None b) whole) ∙ ap (λ (z : Option ℕ). told_of z (is_parted s)) none

pub told_parted : (missed : Option ℕ) (s : Session) → None ≡ missed → is_parted s ≡ true → tried.Parted ≡ told_of missed (is_parted s)
told_parted missed s none parted = sym (ap (λ (b : Bool). told_of None b) parted) ∙ ap (λ (z : Option ℕ). told_of z (is_parted s)) none

attempts_none : (told : Tried) (turns : ℕ) (missed : Option ℕ) (o : Origin) (s : Session) (replies : List ℕ) (w : Scene) → None ≡ missed → told ≡ told_of missed (is_parted s) → IsHere o (stepped s) replies w → Attempts (Ok told) turns missed o s replies w
attempts_none told turns missed o s replies w is tells here = (tells, subst (λ (z : Option ℕ). IsHere o (attempted z s) replies w) is here)

attempts_of : (told : Tried) (r : Result (Unit {0}) Failure) (turns : ℕ) (missed : Option ℕ) (o : Origin) (s : Session) (replies : List ℕ) (w : Scene) → None ≡ missed → told ≡ told_of missed (is_parted s) → Arrives r turns 1 (stepped s) o s replies w → Attempts (missing_none told r) turns missed o s replies w
attempts_of told (Ok x) turns missed o s replies w is tells a = attempts_none told turns missed o s replies w is tells a
attempts_of told (Err failure.Turns) turns missed o s replies w is tells a = a
attempts_of told (Err failure.PageFault) turns missed o s replies w is tells a = a
attempts_of told (Err failure.WriteFault) turns missed o s replies w is tells a = a

attempts_told : (told : Tried) (r : Result (Unit {0}) Failure) (found : Result Tried Failure) (turns : ℕ) (missed : Option ℕ) (o : Origin) (s : Session) (replies : List ℕ) (w : Scene) → found ≡ missing_none told r → None ≡ missed → told ≡ told_of missed (is_parted s) → Arrives r turns 1 (stepped s) o s replies w → Attempts found turns missed o s replies w
attempts_told told r found turns missed o s replies w is none tells a =
    subst (λ (z : Result Tried Failure). Attempts z turns missed o s replies w) (sym is) (attempts_of told r turns missed o s replies w none tells a)

pub attempts_whole : (r : Result (Unit {0}) Failure) (found : Result Tried Failure) (turns : ℕ) (missed : Option ℕ) (o : Origin) (s : Session) (replies : List ℕ) (w : Scene) → found ≡ missing_none tried.Made r → None ≡ missed → is_parted s ≡ false → Arrives r turns 1 (stepped s) o s replies w → Attempts found turns missed o s replies w
attempts_whole r found turns missed o s replies w is none whole a =
    attempts_told tried.Made r found turns missed o s replies w is none (told_made missed s none whole) a

pub attempts_parted : (r : Result (Unit {0}) Failure) (found : Result Tried Failure) (turns : ℕ) (missed : Option ℕ) (o : Origin) (s : Session) (replies : List ℕ) (w : Scene) → found ≡ missing_none tried.Parted r → None ≡ missed → is_parted s ≡ true → Arrives r turns 1 (stepped s) o s replies w → Attempts found turns missed o s replies w
attempts_parted r found turns missed o s replies w is none parted a =
    attempts_told tried.Parted r found turns missed o s replies w is none (told_parted missed s none parted) a

-- the calls that failed in an attempt that missed nothing
counts_of : (told : Tried) (r : Result (Unit {0}) Failure) (f g x y : Failures) → Counts r f g x y → Counts (bare (missing_none told r)) f g x y
counts_of told (Ok x) f g a b c = c
counts_of told (Err e) f g a b c = c

pub counts_as : (told : Tried) (r : Result (Unit {0}) Failure) (found : Result Tried Failure) (f g x y : Failures) → found ≡ missing_none told r → Counts r f g x y → Counts (bare found) f g x y
counts_as told r found f g x y is c = subst (λ (z : Result Tried Failure). Counts (bare z) f g x y) (sym is) (counts_of told r f g x y c)

-- what an attempt came to, by its answer

-- the attempt of a machine that goes on
tried_on : (how : Option Ending) (old new : Engine) (result : Applied) → ((e : Ending) → result ≡ applied.Ended e → ⊥) → Tries how old result new → (how ≡ None) × HasTried old result new
tried_on None old new result n t = (refl, t)
tried_on (Some e) old new result n t = absurd (n e t.0)

-- no page is missed, or this one, as what is resident tells
missed_is : (s : Session) (v : Scene) (found : Option ℕ) → s.machine.ending ≡ None → absent_in (pages_at v.machine) s.machine ≡ found → found ≡ missed_by (pages_at v.machine) s
missed_is s v found going is = sym (ap (λ (h : Option Ending). unless_ended h (absent_in (pages_at v.machine) s.machine)) going ∙ is)

-- whether a part is made, as the turn of the flat machine tells
parted_is : (s : Session) (t : Turn) → s.machine.ending ≡ None → turn (At s.machine) ≡ t → is_parted s ≡ is_some (left_by t)
parted_is s t going is = ap (λ (h : Option Ending). parted_in h s.machine) going ∙ ap (λ (z : Turn). is_some (left_by z)) is

-- a page was missed: the session stays
pub record HasMissed (page : ℕ) (o : Origin) (s : Session) (replies : List ℕ) (v w : Scene) : Type 0 where
  pub at : IsAt o.flat s replies w.machine w.file o.channels v.sink
  pub is : Some page ≡ missed_by (pages_at v.machine) s

pub misses : (page : ℕ) (result : Applied) (o : Origin) (s : Session) (replies : List ℕ) (v w : Scene) → result ≡ applied.Absent page → IsHere o s replies v → Applies event.Attempt v.machine v.file result w.machine w.file → HasMissed page o s replies v w
misses page result o s replies v w is h a =
    let t = tried_on v.machine.ended v.machine w.machine result (λ e other. let no : applied.Absent page ≡ applied.Ended e = sym is ∙ other in absurd (cc no)) a.0 in
    let k : HasTried v.machine (applied.Absent page) w.machine = subst (λ (z : Applied). HasTried v.machine z w.machine) is t.1 in
    let g = k.goes v.file (At s.machine) h.at.means in
    let going : s.machine.ending ≡ None = same_ending v.machine v.file s.machine h.at.means ∙ t.0 in
    record {
      at = record {
        steps = ap (λ (z : Keeping). z.steps) k.keeps ∙ h.at.steps;
        means = subst (λ (z : Option BlockFile). Means w.machine z (At s.machine)) (sym a.1) g.1;
        sent = h.at.sent;
        output = h.at.output;
        wrote = h.at.wrote;
      };
      is = missed_is s v (Some page) going g.0;
    }

-- a step was made that sends this byte, or none
pub record HasMade (sent : Option ℕ) (o : Origin) (s : Session) (v w : Scene) : Type 0 where
  pub steps : w.machine.steps ≡ (advanced 1 s).steps
  pub means : Means w.machine w.file (At (advanced 1 s).machine)
  pub between : IsBetween w.machine
  pub output : (advanced 1 s).machine.output ≡ s.machine.output ++ bytes_sent sent
  pub is : None ≡ missed_by (pages_at v.machine) s
  pub whole : is_parted s ≡ false

with_sent : (output : List ℕ) (sent : Option ℕ) → with_byte_sent output sent ≡ output ++ bytes_sent sent
with_sent output None = sym (append-nil output)
with_sent output (Some byte) = refl

-- the session behind a step

abbrev session_at : Flat → ℕ → Session
session_at m steps = record { machine = m; steps = steps }

one_made : (s : Session) (next : Flat) → s.machine.ending ≡ None → step s.machine ≡ next → advanced 1 s ≡ session_at next (s.steps + 1)
one_made s next going is = only_one s ∙ (ap (λ (h : Option Ending). step_by h s) going ∙ ap (λ (m : Flat). session_at m (s.steps + 1)) is)

made_one : (sent : Option ℕ) (o : Origin) (s : Session) (v w : Scene) (next : Flat) → s.machine.ending ≡ None → turn (At s.machine) ≡ Completes next → w.machine.steps ≡ s.steps + 1 → Means w.machine w.file (At next) → (residence w.machine).pinned ≡ [] →
    next.output ≡ with_byte_sent s.machine.output sent → absent_in (pages_at v.machine) s.machine ≡ None → HasMade sent o s v w
made_one sent o s v w next going is steps means pinned output none =
    let t : session_at next (s.steps + 1) ≡ advanced 1 s = sym (one_made s next going (turns_agree s.machine (At s.machine) next going refl is)) in
    record {
      steps = steps ∙ ap (λ (z : Session). z.steps) t;
      means = subst (λ (z : Session). Means w.machine w.file (At z.machine)) t means;
      between = record { closed = means.processor.open_one; unpinned = pinned };
      output = sym (ap (λ (z : Session). z.machine.output) t) ∙ (output ∙ with_sent s.machine.output sent);
      is = missed_is s v None going none;
      whole = parted_is s (Completes next) going is;
    }

-- the steps that are counted
counted : (old new : ℕ) (s : Session) → old ≡ s.steps → s.steps + 1 < 2 ^ 64 → new ≡ min (old + 1) (2 ^ 64 - 1) → new ≡ s.steps + 1
counted old new s here few is = omega (arith, here, few, is)

pub makes : (sent : Option ℕ) (result : Applied) (o : Origin) (s : Session) (replies : List ℕ) (v w : Scene) → result ≡ applied.Stepped sent → IsHere o s replies v → s.steps + 1 < 2 ^ 64 → Applies event.Attempt v.machine v.file result w.machine w.file → HasMade sent o s v w
makes sent result o s replies v w is h few a =
    let t = tried_on v.machine.ended v.machine w.machine result (λ e other. let no : applied.Stepped sent ≡ applied.Ended e = sym is ∙ other in absurd (cc no)) a.0 in
    let k : HasTried v.machine (applied.Stepped sent) w.machine = subst (λ (z : Applied). HasTried v.machine z w.machine) is t.1 in
    let g = k.goes v.file (At s.machine) h.at.means in
    let going : s.machine.ending ≡ None = same_ending v.machine v.file s.machine h.at.means ∙ t.0 in
    made_one sent o s v w g.1.next going g.1.turn (counted v.machine.steps w.machine.steps s h.at.steps few (ap (λ (z : Keeping). z.steps) k.keeps))
    (subst (λ (z : Option BlockFile). Means w.machine z (At g.1.next)) (sym a.1) g.1.means) (ap (λ (z : Keeping). z.residence.pinned) k.keeps) g.1.sends g.0

-- the run ended with it
ends_tried : (e : Ending) (o : Origin) (s : Session) (replies : List ℕ) (v w : Scene) → IsHere o s replies v → s.steps + 1 < 2 ^ 64 → v.machine.ended ≡ None → HasTried v.machine (applied.Ended e) w.machine → w.file ≡ v.file → HasMade None o s v w
ends_tried e o s replies v w h few alive k same =
    let g = k.goes v.file (At s.machine) h.at.means in
    let going : s.machine.ending ≡ None = same_ending v.machine v.file s.machine h.at.means ∙ alive in
    made_one None o s v w (ended (gone_back (At s.machine)) e) going g.1.turn (counted v.machine.steps w.machine.steps s h.at.steps few (ap (λ (z : Keeping). z.steps) k.keeps))
    (subst (λ (z : Option BlockFile). Means w.machine z (At (ended (gone_back (At s.machine)) e))) (sym same) g.1.means) (ap (λ (z : Keeping). z.residence.pinned) k.keeps) refl g.0

-- a step that sent nothing leaves the session behind it
pub made_here : (o : Origin) (s : Session) (replies : List ℕ) (v w : Scene) → HasTold o.flat s replies o.channels v.sink → w.sink ≡ v.sink → HasMade None o s v w → IsHere o (stepped s) replies w
made_here o s replies v w told silent m =
    here_behind o s replies v w told m.between (record {
      steps = m.steps;
      means = m.means;
      sent = [];
      output = m.output;
      wrote = nothing_grew v.sink w.sink silent;
    })

-- a machine that had ended stays
ended_stays : (e : Ending) (o : Origin) (s : Session) (replies : List ℕ) (v w : Scene) → IsHere o s replies v → v.machine.ended ≡ Some e → w.machine ≡ v.machine → w.file ≡ v.file → w.sink ≡ v.sink → (None ≡ missed_by (pages_at v.machine) s) × (is_parted s ≡ false) × IsHere o (stepped s) replies w
ended_stays e o s replies v w h over machine file sink =
    let ending : s.machine.ending ≡ Some e = same_ending v.machine v.file s.machine h.at.means ∙ over in
    let same : w ≡ v = λ i. record { machine = machine i; file = file i; sink = sink i } in
    let stays : stepped s ≡ s = ap (λ (x : Option Ending). step_by x s) ending in (
      sym (ap (λ (x : Option Ending). unless_ended x (absent_in (pages_at v.machine) s.machine)) ending),
      ap (λ (x : Option Ending). parted_in x s.machine) ending,
      subst (λ (z : Session). IsHere o z replies w) (sym stays) (subst (λ (z : Scene). IsHere o s replies z) (sym same) h),
    )

-- an answer that is none of these tells of the end
by_rest : (how : Option Ending) (result : Applied) (o : Origin) (s : Session) (replies : List ℕ) (v w : Scene) → v.machine.ended ≡ how → IsHere o s replies v → s.steps + 1 < 2 ^ 64 → w.file ≡ v.file → w.sink ≡ v.sink →
    ((page : ℕ) → result ≡ applied.Absent page → ⊥) → ((sent : Option ℕ) → result ≡ applied.Stepped sent → ⊥) → (result ≡ applied.Parted → ⊥) → Tries how v.machine result w.machine →
    (None ≡ missed_by (pages_at v.machine) s) × (is_parted s ≡ false) × IsHere o (stepped s) replies w
by_rest (Some e) result o s replies v w how h few file sink a b c t = ended_stays e o s replies v w h how t.1 file sink
by_rest None (applied.Stepped sent) o s replies v w how h few file sink a b c t = absurd (b sent refl)
by_rest None applied.Parted o s replies v w how h few file sink a b c t = absurd (c refl)
by_rest None (applied.Absent page) o s replies v w how h few file sink a b c t = absurd (a page refl)
by_rest None (applied.Ended e) o s replies v w how h few file sink a b c t =
    let m = ends_tried e o s replies v w h few how t file in
    (m.is, m.whole, made_here o s replies v w (told_at o.flat s replies v.machine v.file o.channels v.sink h.at) sink m)
by_rest None (applied.Served page) o s replies v w how h few file sink a b c t = absurd t.answer
by_rest None applied.Evicted o s replies v w how h few file sink a b c t = absurd t.answer
by_rest None applied.Flushed o s replies v w how h few file sink a b c t = absurd t.answer
by_rest None applied.Nothing o s replies v w how h few file sink a b c t = absurd t.answer
by_rest None applied.Failed o s replies v w how h few file sink a b c t = absurd t.answer

pub rest_attempts : (result : Applied) (turns : ℕ) (o : Origin) (s : Session) (replies : List ℕ) (v w : Scene) → IsHere o s replies v → s.steps + 1 < 2 ^ 64 → w.sink ≡ v.sink →
    ((page : ℕ) → result ≡ applied.Absent page → ⊥) → ((sent : Option ℕ) → result ≡ applied.Stepped sent → ⊥) → (result ≡ applied.Parted → ⊥) → Applies event.Attempt v.machine v.file result w.machine w.file →
    Attempts (Ok tried.Made) turns (missed_by (pages_at v.machine) s) o s replies w
rest_attempts result turns o s replies v w h few sink a b c t =
    let r = by_rest v.machine.ended result o s replies v w refl h few t.1 sink a b c t.0 in
    attempts_none tried.Made turns (missed_by (pages_at v.machine) s) o s replies w r.0 (told_made (missed_by (pages_at v.machine) s) s r.0 r.1) r.2

-- a part of the step was made

pub parts : (result : Applied) (o : Origin) (s : Session) (replies : List ℕ) (v w : Scene) → result ≡ applied.Parted → IsHere o s replies v → w.sink ≡ v.sink → Applies event.Attempt v.machine v.file result w.machine w.file →
    (None ≡ missed_by (pages_at v.machine) s) × (is_parted s ≡ true) × IsUnderway o s replies w
unfolding partway
parts result o s replies v w is h silent a =
    let t = tried_on v.machine.ended v.machine w.machine result (λ e other. let no : applied.Parted ≡ applied.Ended e = sym is ∙ other in absurd (cc no)) a.0 in
    let k : HasTried v.machine applied.Parted w.machine = subst (λ (z : Applied). HasTried v.machine z w.machine) is t.1 in
    let g = k.goes v.file (At s.machine) h.at.means in
    let going : s.machine.ending ≡ None = same_ending v.machine v.file s.machine h.at.means ∙ t.0 in (
      missed_is s v None going g.0,
      parted_is s (Leaves g.1.next) going g.1.turn,
      record {
        place = Within g.1.next;
        goes = (0, ap left_by g.1.turn);
        means = subst (λ (z : Option BlockFile). Means w.machine z (Within g.1.next)) (sym a.1) g.1.means;
        steps = ap (λ (z : Keeping). z.steps) k.keeps ∙ h.at.steps;
        going = ap (λ (z : Keeping). z.ended) k.keeps ∙ t.0;
        pinned = ap (λ (z : Keeping). z.residence.pinned) k.keeps;
        sent = h.at.sent;
        output = h.at.output;
        wrote = subst (λ (z : Option Channels). Grew o.channels z (writes h.at.sent replies)) (sym silent) h.at.wrote;
      },
    )

-- the byte that a step sends is written behind what was told

pub sent_arrives : (r : Result (Unit {0}) Failure) (sent : Option ℕ) (turns : ℕ) (o : Origin) (s : Session) (replies : List ℕ) (m n : Engine) (f g : Option BlockFile) (a b : Option Channels) → IsHere o s replies (scene m f a) → HasMade sent o s (scene m f a) (scene n g a) → Sends r a b (bytes_sent sent) →
    Arrives r turns 1 (stepped s) o s replies (scene n g b)
sent_arrives (Ok x) sent turns o s replies m n f g a b h made p =
    here_behind o s replies (scene m f a) (scene n g b) (told_at o.flat s replies m f o.channels a h.at) made.between
    (record { steps = made.steps; means = made.means; sent = bytes_sent sent; output = made.output; wrote = p })
sent_arrives (Err failure.Turns) sent turns o s replies m n f g a b h made p = absurd p
sent_arrives (Err failure.PageFault) sent turns o s replies m n f g a b h made p = absurd p
sent_arrives (Err failure.WriteFault) sent turns o s replies m n f g a b h made p = record {
  made = 1;
  few = omega arith;
  part = part_behind o.flat s (advanced 1 s) replies o.channels a b (told_at o.flat s replies m f o.channels a h.at) (record { sent = bytes_sent sent; output = made.output; wrote = p });
}

-- a service of the page that was missed

serves_steps : (w : Option ℕ) (old new : Keeping) (result : Applied) → Serves w old result new → new.steps ≡ old.steps
serves_steps None old new result x = ap (λ (k : Keeping). k.steps) x.1
serves_steps (Some page) old new result (inl x) = ap (λ (k : Keeping). k.steps) x.1
serves_steps (Some page) old new result (inr x) = ap (λ (k : Keeping). k.steps) x.1

pub served_at : (result : Applied) (o : Origin) (s : Session) (replies : List ℕ) (m n : Engine) (f g : Option BlockFile) (a : Option Channels) → IsAt o.flat s replies m f o.channels a → Applies event.Serve m f result n g → IsAt o.flat s replies n g o.channels a
served_at result o s replies m n f g a h x = record {
  steps = serves_steps m.wanted (keeping m) (keeping n) result x.0 ∙ h.steps;
  means = x.1 (At s.machine) h.means;
  sent = h.sent;
  output = h.output;
  wrote = h.wrote;
}

pub let_go_here : (o : Origin) (s : Session) (replies : List ℕ) (m n : Engine) (f : Option BlockFile) (a : Option Channels) → IsAt o.flat s replies m f o.channels a → keeping n ≡ let_go (keeping m) → KeepsPlace m f n f → IsHere o s replies (scene n f a)
let_go_here o s replies m n f a h keeps place =
    let means : Means n f (At s.machine) = place (At s.machine) h.means in
    record {
      at = record {
        steps = ap (λ (k : Keeping). k.steps) keeps ∙ h.steps;
        means = means;
        sent = h.sent;
        output = h.output;
        wrote = h.wrote;
      };
      between = record { closed = means.processor.open_one; unpinned = ap (λ (k : Keeping). k.residence.pinned) keeps };
    }

within_at : (o : Origin) (s : Session) (most : ℕ) (replies : List ℕ) (v : Scene) → IsAt o.flat s replies v.machine v.file o.channels v.sink → IsWithin o.flat s most replies v.machine v.file o.channels v.sink
within_at o s most replies v h = record {
  place = At s.machine;
  goes = record {
    count = 0;
    few = omega arith;
    steps = h.steps ∙ ap (λ (z : Session). z.steps) (none_advanced s);
    goes = ap (λ (z : Session). z.machine) (none_advanced s);
  };
  means = h.means;
  sent = h.sent;
  output = h.output;
  wrote = h.wrote;
}

-- the page that was missed came in, or a call of the page file failed
pub missed_attempts : (found : Result Tried Failure) (page turns : ℕ) (o : Origin) (s : Session) (replies : List ℕ) (v w x : Scene) → HasMissed page o s replies v w → Brings found page o s replies x → Attempts found turns (missed_by (pages_at v.machine) s) o s replies x
missed_attempts (Ok found) page turns o s replies v w x h b = (b.0 ∙ ap (λ (z : Option ℕ). told_of z (is_parted s)) h.is, subst (λ (z : Option ℕ). IsHere o (attempted z s) replies x) h.is b.1)
missed_attempts (Err failure.Turns) page turns o s replies v w x h b = absurd b
missed_attempts (Err failure.PageFault) page turns o s replies v w x h b = within_at o s 1 replies x b
missed_attempts (Err failure.WriteFault) page turns o s replies v w x h b = absurd b

-- no turn is left

both : (a b : Bool) → a && b ≡ true → (a ≡ true) × (b ≡ true)
both true true h = (refl, refl)
both true false h = absurd (cc h)
both false b h = absurd (cc h)

none_not : (how : Option Ending) → not (is_some how) ≡ true → how ≡ None
none_not None h = refl
none_not (Some e) h = absurd (cc h)

pub turns_out : (turns : ℕ) (o : Origin) (s : Session) (replies : List ℕ) (v : Scene) (b : Bool) → IsHere o s replies v → b ≡ (nat_le turns v.machine.turns && not (is_some v.machine.ended)) → b ≡ true → Arrives (Err failure.Turns) turns 1 s o s replies v
turns_out turns o s replies v b h is out =
    let p = both (nat_le turns v.machine.turns) (not (is_some v.machine.ended)) (sym is ∙ out) in (
      record {
        reached = is_le turns v.machine.turns p.0;
        going = none_not v.machine.ended p.1;
        below = let here = h.at.steps in omega (arith, here);
      },
      within_here o s 1 replies v h,
    )

-- what was sent is output alone

sent_in_part : (old new : Option Channels) (bytes : List ℕ) → GrewByPrefix old new (only Out bytes) → OnlyReplied old new
sent_in_part old new bytes p =
    let report : p.prefix.report ≡ [] = none_left p.prefix.report p.rest.report (ap (λ (z : Channels). z.report) p.splits) in
    let recorded : p.prefix.recorded ≡ [] = none_left p.prefix.recorded p.rest.recorded (ap (λ (z : Channels). z.recorded) p.splits) in
    let saved : p.prefix.saved ≡ unsaved = front_unsaved p.prefix.saved p.rest.saved (ap (λ (z : Channels). z.saved) p.splits) in
    let is : p.prefix ≡ writes p.prefix.out [] = λ i. record { out = p.prefix.out; report = report i; recorded = recorded i; saved = saved i } in
    record { sent = p.prefix.out; replies = []; grew = subst (λ (z : Channels). Grew old new z) is p.grew }

pub sends_only : (r : Result (Unit {0}) Failure) (old new : Option Channels) (bytes : List ℕ) → Sends r old new bytes → OnlyReplied old new
sends_only (Ok x) old new bytes p = record { sent = bytes; replies = []; grew = p }
sends_only (Err failure.Turns) old new bytes p = absurd p
sends_only (Err failure.PageFault) old new bytes p = absurd p
sends_only (Err failure.WriteFault) old new bytes p = sent_in_part old new bytes p
