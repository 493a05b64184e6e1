-- One attempt, and what is replied to it.
use Rattle.std.proofs.Common.{◌≡◌, ◌<◌, ◌+◌, ◌^◌, ◌++◌, nat_le, Bool, true, false, if◌then◌else◌, ℕ, List, [], Option, None, Some, Result, Err, refl, sym, ap, subst, ◌∙◌, arith}
use Rattle.vax_console.specs.Transcript.{Session, stepped}
use Rattle.vax_console.specs.Ends.{Scene}
use Rattle.vax_debug.specs.Pages.{Pages, attempted, is_parted, missed_by, start_of_page, told_of}
use Rattle.vax_debug.specs.Sessions.{Arrives, IsHere, Origin}
use Rattle.vax_debug.specs.declared.breaks.Plan.{Plan}
use Rattle.vax_debug.specs.declared.attempts.Tried.{Tried}
use Rattle.vax_debug.specs.declared.attempts.Tried.TheVariants as tried
use Rattle.vax_debug.specs.declared.failure.Failure.{Failure}
use Rattle.vax_debug_names.specs.declared.Legend.{Legend}
use Rattle.vax_debug_replies.specs.Pages.{missed_line}
use Rattle.vax_debug_acts.specs.Acting.{Act, Acts, Tells}
use Rattle.vax_debug_acts.specs.Acts.{only_told, stop_reply}
use Rattle.vax_debug_acts.specs.Attempts.{attempt_act, parts_if, parts_line, turn_act}
use Rattle.vax_debug_acts.proofs.Telling.{cut_off, done, tells_as}

act_then : (b : Bool) (x y : Act) (P : Act → Type 0) → b ≡ true → P x → P (if b then x else y)
act_then true x y P is p = p
act_then false x y P is p = absurd (cc is)

act_else : (b : Bool) (x y : Act) (P : Act → Type 0) → b ≡ false → P y → P (if b then x else y)
act_else true x y P is p = absurd (cc is)
act_else false x y P is p = p

-- what the machine tells of the limit
limit_is : (limit : ℕ) (o : Origin) (s : Session) (replies : List ℕ) (v : Scene) (b c : Bool) → IsHere o s replies v → b ≡ nat_le limit v.machine.steps → b ≡ c → nat_le limit s.steps ≡ c
limit_is limit o s replies v b c h is at = ap (nat_le limit) (sym h.at.steps) ∙ (sym is ∙ at)

-- at the limit no attempt is made
pub stands : (r : Result (Unit {0}) Failure) (turns limit : ℕ) (legend : Legend) (plan : Plan) (pages : Pages) (o : Origin) (s : Session) (replies : List ℕ) (v w : Scene) (b : Bool) → IsHere o s replies v → b ≡ nat_le limit v.machine.steps → b ≡ true →
    Tells r o s replies (stop_reply limit legend plan [] s) w → Acts r turns (turn_act limit legend plan pages s) o s replies w
stands r turns limit legend plan pages o s replies v w b h is at t =
    act_then (nat_le limit s.steps) (only_told s (stop_reply limit legend plan [] s)) (attempt_act limit legend plan (missed_by pages s) s) (λ a. Acts r turns a o s replies w) (limit_is limit o s replies v b true h is at)
    (done r turns 0 o s s replies (stop_reply limit legend plan [] s) w t)

-- there is a number for the step
pub room : (o : Origin) (s : Session) (replies : List ℕ) (v : Scene) → IsHere o s replies v → v.machine.steps + 1 < 2 ^ 64 → s.steps + 1 < 2 ^ 64
room o s replies v h more = let here = h.at.steps in omega (arith, here, more)

goes : (r : Result (Unit {0}) Failure) (turns limit : ℕ) (legend : Legend) (plan : Plan) (pages : Pages) (o : Origin) (s : Session) (replies : List ℕ) (v w : Scene) (b : Bool) → IsHere o s replies v → b ≡ nat_le limit v.machine.steps → b ≡ false →
    Acts r turns (attempt_act limit legend plan (missed_by pages s) s) o s replies w → Acts r turns (turn_act limit legend plan pages s) o s replies w
goes r turns limit legend plan pages o s replies v w b h is at a =
    act_else (nat_le limit s.steps) (only_told s (stop_reply limit legend plan [] s)) (attempt_act limit legend plan (missed_by pages s) s) (λ x. Acts r turns x o s replies w) (limit_is limit o s replies v b false h is at) a

-- a page was missed
pub turned_missed : (r : Result (Unit {0}) Failure) (page turns limit : ℕ) (legend : Legend) (plan : Plan) (pages : Pages) (o : Origin) (s : Session) (replies : List ℕ) (v w : Scene) (b : Bool) → IsHere o s replies v → b ≡ nat_le limit v.machine.steps → b ≡ false →
    Some page ≡ missed_by pages s → Tells r o s replies (missed_line legend (start_of_page page)) w → Acts r turns (turn_act limit legend plan pages s) o s replies w
turned_missed r page turns limit legend plan pages o s replies v w b h is at missed t =
    goes r turns limit legend plan pages o s replies v w b h is at
    (subst (λ (z : Option ℕ). Acts r turns (attempt_act limit legend plan z s) o s replies w) missed (done r turns 1 o s s replies (missed_line legend (start_of_page page)) w t))

-- none was
turned_made : (first : List ℕ) (r : Result (Unit {0}) Failure) (turns limit : ℕ) (legend : Legend) (plan : Plan) (pages : Pages) (o : Origin) (s : Session) (replies : List ℕ) (v w : Scene) (b : Bool) → IsHere o s replies v → b ≡ nat_le limit v.machine.steps → b ≡ false →
    None ≡ missed_by pages s → first ≡ parts_if (is_parted s) → Tells r o (stepped s) replies (first ++ stop_reply limit legend plan [] (stepped s)) w → Acts r turns (turn_act limit legend plan pages s) o s replies w
turned_made first r turns limit legend plan pages o s replies v w b h is at missed parts t =
    let stop = stop_reply limit legend plan [] (stepped s) in
    goes r turns limit legend plan pages o s replies v w b h is at
    (subst (λ (z : Option ℕ). Acts r turns (attempt_act limit legend plan z s) o s replies w) missed
    (done r turns 1 o s (stepped s) replies (parts_if (is_parted s) ++ stop) w
    (tells_as r o (stepped s) replies (first ++ stop) (parts_if (is_parted s) ++ stop) w (ap (λ (z : List ℕ). z ++ stop) parts) t)))

pub turned_whole : (r : Result (Unit {0}) Failure) (turns limit : ℕ) (legend : Legend) (plan : Plan) (pages : Pages) (o : Origin) (s : Session) (replies : List ℕ) (v w : Scene) (b : Bool) → IsHere o s replies v → b ≡ nat_le limit v.machine.steps → b ≡ false →
    None ≡ missed_by pages s → is_parted s ≡ false → Tells r o (stepped s) replies (stop_reply limit legend plan [] (stepped s)) w → Acts r turns (turn_act limit legend plan pages s) o s replies w
turned_whole r turns limit legend plan pages o s replies v w b h is at missed whole t =
    turned_made [] r turns limit legend plan pages o s replies v w b h is at missed (sym (ap parts_if whole)) t

pub turned_parted : (r : Result (Unit {0}) Failure) (turns limit : ℕ) (legend : Legend) (plan : Plan) (pages : Pages) (o : Origin) (s : Session) (replies : List ℕ) (v w : Scene) (b : Bool) → IsHere o s replies v → b ≡ nat_le limit v.machine.steps → b ≡ false →
    None ≡ missed_by pages s → is_parted s ≡ true → Tells r o (stepped s) replies (parts_line ++ stop_reply limit legend plan [] (stepped s)) w → Acts r turns (turn_act limit legend plan pages s) o s replies w
turned_parted r turns limit legend plan pages o s replies v w b h is at missed parted t =
    turned_made parts_line r turns limit legend plan pages o s replies v w b h is at missed (sym (ap parts_if parted)) t

-- it failed
failed : (e : Failure) (missed : Option ℕ) (turns limit : ℕ) (legend : Legend) (plan : Plan) (o : Origin) (s : Session) (replies : List ℕ) (w : Scene) → Arrives (Err e) turns 1 s o s replies w → Acts (Err e) turns (attempt_act limit legend plan missed s) o s replies w
failed e None turns limit legend plan o s replies w a = cut_off e turns (attempt_act limit legend plan None s) o s s replies w a
failed e (Some page) turns limit legend plan o s replies w a = cut_off e turns (attempt_act limit legend plan (Some page) s) o s s replies w a

pub turned_failed : (e : Failure) (turns limit : ℕ) (legend : Legend) (plan : Plan) (pages : Pages) (o : Origin) (s : Session) (replies : List ℕ) (v w : Scene) (b : Bool) → IsHere o s replies v → b ≡ nat_le limit v.machine.steps → b ≡ false →
    Arrives (Err e) turns 1 s o s replies w → Acts (Err e) turns (turn_act limit legend plan pages s) o s replies w
turned_failed e turns limit legend plan pages o s replies v w b h is at a =
    goes (Err e) turns limit legend plan pages o s replies v w b h is at (failed e (missed_by pages s) turns limit legend plan o s replies w a)

-- what an attempt's answer says of it

abbrev page_in : Tried → Option ℕ
page_in (tried.Missed page) = Some page
page_in tried.Made = None
page_in tried.Parted = None

page_told : (missed : Option ℕ) (parted : Bool) → page_in (told_of missed parted) ≡ missed
page_told None true = refl
page_told None false = refl
page_told (Some page) parted = refl

pub told_missed : (page : ℕ) (missed : Option ℕ) (parted : Bool) → tried.Missed page ≡ told_of missed parted → Some page ≡ missed
told_missed page missed parted is = ap page_in is ∙ page_told missed parted

pub told_whole : (missed : Option ℕ) (parted : Bool) → tried.Made ≡ told_of missed parted → (None ≡ missed) × (parted ≡ false)
told_whole None true is = absurd (cc is)
told_whole None false is = (refl, refl)
told_whole (Some page) parted is = absurd (cc is)

pub told_parted : (missed : Option ℕ) (parted : Bool) → tried.Parted ≡ told_of missed parted → (None ≡ missed) × (parted ≡ true)
told_parted None true is = (refl, refl)
told_parted None false is = absurd (cc is)
told_parted (Some page) parted is = absurd (cc is)

-- where the session is behind an attempt
pub missed_here : (page : ℕ) (missed : Option ℕ) (o : Origin) (s : Session) (replies : List ℕ) (w : Scene) → Some page ≡ missed → IsHere o (attempted missed s) replies w → IsHere o s replies w
missed_here page missed o s replies w is h = subst (λ (z : Option ℕ). IsHere o (attempted z s) replies w) (sym is) h

pub made_here : (missed : Option ℕ) (o : Origin) (s : Session) (replies : List ℕ) (w : Scene) → None ≡ missed → IsHere o (attempted missed s) replies w → IsHere o (stepped s) replies w
made_here missed o s replies w is h = subst (λ (z : Option ℕ). IsHere o (attempted z s) replies w) (sym is) h
