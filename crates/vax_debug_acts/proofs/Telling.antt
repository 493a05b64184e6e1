-- Replies that were written, and what a request comes to by them.
use Rattle.std.proofs.Common.{◌≡◌, ℕ, List, [], ◌++◌, append-nil, append_assoc, Option, None, Some, Result, Ok, Err, OnOk, refl, sym, ap, subst, ◌∙◌, inl, inr, arith}
use Rattle.vax_outside.specs.Blocks.{BlockFile}
use Rattle.vax_outside.specs.Channels.{Channels, Grew, GrewByPrefix, only}
use Rattle.vax_outside.specs.declared.faults.Failures.{Failures}
use Rattle.vax_outside.specs.declared.traits.Chan.TheVariants.{Report}
use Rattle.vax_outside.proofs.Counting.{rose_then}
use Rattle.vax_outside.proofs.Growth.{grew_more, report_first, report_grew, report_last}
use Rattle.vax_machine.specs.declared.engine.Engine.{Engine}
use Rattle.vax_flat.specs.Parts.{At}
use Rattle.vax_console.specs.Transcript.{Session, advanced}
use Rattle.vax_console.specs.Ends.{ChangesOnce, IsAt, IsWithin, OnlyReplied, Scene, scene, writes}
use Rattle.vax_debug.specs.Sessions.{Arrives, Counts, IsHere, Origin}
use Rattle.vax_debug.specs.declared.breaks.Plan.{Plan}
use Rattle.vax_debug.specs.declared.watches.Watch.{Watch}
use Rattle.vax_debug.specs.declared.failure.Failure.{Failure}
use Rattle.vax_debug.specs.declared.failure.Failure.TheVariants as failure
use Rattle.vax_debug.specs.declared.places.Place.{Place}
use Rattle.vax_debug.specs.declared.places.Place.TheVariants as place
use Rattle.vax_debug.proofs.Reported.{prefix_only, prefix_report, report_only}
use Rattle.vax_debug_acts.specs.Acting.{Act, Acts, IsToldInPart, Replies, Tells, act}
use Rattle.vax_debug_acts.specs.Acts.{at_place, broken_at, by_address, by_number, by_place, by_value, no_value_line, outside_line, watch, watched_at, with_break, with_watch}

-- what is written behind what was sent and replied

grew_told : (a b c : Option Channels) (sent replies text : List ℕ) → Grew a b (writes sent replies) → Grew b c (only Report text) → Grew a c (writes sent (replies ++ text))
grew_told a b c sent replies text p q =
    subst (λ (z : List ℕ). Grew a c (writes z (replies ++ text))) (append-nil sent) (grew_more a b c (writes sent replies) (only Report text) p q)

pub at_told : (o : Origin) (s : Session) (replies text : List ℕ) (m : Engine) (f : Option BlockFile) (a b : Option Channels) → IsAt o.flat s replies m f o.channels a → Grew a b (only Report text) → IsAt o.flat s (replies ++ text) m f o.channels b
at_told o s replies text m f a b h g = record {
  steps = h.steps;
  means = h.means;
  sent = h.sent;
  output = h.output;
  wrote = grew_told o.channels a b h.sent replies text h.wrote g;
}

pub in_part : (o : Origin) (s : Session) (replies text : List ℕ) (m : Engine) (f : Option BlockFile) (a b : Option Channels) → IsAt o.flat s replies m f o.channels a → GrewByPrefix a b (only Report text) → IsToldInPart o s replies text (scene m f b)
in_part o s replies text m f a b h p = record {
  told = p.prefix.report;
  untold = p.rest.report;
  splits = ap (λ (z : Channels). z.report) p.splits;
  at = at_told o s replies p.prefix.report m f a b h (prefix_report a b text p);
}

-- nothing of a reply was written
pub not_told : (o : Origin) (s : Session) (replies text : List ℕ) (v : Scene) → IsHere o s replies v → IsToldInPart o s replies text v
not_told o s replies text v h = record {
  told = [];
  untold = text;
  splits = refl;
  at = subst (λ (z : List ℕ). IsAt o.flat s z v.machine v.file o.channels v.sink) (sym (append-nil replies)) h.at;
}

part_behind_reply : (o : Origin) (s : Session) (replies first more : List ℕ) (v : Scene) → IsToldInPart o s (replies ++ first) more v → IsToldInPart o s replies (first ++ more) v
part_behind_reply o s replies first more v h = record {
  told = first ++ h.told;
  untold = h.untold;
  splits = append_assoc first h.told h.untold ∙ ap (λ (z : List ℕ). first ++ z) h.splits;
  at = subst (λ (z : List ℕ). IsAt o.flat s z v.machine v.file o.channels v.sink) (append_assoc replies first h.told) h.at;
}

part_of_first : (o : Origin) (s : Session) (replies first more : List ℕ) (v : Scene) → IsToldInPart o s replies first v → IsToldInPart o s replies (first ++ more) v
part_of_first o s replies first more v h = record {
  told = h.told;
  untold = h.untold ++ more;
  splits = sym (append_assoc h.told h.untold more) ∙ ap (λ (z : List ℕ). z ++ more) h.splits;
  at = h.at;
}

pub tells : (r : Result (Unit {0}) Failure) (before now : Failures) (o : Origin) (s : Session) (replies text : List ℕ) (m : Engine) (f : Option BlockFile) (a b : Option Channels) → IsHere o s replies (scene m f a) → Replies r before now a b text → Tells r o s replies text (scene m f b)
tells (Ok x) before now o s replies text m f a b h p = record { at = at_told o s replies text m f a b h.at p.1; between = h.between }
tells (Err failure.Turns) before now o s replies text m f a b h p = absurd p
tells (Err failure.PageFault) before now o s replies text m f a b h p = absurd p
tells (Err failure.WriteFault) before now o s replies text m f a b h p = in_part o s replies text m f a b h.at p.2

pub tells_as : (r : Result (Unit {0}) Failure) (o : Origin) (s : Session) (replies text said : List ℕ) (v : Scene) → text ≡ said → Tells r o s replies text v → Tells r o s replies said v
tells_as r o s replies text said v e t = subst (λ (z : List ℕ). Tells r o s replies z v) e t

pub reply_counts : (r : Result (Unit {0}) Failure) (file before now : Failures) (a b : Option Channels) (text : List ℕ) → Replies r before now a b text → Counts r file file before now
reply_counts (Ok x) file before now a b text p = (refl, p.0)
reply_counts (Err failure.Turns) file before now a b text p = absurd p
reply_counts (Err failure.PageFault) file before now a b text p = absurd p
reply_counts (Err failure.WriteFault) file before now a b text p = (omega arith, p.0, p.1, λ n. absurd (n refl))

pub reply_only : (r : Result (Unit {0}) Failure) (before now : Failures) (a b : Option Channels) (text : List ℕ) → Replies r before now a b text → OnlyReplied a b
reply_only (Ok x) before now a b text p = report_only a b text p.1
reply_only (Err failure.Turns) before now a b text p = absurd p
reply_only (Err failure.PageFault) before now a b text p = absurd p
reply_only (Err failure.WriteFault) before now a b text p = prefix_only a b text p.2

-- a reply behind another
pub replies_then : (r : Result (Unit {0}) Failure) (x : Unit {0}) (before mid now : Failures) (a b c : Option Channels) (text more : List ℕ) → Replies (Ok x) before mid a b text → Replies r mid now b c more → Replies r before now a c (text ++ more)
replies_then (Ok y) x before mid now a b c text more p q = (q.0 ∙ p.0, report_grew a b c text more p.1 q.1)
replies_then (Err failure.Turns) x before mid now a b c text more p q = absurd q
replies_then (Err failure.PageFault) x before mid now a b c text more p q = absurd q
replies_then (Err failure.WriteFault) x before mid now a b c text more p q =
    (let still = p.0 in let later = q.0 in omega (arith, still, later), rose_then p.0 q.1, report_last a b c text more p.1 q.2)

-- or none, where it wasn't written
pub replies_first : (e : Failure) (before now : Failures) (a b : Option Channels) (text more : List ℕ) → Replies (Err e) before now a b text → Replies (Err e) before now a b (text ++ more)
replies_first failure.Turns before now a b text more p = absurd p
replies_first failure.PageFault before now a b text more p = absurd p
replies_first failure.WriteFault before now a b text more p = (p.0, p.1, report_first a b text more p.2)

-- of a reply behind another

pub tells_behind : (r : Result (Unit {0}) Failure) (o : Origin) (s : Session) (replies first more : List ℕ) (v : Scene) → Tells r o s (replies ++ first) more v → Tells r o s replies (first ++ more) v
tells_behind (Ok x) o s replies first more v h = subst (λ (z : List ℕ). IsHere o s z v) (append_assoc replies first more) h
tells_behind (Err failure.Turns) o s replies first more v h = absurd h
tells_behind (Err failure.PageFault) o s replies first more v h = part_behind_reply o s replies first more v h
tells_behind (Err failure.WriteFault) o s replies first more v h = part_behind_reply o s replies first more v h

-- only a part of the first was written
pub tells_first : (e : Failure) (o : Origin) (s : Session) (replies first more : List ℕ) (v : Scene) → Tells (Err e) o s replies first v → Tells (Err e) o s replies (first ++ more) v
tells_first failure.Turns o s replies first more v h = absurd h
tells_first failure.PageFault o s replies first more v h = part_of_first o s replies first more v h
tells_first failure.WriteFault o s replies first more v h = part_of_first o s replies first more v h

-- what a request comes to

-- all was done but a part of the reply
pub done : (r : Result (Unit {0}) Failure) (turns most : ℕ) (o : Origin) (s t : Session) (replies text : List ℕ) (v : Scene) → Tells r o t replies text v → Acts r turns (act most t text) o s replies v
done (Ok x) turns most o s t replies text v h = h
done (Err failure.Turns) turns most o s t replies text v h = absurd h
done (Err failure.PageFault) turns most o s t replies text v h = inr h
done (Err failure.WriteFault) turns most o s t replies text v h = inr h

-- steps were cut off
pub cut_off : (e : Failure) (turns : ℕ) (a : Act) (o : Origin) (s t : Session) (replies : List ℕ) (v : Scene) → Arrives (Err e) turns a.most t o s replies v → Acts (Err e) turns a o s replies v
cut_off failure.Turns turns a o s t replies v h = h
cut_off failure.PageFault turns a o s t replies v h = inl h
cut_off failure.WriteFault turns a o s t replies v h = inl h

-- where a session is, it is on the way through steps
none_made : (s : Session) → s ≡ advanced 0 s
unfolding advanced
none_made s = refl

on_the_way : (o : Origin) (s : Session) (most : ℕ) (replies : List ℕ) (v : Scene) → IsHere o s replies v → IsWithin o.flat s most replies v.machine v.file o.channels v.sink
on_the_way o s most replies v h = record {
  place = At s.machine;
  goes = record {
    count = 0;
    few = omega arith;
    steps = h.at.steps ∙ ap (λ (z : Session). z.steps) (none_made s);
    goes = ap (λ (z : Session). z.machine) (none_made s);
  };
  means = h.at.means;
  sent = h.at.sent;
  output = h.at.output;
  wrote = h.at.wrote;
}

-- nothing was done
pub not_done : (turns : ℕ) (a : Act) (o : Origin) (s : Session) (replies : List ℕ) (v : Scene) → IsHere o s replies v → Acts (Err failure.PageFault) turns a o s replies v
not_done turns a o s replies v h = inl (on_the_way o s a.most replies v h)

-- by the value of an expression

pub with_number : (none : List ℕ) (r : Result (Unit {0}) Failure) (turns n : ℕ) (found : Option ℕ) (asked : ℕ → Act) (o : Origin) (s : Session) (replies : List ℕ) (v : Scene) → Some n ≡ found → Acts r turns (asked n) o s replies v → Acts r turns (by_number none found s asked) o s replies v
with_number none r turns n found asked o s replies v is h = subst (λ (z : Option ℕ). Acts r turns (by_number none z s asked) o s replies v) is h

pub without_number : (none : List ℕ) (r : Result (Unit {0}) Failure) (turns : ℕ) (found : Option ℕ) (asked : ℕ → Act) (o : Origin) (s : Session) (replies : List ℕ) (v : Scene) → None ≡ found → Tells r o s replies none v → Acts r turns (by_number none found s asked) o s replies v
without_number none r turns found asked o s replies v is h =
    subst (λ (z : Option ℕ). Acts r turns (by_number none z s asked) o s replies v) is (done r turns 0 o s s replies none v h)

pub with_value : (r : Result (Unit {0}) Failure) (turns n : ℕ) (found : Option ℕ) (asked : ℕ → Act) (o : Origin) (s : Session) (replies : List ℕ) (v : Scene) → Some n ≡ found → Acts r turns (asked n) o s replies v → Acts r turns (by_value found s asked) o s replies v
with_value r turns n found asked o s replies v is h = subst (λ (z : Option ℕ). Acts r turns (by_value z s asked) o s replies v) is h

pub without_value : (r : Result (Unit {0}) Failure) (turns : ℕ) (found : Option ℕ) (asked : ℕ → Act) (o : Origin) (s : Session) (replies : List ℕ) (v : Scene) → None ≡ found → Tells r o s replies no_value_line v → Acts r turns (by_value found s asked) o s replies v
without_value r turns found asked o s replies v is h =
    subst (λ (z : Option ℕ). Acts r turns (by_value z s asked) o s replies v) is (done r turns 0 o s s replies no_value_line v h)

-- by where an address lies

pub in_place : (r : Result (Unit {0}) Failure) (turns address : ℕ) (found : Place) (asked : ℕ → Act) (o : Origin) (s : Session) (replies : List ℕ) (v : Scene) → place.Inside address ≡ found → Acts r turns (asked address) o s replies v → Acts r turns (by_place found s asked) o s replies v
in_place r turns address found asked o s replies v is h = subst (λ (z : Place). Acts r turns (by_place z s asked) o s replies v) is h

pub outside : (r : Result (Unit {0}) Failure) (turns : ℕ) (found : Place) (asked : ℕ → Act) (o : Origin) (s : Session) (replies : List ℕ) (v : Scene) → place.Outside ≡ found → Tells r o s replies outside_line v → Acts r turns (by_place found s asked) o s replies v
outside r turns found asked o s replies v is h =
    subst (λ (z : Place). Acts r turns (by_place z s asked) o s replies v) is (done r turns 0 o s s replies outside_line v h)

pub in_no_place : (r : Result (Unit {0}) Failure) (turns : ℕ) (found : Place) (asked : ℕ → Act) (o : Origin) (s : Session) (replies : List ℕ) (v : Scene) → place.Unknown ≡ found → Tells r o s replies no_value_line v → Acts r turns (by_place found s asked) o s replies v
in_no_place r turns found asked o s replies v is h =
    subst (λ (z : Place). Acts r turns (by_place z s asked) o s replies v) is (done r turns 0 o s s replies no_value_line v h)

pub ok_if : {T E P : Type 0} (r : Result T E) → P → OnOk r P
ok_if (Ok x) p = p
ok_if (Err e) p = tt

pub breaks_at : (r : Result (Unit {0}) Failure) (n : ℕ) (found : Option ℕ) (breaks new : Plan) (change : ℕ → Plan) → Some n ≡ found → new ≡ change n → OnOk r (new ≡ by_address found breaks change)
breaks_at r n found breaks new change is e = ok_if r (subst (λ (z : Option ℕ). new ≡ by_address z breaks change) is e)

pub breaks_same : (r : Result (Unit {0}) Failure) (found : Option ℕ) (breaks : Plan) (change : ℕ → Plan) → None ≡ found → OnOk r (breaks ≡ by_address found breaks change)
breaks_same r found breaks change is = ok_if r (subst (λ (z : Option ℕ). breaks ≡ by_address z breaks change) is refl)

pub placed_at : (r : Result (Unit {0}) Failure) (address : ℕ) (found : Place) (breaks new : Plan) (change : ℕ → Plan) → place.Inside address ≡ found → new ≡ change address → OnOk r (new ≡ at_place found breaks change)
placed_at r address found breaks new change is e = ok_if r (subst (λ (z : Place). new ≡ at_place z breaks change) is e)

pub placed_same : (r : Result (Unit {0}) Failure) (found : Place) (breaks : Plan) (change : ℕ → Plan) → place.Unknown ≡ found → OnOk r (breaks ≡ at_place found breaks change)
placed_same r found breaks change is = ok_if r (subst (λ (z : Place). breaks ≡ at_place z breaks change) is refl)

pub placed_outside : (r : Result (Unit {0}) Failure) (found : Place) (breaks : Plan) (change : ℕ → Plan) → place.Outside ≡ found → OnOk r (breaks ≡ at_place found breaks change)
placed_outside r found breaks change is = ok_if r (subst (λ (z : Place). breaks ≡ at_place z breaks change) is refl)

-- addresses or watches are others
pub broken_is : (plan : Plan) (new : List ℕ) (address : ℕ) → new ≡ with_break plan.breaks address → record plan { breaks = new } ≡ broken_at plan address
broken_is plan new address is = ap (λ (z : List ℕ). record plan { breaks = z }) is

pub watched_is : (plan : Plan) (new : List Watch) (count address : ℕ) → new ≡ with_watch plan.watches (watch count address) → record plan { watches = new } ≡ watched_at plan count address
watched_is plan new count address is = ap (λ (z : List Watch). record plan { watches = z }) is

changes_once_then : (before mid now : Failures) → mid.count ≡ before.count → ChangesOnce mid now → ChangesOnce before now
changes_once_then before mid now still h = λ n. rose_then still (h (λ e. n (e ∙ still)))

-- calls that failed behind calls of which none did
pub counts_then : (r : Result (Unit {0}) Failure) (f g h x y z : Failures) → g.count ≡ f.count → y.count ≡ x.count → Counts r g h y z → Counts r f h x z
counts_then (Ok v) f g h x y z a b c = (c.0 ∙ a, c.1 ∙ b)
counts_then (Err failure.Turns) f g h x y z a b c = (c.0 ∙ a, c.1 ∙ b)
counts_then (Err failure.PageFault) f g h x y z a b c = (let l = c.0 in omega (arith, a, l), rose_then a c.1, c.2 ∙ b)
counts_then (Err failure.WriteFault) f g h x y z a b c = (let l = c.0 in omega (arith, a, l), let m = c.1 in omega (arith, b, m), rose_then b c.2, changes_once_then f g h a c.3)
