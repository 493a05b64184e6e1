-- Nothing but the output and the replies is written.
use Rattle.std.proofs.Common.{◌≡◌, ℕ, false, List, [], ◌∷◌, ◌++◌, Option, Result, Ok, Err, refl, ap, subst}
use Rattle.vax_outside.specs.Channels.{Channels, Grew, GrewByPrefix, only, unsaved}
use Rattle.vax_outside.specs.declared.traits.Chan.TheVariants.{Report}
use Rattle.vax_outside.specs.declared.faults.Failures.{Failures}
use Rattle.vax_outside.proofs.Growth.{grew_more, grew_nothing, front_unsaved}
use Rattle.vax_machine.specs.Writing.{OnlyWrote}
use Rattle.vax_console.specs.Ends.{OnlyReplied, Replies, writes}
use Rattle.vax_console.specs.declared.stopped.Stopped.{Stopped}
use Rattle.vax_console.specs.declared.stopped.Stopped.TheVariants as stopped

front_nil : (xs ys : List ℕ) → xs ++ ys ≡ [] → xs ≡ []
front_nil [] ys e = refl
front_nil (x ∷ xs) ys e = absurd (cc e)

prefix_only : (old new : Option Channels) (text : List ℕ) → GrewByPrefix old new (only Report text) → OnlyReplied old new
prefix_only old new text p =
    let none : p.prefix.recorded ≡ [] = front_nil p.prefix.recorded p.rest.recorded (ap (λ (z : Channels). z.recorded) p.splits) in
    let saved : p.prefix.saved ≡ unsaved = front_unsaved p.prefix.saved p.rest.saved (ap (λ (z : Channels). z.saved) p.splits) in
    let is : p.prefix ≡ writes p.prefix.out p.prefix.report =
    λ i. record { out = p.prefix.out; report = p.prefix.report; recorded = none i; saved = saved i } in
    record { sent = p.prefix.out; replies = p.prefix.report; grew = subst (λ (z : Channels). Grew old new z) is p.grew }

pub reply_only : (r : Result (Unit {0}) Stopped) (before now : Failures) (old new : Option Channels) (text : List ℕ) → Replies r before now old new text → OnlyReplied old new
reply_only (Ok x) before now old new text p = record { sent = []; replies = text; grew = p.1 }
reply_only (Err stopped.Turns) before now old new text p = absurd p
reply_only (Err stopped.PageFault) before now old new text p = absurd p
reply_only (Err stopped.WriteFault) before now old new text p = prefix_only old new text p.2

pub run_only : (old new : Option Channels) → OnlyWrote false old new → OnlyReplied old new
run_only old new w =
    let report = w.silent in
    let recorded = w.unlisted refl in
    let saved = w.unsaved in
    let is : w.more ≡ writes w.more.out [] = λ i. record { out = w.more.out; report = report i; recorded = recorded i; saved = saved i } in
    record { sent = w.more.out; replies = []; grew = subst (λ (z : Channels). Grew old new z) is w.grew }

pub only_none : (old : Option Channels) → OnlyReplied old old
only_none old = record { sent = []; replies = []; grew = grew_nothing old }

pub only_then : (a b c : Option Channels) → OnlyReplied a b → OnlyReplied b c → OnlyReplied a c
only_then a b c p q = record { sent = p.sent ++ q.sent; replies = p.replies ++ q.replies; grew = grew_more a b c (writes p.sent p.replies) (writes q.sent q.replies) p.grew q.grew }
