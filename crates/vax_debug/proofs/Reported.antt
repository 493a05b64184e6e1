-- A prefix of a reply is one on its channel alone.
use Rattle.std.proofs.Common.{◌≡◌, ℕ, List, [], ◌∷◌, ◌++◌, Option, refl, ap, subst}
use Rattle.vax_outside.specs.Channels.{Channels, Grew, GrewByPrefix, only, unsaved}
use Rattle.vax_outside.specs.declared.traits.Chan.TheVariants.{Report}
use Rattle.vax_outside.proofs.Growth.{front_unsaved}
use Rattle.vax_console.specs.Ends.{OnlyReplied}

pub none_left : (xs ys : List ℕ) → xs ++ ys ≡ [] → xs ≡ []
none_left [] ys e = refl
none_left (x ∷ xs) ys e = absurd (cc e)

only_report : (c : Channels) → c.out ≡ [] → c.recorded ≡ [] → c.saved ≡ unsaved → c ≡ only Report c.report
only_report c out recorded saved i = record { out = out i; report = c.report; recorded = recorded i; saved = saved i }

pub prefix_report : (a b : Option Channels) (text : List ℕ) (p : GrewByPrefix a b (only Report text)) → Grew a b (only Report p.prefix.report)
prefix_report a b text p =
    let out : p.prefix.out ≡ [] = none_left p.prefix.out p.rest.out (ap (λ (z : Channels). z.out) p.splits) in
    let recorded : p.prefix.recorded ≡ [] = none_left p.prefix.recorded p.rest.recorded (ap (λ (z : Channels). z.recorded) p.splits) in
    let saved : p.prefix.saved ≡ unsaved = front_unsaved p.prefix.saved p.rest.saved (ap (λ (z : Channels). z.saved) p.splits) in
    subst (λ (z : Channels). Grew a b z) (only_report p.prefix out recorded saved) p.grew

-- nothing but replies was written

pub report_only : (a b : Option Channels) (text : List ℕ) → Grew a b (only Report text) → OnlyReplied a b
report_only a b text g = record { sent = []; replies = text; grew = g }

pub prefix_only : (a b : Option Channels) (text : List ℕ) → GrewByPrefix a b (only Report text) → OnlyReplied a b
prefix_only a b text p = report_only a b p.prefix.report (prefix_report a b text p)
