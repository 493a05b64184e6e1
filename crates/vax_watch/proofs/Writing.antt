-- What a traced run writes, whatever its page file tells.
use Rattle.std.proofs.Common.{◌≡◌, Bool, true, List, [], ℕ, Option, refl, ap, ◌∙◌, inl, inr}
use Rattle.vax_outside.specs.Channels.{Channels, GrewByPrefix, append, only, unsaved}
use Rattle.vax_outside.specs.declared.traits.Chan.TheVariants.{Record}
use Rattle.vax_outside.proofs.Growth.{front_unsaved}
use Rattle.vax_machine.specs.Writing.{OnlyWrote, held_in}
use Rattle.vax_machine.specs.declared.held.Held.{Held}
use Rattle.vax_machine.proofs.Outputs.{then_wrote}
use Rattle.vax_watch.specs.Tracing.{Finishes, PassedOn}
use Rattle.vax_watch.proofs.Holding.{none_first}
use Rattle.vax_watch.specs.declared.steps.TraceEnd.{TraceEnd}

-- lines were passed on
pub passed_only : (a b : Option Channels) (lines left : List ℕ) → PassedOn a b lines left → OnlyWrote true a b
passed_only a b lines left p = record { more = only Record p.sent; silent = refl; unlisted = λ e. absurd (cc e); unsaved = refl; grew = p.wrote }

-- or a prefix of them
pub part_only : (a b : Option Channels) (all : Channels) → all.report ≡ [] → all.saved ≡ unsaved → GrewByPrefix a b all → OnlyWrote true a b
part_only a b all silent none g = record {
  more = g.prefix;
  silent = none_first g.prefix.report g.rest.report (ap (λ (c : Channels). c.report) g.splits ∙ silent);
  unlisted = λ e. absurd (cc e);
  unsaved = front_unsaved g.prefix.saved g.rest.saved (ap (λ (c : Channels). c.saved) g.splits ∙ none);
  grew = g.grew;
}

-- whether or not evictions were listed too
wider : (listed : Bool) (a b : Option Channels) → OnlyWrote listed a b → OnlyWrote true a b
wider listed a b w = record { more = w.more; silent = w.silent; unlisted = λ e. absurd (cc e); unsaved = w.unsaved; grew = w.grew }

-- lines were passed on, and then a step was made
pub step_only : (a b c : Option Channels) (lines left : List ℕ) (listed : Bool) → PassedOn a b lines left → OnlyWrote listed b c → OnlyWrote true a c
step_only a b c lines left listed p w = then_wrote true a b c (passed_only a b lines left p) (wider listed b c w)

-- what was held back was written at the end, or not all of it
pub finished_only : (end result : TraceEnd) (held : Held) (lines : List ℕ) (a b c : Option Channels) → OnlyWrote true a b → Finishes end result (append (held_in held) (only Record lines)) b c → OnlyWrote true a c
finished_only end result held lines a b c w (inl f) =
    then_wrote true a b c w (record { more = append (held_in held) (only Record lines); silent = refl; unlisted = λ e. absurd (cc e); unsaved = refl; grew = f.1 })
finished_only end result held lines a b c w (inr f) = then_wrote true a b c w (part_only b c (append (held_in held) (only Record lines)) refl refl f.1)
