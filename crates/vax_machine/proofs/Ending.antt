-- Where a run that goes on stops: what it does to the counts of failures, and that it stands between two steps.
use Rattle.std.proofs.Common.{◌≡◌, Bool, true, false, refl, sym, subst, arith, Option, Result, Ok, Err}
use Rattle.std.specs.Prelude.{◌≢◌}
use Rattle.vax_outside.specs.Faults.{CountsFailure, Rose}
use Rattle.vax_outside.specs.declared.faults.Failures.{Failures}
use Rattle.vax_outside.specs.Channels.{Channels, GrewByPrefix}
use Rattle.vax_outside.proofs.Counting.{counts_then}
use Rattle.vax_machine.specs.GoingOn.{CountsEnd, by_page, by_write}
use Rattle.vax_machine.specs.Turn.{IsStop}
use Rattle.vax_machine.specs.Writing.{Counts, Puts}
use Rattle.vax_machine.specs.declared.event.Fault.{Fault}
use Rattle.vax_machine.specs.declared.event.Fault.TheVariants.{Page, Write}
use Rattle.vax_machine.specs.declared.event.RunEnd.{RunEnd}
use Rattle.vax_machine.specs.declared.event.RunEnd.TheVariants as run_end

stays : (a b : Failures) → b.count ≡ a.count → CountsFailure false a b
stays a b e = record { later = omega (arith, e); cause = tt; quiet = e }

stay : (end : RunEnd) → by_page end ≡ false → by_write end ≡ false → (a b x y : Failures) → b.count ≡ a.count → y.count ≡ x.count → CountsEnd end a b x y
stay end page write a b x y e f = record {
  file = subst (λ z. CountsFailure z a b) (sym page) (stays a b e);
  sink = subst (λ z. CountsFailure z x y) (sym write) (stays x y f);
}

pub counts_stop : (end : RunEnd) → IsStop end → (a b x y : Failures) → b.count ≡ a.count → y.count ≡ x.count → CountsEnd end a b x y
counts_stop (run_end.Ended e) s a b x y p q = stay (run_end.Ended e) refl refl a b x y p q
counts_stop run_end.Steps s a b x y p q = stay run_end.Steps refl refl a b x y p q
counts_stop run_end.Turns s a b x y p q = stay run_end.Turns refl refl a b x y p q
counts_stop run_end.PageFault s a b x y p q = absurd s
counts_stop run_end.WriteFault s a b x y p q = absurd s

pub counts_page : (r : Result (Unit {0}) Fault) → r ≡ Err Page → (a b c x y z : Failures) → b.count ≡ a.count → y.count ≡ x.count → Counts r b c y z → CountsEnd run_end.PageFault a c x z
counts_page (Ok u) is a b c x y z p q k = cc
counts_page (Err Page) is a b c x y z p q k = record { file = counts_then refl p k.file; sink = counts_then refl q k.sink }
counts_page (Err Write) is a b c x y z p q k = cc

pub counts_write : (r : Result (Unit {0}) Fault) → r ≡ Err Write → (a b c x y z : Failures) → b.count ≡ a.count → y.count ≡ x.count → Counts r b c y z → CountsEnd run_end.WriteFault a c x z
counts_write (Ok u) is a b c x y z p q k = cc
counts_write (Err Page) is a b c x y z p q k = cc
counts_write (Err Write) is a b c x y z p q k = record { file = counts_then refl p k.file; sink = counts_then refl q k.sink }

-- a count that changed rose, by one call that failed and was the last
pub changed_rose : (failed : Bool) (a b : Failures) → CountsFailure failed a b → b.count ≢ a.count → Rose a b
changed_rose true a b c n = c.cause
changed_rose false a b c n = absurd (n c.quiet)

-- what is held back wasn't all written

pub lost_prefix : (e : Fault) (left : Channels) (old new : Option Channels) → Puts (Err e) left old new → GrewByPrefix old new left
lost_prefix Page left old new p = absurd p
lost_prefix Write left old new p = p

pub lost_write : (e : Fault) (left : Channels) (old new : Option Channels) → Puts (Err e) left old new → (f a b : Failures) → Counts (Err e) f f a b → CountsFailure true a b
lost_write Page left old new p f a b k = absurd p
lost_write Write left old new p f a b k = k.sink
