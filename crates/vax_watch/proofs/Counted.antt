-- What a traced run does to the counts of failures.
use Rattle.std.proofs.Common.{◌≡◌, Bool, true, false, Option, Some, None, refl, sym, ap, subst, ◌∙◌, inl, inr}
use Rattle.vax_outside.specs.declared.faults.Failures.{Failures}
use Rattle.vax_outside.specs.Faults.{CountsFailure}
use Rattle.vax_outside.specs.Channels.{Channels}
use Rattle.vax_outside.proofs.Counting.{counts_then, still_on}
use Rattle.vax_flat.specs.declared.Ending.{Ending}
use Rattle.vax_watch.specs.Traced.{CountsTrace, by_page, by_write}
use Rattle.vax_watch.specs.Tracing.{CountsEnd, Finishes, stopped_by}
use Rattle.vax_watch.specs.declared.steps.TraceEnd.{TraceEnd}
use Rattle.vax_watch.specs.declared.steps.TraceEnd.TheVariants.{Ended, Steps, Break, Turns, PageFault, WriteFault}

-- a run that didn't fail to write
pub fine_write : (end : TraceEnd) → (end ≡ WriteFault → ⊥) → by_write end ≡ false
fine_write (Ended e) other = refl
fine_write Steps other = refl
fine_write Break other = refl
fine_write Turns other = refl
fine_write PageFault other = refl
fine_write WriteFault other = absurd (other refl)

-- one that stopped by itself
pub fine_stop : (how : Option Ending) (a b : Bool) (end : TraceEnd) → stopped_by how a b ≡ Some end → (by_page end ≡ false) × (by_write end ≡ false)
fine_stop (Some e) a b end h = let k : Ended e ≡ end = cc in subst (λ (z : TraceEnd). (by_page z ≡ false) × (by_write z ≡ false)) k (refl, refl)
fine_stop None true b end h = let k : Steps ≡ end = cc in subst (λ (z : TraceEnd). (by_page z ≡ false) × (by_write z ≡ false)) k (refl, refl)
fine_stop None false true end h = let k : Break ≡ end = cc in subst (λ (z : TraceEnd). (by_page z ≡ false) × (by_write z ≡ false)) k (refl, refl)
fine_stop None false false end h = absurd (cc h)

-- and what it held back was written, or not all of it
pub finished_counts : (end result : TraceEnd) (left : Channels) (old new : Option Channels) (a b x y z : Failures) → (end ≡ WriteFault → ⊥) → Finishes end result left old new → CountsEnd end a b x y → CountsFailure (by_write result) y z → CountsTrace result a b x z
finished_counts end result left old new a b x y z other done k last = record {
  failed = by_page end;
  told = λ fine. elim done [
    | inl h ↦ ap by_page (sym h.0)
    | inr h ↦ let bad : true ≡ false = ap by_write (sym h.0) ∙ fine in absurd (cc bad)
  ];
  file = k.file;
  sink = counts_then refl (still_on (fine_write end other) k.sink) last;
}

pub lost_counts : (a b x y : Failures) → CountsEnd WriteFault a b x y → CountsTrace WriteFault a b x y
lost_counts a b x y k = record { failed = false; told = λ fine. let bad : true ≡ false = fine in absurd (cc bad); file = k.file; sink = k.sink }
