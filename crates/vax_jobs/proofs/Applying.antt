-- An event of a process on its part of the file.
use Rattle.std.proofs.Common.{◌≡◌, ◌≤◌, ℕ, List, Option, Some, length, refl, sym, ◌∙◌, subst, arith}
use Rattle.std.specs.Prelude.{slice_get, slice_set}
use Rattle.std.proofs.lemmas.Option.{slice_get_within}
use Rattle.vax_outside.specs.Blocks.{BlockFile}
use Rattle.vax_machine.specs.Events.{KeepsPins}
use Rattle.vax_machine.specs.Machine.{Applies, HasSpent, Moves, keeping}
use Rattle.vax_machine.specs.Meaning.{engine}
use Rattle.vax_machine.specs.declared.event.Applied.{Applied}
use Rattle.vax_machine.specs.declared.event.Event.{Event}
use Rattle.vax_machine.specs.declared.machine.Machine.{Machine}
use Rattle.vax_window.specs.Windows.{first_block, its, window_of}
use Rattle.vax_jobs.proofs.Turns.{others_keep}
use Rattle.vax_jobs.specs.Pool.{HasApplied}

-- what a window told before an event and tells behind it is what the file tells in the part of the process
pub record IsSeen (job first last : ℕ) (before seen left after : Option BlockFile) : Type 0 where
  pub first_is : first ≡ first_block job
  pub last_is : last ≡ first
  pub seen_is : seen ≡ before
  pub after_is : after ≡ left

module _ (job first last : ℕ) (before seen left after : Option BlockFile) (s : IsSeen job first last before seen left after) where
  before_is : window_of first seen ≡ its job before
  before_is = let a = s.first_is in let b = s.seen_is in λ i. window_of (a i) (b i)

  behind_is : window_of last left ≡ its job after
  behind_is = let a = s.last_is ∙ s.first_is in let b = sym s.after_is in λ i. window_of (a i) (b i)

  pub applied_by : (event : Event) (answer : Applied) (old : List Machine) (was is : Machine) → length old ≤ 8 → slice_get old job ≡ Some was → Applies event (engine was) (window_of first seen) answer (engine is) (window_of last left) → Moves event (engine was) (window_of first seen) answer (engine is) (window_of last left) → HasSpent answer (keeping (engine was)) (keeping (engine is)) → KeepsPins (engine was) (window_of first seen) answer (engine is) → HasApplied job event answer old before (slice_set old job is) after
  applied_by event answer old was is few there applies moves spends unsettled =
      let moved : Moves event (engine was) (its job before) answer (engine is) (its job after) =
      subst (λ (x : Option BlockFile). Moves event (engine was) (its job before) answer (engine is) x) behind_is
      (subst (λ (x : Option BlockFile). Moves event (engine was) x answer (engine is) (window_of last left)) before_is moves) in
      let within = slice_get_within old job was there in
      record {
        was = was;
        is = is;
        there = there;
        changed = refl;
        applies =
            subst (λ (x : Option BlockFile). Applies event (engine was) (its job before) answer (engine is) x) behind_is
            (subst (λ (x : Option BlockFile). Applies event (engine was) x answer (engine is) (window_of last left)) before_is applies);
        spends = spends;
        unsettled = subst (λ (x : Option BlockFile). KeepsPins (engine was) x answer (engine is)) before_is unsettled;
        others = λ i other m here.
            let inside = slice_get_within old i m here in
            others_keep job event answer was is m before after i (omega (arith, inside, few)) (omega (arith, within, few)) other moved;
      }
