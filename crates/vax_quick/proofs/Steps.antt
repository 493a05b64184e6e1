-- Steps that were made at once.
use Rattle.std.proofs.Common.{◌≡◌, ℕ, zero, suc, ◌+◌, ◌/◌, ◌%◌, ◌^◌, false, nat_lt, refl, ◌∙◌, arith, add-one}
use Rattle.std.proofs.lemmas.Bool.{ne_eqb}
use Rattle.std.proofs.lemmas.Bool.Decides.{nat_tests}
use Rattle.vax_word.specs.declared.Core.{Core}
use Rattle.vax_word.specs.Status.{is_one}
use Rattle.vax_flat.specs.declared.Flow.TheVariants as flow
use Rattle.vax_flat.specs.State.{State, priority}
use Rattle.vax_flat.specs.Accesses.{Went}
use Rattle.vax_flat.specs.Instruction.{first_part}
use Rattle.vax_flat.specs.OverPort.{over_port, Comes}
use Rattle.vax_flat.specs.Parts.{begun_part, part}
use Rattle.vax_flat.specs.Port.{View}
use Rattle.vax_flat.specs.Step.{finished, leaf, level, highest, ticked}
use Rattle.vax_quick.specs.Made.{Computer, GoesOn, IsStill, MakesStep, MakesSteps, at_console}

none_set : (place : ℕ) → is_one 0 place ≡ false
none_set place = ne_eqb (0 / 2 ^ place % 2 ^ 1) 1 (omega arith)

highest_none : (level : ℕ) → highest level 0 ≡ 0
unfolding highest
highest_none zero = refl
highest_none (suc level) = rw (none_set (suc level)) (highest_none level)

pub still_by : (core : Core) → is_one core.iccs 6 ≡ false → core.sisr ≡ 0 → IsStill core
unfolding level
still_by core off none = record { none = rw (off, none) (highest_none 15); off = off }

pub still_on : (old new : Core) → new.iccs ≡ old.iccs → new.sisr ≡ old.sisr → IsStill old → IsStill new
unfolding level
still_on old new timer requests still = record {
  none = rw (timer, requests) still.none;
  off = rw timer still.off;
}

-- where the clock is off, an instruction that is done ends the step
ends : (s : State) (view : View) → is_one s.core.iccs 6 ≡ false → over_port (finished flow.Done s leaf) view ≡ Comes (Went flow.Done s) view
unfolding finished ticked over_port
ends s view off = rw off refl

-- an instruction that was made where no interrupt is asked for and the clock is off is a step
pub step_made : (old new : Computer) → IsStill old.core → new.core.iccs ≡ old.core.iccs → GoesOn first_part flow.Done old new → MakesStep old new
unfolding part begun_part
step_made old new still timer made = record {
  made = λ input taken sent.
      let before = at_console old.core input taken sent in
      let after = at_console new.core input taken sent in
      let low : nat_lt (priority before) (level old.core) ≡ false = let none = still.none in grind (arith, nat_tests) in
      let off : is_one new.core.iccs 6 ≡ false = rw timer still.off in
      rw low (made input taken sent (λ how s. finished how s leaf) ∙ ends after new.view off);
}

pub steps_more : (count : ℕ) (old mid new : Computer) → MakesSteps count old mid → MakesStep mid new → MakesSteps (count + 1) old new
steps_more count old mid new so_far one = rw add-one (mid, so_far, one)
