-- The processor status word under masks.
use Rattle.std.proofs.Common.{◌≡◌, ◌≢◌, ◌⊎◌, ℕ, ◌-◌, ◌/◌, ◌^◌, ◌<◌, ◌==◌, List, min, refl, ap, subst, ◌∙◌, arith, inl, inr, w32}
use Rattle.std.specs.Prelude.{not, ◌||◌}
use Rattle.std.specs.Int.{bit_at}
use Rattle.std.specs.Int.Bits.{bit_and, bit_or}
use Rattle.std.proofs.lemmas.Bool.{cases_Bool, eq-eqb, ne_eqb}
use Rattle.std.proofs.lemmas.Nat.Bits.{bit_at_and, bit_at_or, bit_at_not}
use Rattle.vax_space.specs.declared.Area.{Area}
use Rattle.vax_word.specs.declared.Psl.{Psl}
use Rattle.vax_word.specs.Status.{is_one}
use Rattle.vax_flat.specs.declared.Exception.TheVariants.{Operand}
use Rattle.vax_flat.specs.declared.Flow.{Flow}
use Rattle.vax_flat.specs.declared.Flow.TheVariants as flow
use Rattle.vax_flat.specs.Accesses.{Accesses, Leaf, Raises, Went}
use Rattle.vax_flat.specs.Call.{entry_status}
use Rattle.vax_flat.specs.State.{State, with_psl}
use Rattle.vax_flat.specs.Outcome.{Ends, outcome_of}
use Rattle.vax_flat.specs.Step.{leaf}
use Rattle.vax_flat.specs.System.{status_cleared, status_set}
use Rattle.vax_flat_laws.specs.Processor.{HasSet, HasCleared, IsEntryStatus}

set_bits : (mask : ℕ) (psl : Psl) → HasSet mask psl (record { 0 = bit_or psl.0 mask })
set_bits mask psl = record { bits = λ k. bit_at_or psl.0 mask k }

cleared_bits : (mask : ℕ) (psl : Psl) → mask < 2 ^ 32 → HasCleared mask psl (record { 0 = bit_and psl.0 (2 ^ 32 - 1 - mask) })
cleared_bits mask psl small = record { bits = λ k h. bit_at_and psl.0 (2 ^ 32 - 1 - mask) k ∙ ap (min (bit_at psl.0 k)) (bit_at_not w32 mask k small h) }

pub is_set : (mask : ℕ) (s t : State) (memory end : List Area) → outcome_of (status_set mask s leaf) memory ≡ Ends (Went flow.Done t) end → HasSet mask s.core.psl t.core.psl
unfolding status_set outcome_of
is_set mask s t memory end came =
    elim (cases_Bool (not (mask / 2 ^ 8 == 0) || is_one mask 4)) [
      | inl bad ↦ let e = rw bad at came in absurd (cc)
      | inr fine ↦
          let e = rw fine at came in
          let same : with_psl s (record { 0 = bit_or s.core.psl.0 mask }) ≡ t = cc in
          subst (λ u. HasSet mask s.core.psl u.core.psl) same (set_bits mask s.core.psl)
    ]

pub is_cleared : (mask : ℕ) (s t : State) (memory end : List Area) → mask < 2 ^ 32 → outcome_of (status_cleared mask s leaf) memory ≡ Ends (Went flow.Done t) end → HasCleared mask s.core.psl t.core.psl
unfolding status_cleared outcome_of
is_cleared mask s t memory end small came =
    elim (cases_Bool (not (mask / 2 ^ 8 == 0))) [
      | inl bad ↦ let e = rw bad at came in absurd (cc)
      | inr fine ↦
          let e = rw fine at came in
          let same : with_psl s (record { 0 = bit_and s.core.psl.0 (2 ^ 32 - 1 - mask) }) ≡ t = cc in
          subst (λ u. HasCleared mask s.core.psl u.core.psl) same (cleared_bits mask s.core.psl small)
    ]

pub set_refused : (mask : ℕ) (s : State) (next : Flow → State → Accesses Leaf) → (mask / 2 ^ 8 ≢ 0) ⊎ (bit_at mask 4 ≡ 1) → status_set mask s next ≡ Raises Operand
unfolding status_set
set_refused mask s next (inl wide) = rw (ne_eqb (mask / 2 ^ 8) 0 wide) refl
set_refused mask s next (inr trace) =
    elim (cases_Bool (mask / 2 ^ 8 == 0)) [
      | inl so ↦ rw (so, eq-eqb (bit_at mask 4) 1 trace) refl
      | inr isnt ↦ rw isnt refl
    ]

pub cleared_refused : (mask : ℕ) (s : State) (next : Flow → State → Accesses Leaf) → mask / 2 ^ 8 ≢ 0 → status_cleared mask s next ≡ Raises Operand
unfolding status_cleared
cleared_refused mask s next wide = rw (ne_eqb (mask / 2 ^ 8) 0 wide) refl

pub entry_is : (mask : ℕ) (psl : Psl) → IsEntryStatus mask psl (entry_status mask psl)
unfolding entry_status
entry_is mask psl = record {
  decimal = omega arith;
  integer = omega arith;
  underflow = omega arith;
  codes = omega arith;
  trace = omega arith;
  high = omega arith;
}
