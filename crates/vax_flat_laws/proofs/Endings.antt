-- Deliveries that end the run, and statuses that REI refuses.
use Rattle.std.proofs.Common.{◌≡◌, ℕ, suc, zero, None, ◌%◌, ◌<◌, ◌≤◌, ◌==◌, Bool, true, false, Some, List, refl, sym, ◌∙◌, arith}
use Rattle.std.specs.Prelude.{nat_lt, not, ◌||◌, ◌&&◌}
use Rattle.std.proofs.lemmas.Bool.{eqb-true, ne_eqb, lt-ltb, le-leb, ltb-false, not-false, true≢false}
use Rattle.vax_space.specs.declared.Area.{Area}
use Rattle.vax_word.specs.declared.Psl.{Psl}
use Rattle.vax_word.specs.Status.{field, mode_of, prev_of, ipl_of}
use Rattle.vax_isa.specs.declared.actions.AccessMode.{AccessMode}
use Rattle.vax_flat.specs.declared.Delivery.TheVariants.{Ended}
use Rattle.vax_flat.specs.declared.Ending.TheVariants as ending
use Rattle.vax_flat.specs.declared.Exception.{Exception}
use Rattle.vax_flat.specs.State.{State}
use Rattle.vax_flat.specs.Outcome.{outcome_of}
use Rattle.vax_flat.specs.Delivery.{on_interrupt_stack, delivery, dispatched, interrupt, interrupted, interrupt_vector, vector_of, change_mode, change_by, change_vector}
use Rattle.vax_flat.specs.System.{is_refused}
use Rattle.vax_flat_laws.specs.Handlers.{vector_at, ends_there, HasVector, IsBarred, EndsRun, IsConsistent, MayFollow}
use Rattle.vax_flat_laws.proofs.Entering.{vector_read}

pub unread_ends : (e : Exception) (s : State) (memory : List Area) → IsBarred (vector_of e) memory → EndsRun (delivery e s ends_there) memory ending.Scb s
unfolding delivery dispatched outcome_of
unread_ends e s memory b = vector_read (vector_of e) s (λ vector t. dispatched e vector t ends_there) memory (Some b.found) b.is

exception_by_bits : (e : Exception) (s : State) (memory : List Area) (vector : ℕ) → 2 ≤ vector % 4 → outcome_of (dispatched e (Some vector) s ends_there) memory ≡ outcome_of (ends_there (Ended (ending.Vector (vector_of e))) s) memory
unfolding dispatched
exception_by_bits e s memory vector high = rw (le-leb 2 (vector % 4) high) refl

pub exception_ends : (e : Exception) (s : State) (memory : List Area) → HasVector (vector_of e) memory → 2 ≤ vector_at memory (vector_of e) % 4 → EndsRun (delivery e s ends_there) memory (ending.Vector (vector_of e)) s
unfolding delivery outcome_of
exception_ends e s memory fine high =
    vector_read (vector_of e) s (λ vector t. dispatched e vector t ends_there) memory None fine ∙ exception_by_bits e s memory (vector_at memory (vector_of e)) high

interrupt_by_bits : (level : ℕ) (s : State) (memory : List Area) (vector : ℕ) → 2 ≤ vector % 4 → outcome_of (interrupted level (Some vector) s ends_there) memory ≡ outcome_of (ends_there (Ended (ending.Vector (interrupt_vector level))) s) memory
unfolding interrupted
interrupt_by_bits level s memory vector high = rw (le-leb 2 (vector % 4) high) refl

pub interrupt_ends : (level : ℕ) (s : State) (memory : List Area) → HasVector (interrupt_vector level) memory → 2 ≤ vector_at memory (interrupt_vector level) % 4 → EndsRun (interrupt level s ends_there) memory (ending.Vector (interrupt_vector level)) s
unfolding interrupt outcome_of
interrupt_ends level s memory fine high =
    vector_read (interrupt_vector level) s (λ vector t. interrupted level vector t ends_there) memory None fine ∙ interrupt_by_bits level s memory (vector_at memory (interrupt_vector level)) high

change_by_bits : (target : AccessMode) (code : ℕ) (s : State) (memory : List Area) (vector : ℕ) → 1 ≤ vector % 4 → outcome_of (change_by target code (Some vector) s ends_there) memory ≡ outcome_of (ends_there (Ended (ending.Vector (change_vector target))) s) memory
unfolding change_by
change_by_bits target code s memory vector some = rw (ne_eqb (vector % 4) 0 (λ h. omega arith)) refl

pub change_ends : (target : AccessMode) (code : ℕ) (s : State) (memory : List Area) → on_interrupt_stack s.core.psl ≡ false → HasVector (change_vector target) memory → 1 ≤ vector_at memory (change_vector target) % 4 →
    EndsRun (change_mode target code s ends_there) memory (ending.Vector (change_vector target)) s
unfolding change_mode outcome_of
change_ends target code s memory off fine some =
    rw off (vector_read (change_vector target) s (λ vector t. change_by target code vector t ends_there) memory None fine ∙ change_by_bits target code s memory (vector_at memory (change_vector target)) some)

pub change_inside : (target : AccessMode) (code : ℕ) (s : State) (memory : List Area) → on_interrupt_stack s.core.psl ≡ true → EndsRun (change_mode target code s ends_there) memory ending.Change s
unfolding change_mode outcome_of
change_inside target code s memory on = rw on refl

-- ---- REI

or_none : (x y : Bool) → (x || y) ≡ false → (x ≡ false) × (y ≡ false)
or_none true y h = absurd (true≢false h)
or_none false y h = (refl, h)

and_none : (x y : Bool) → (x && y) ≡ false → x ≡ true → y ≡ false
and_none true y h is = h
and_none false y h is = absurd (true≢false (sym is))

is_zero : (x : ℕ) → not (x == 0) ≡ false → x ≡ 0
is_zero x h = eqb-true x 0 (not-false (x == 0) h)

pub accepted : (old new : Psl) → is_refused old new ≡ false → IsConsistent new × MayFollow old new
unfolding is_refused
accepted old new h =
    let a = or_none _ _ h in
    let b = or_none _ _ a.1 in
    let c = or_none _ _ b.1 in
    let d = or_none _ _ c.1 in
    let e = or_none _ _ d.1 in
    let f = or_none _ _ e.1 in
    let r1 = or_none _ _ f.1 in
    let r2 = or_none _ _ r1.1 in
    let r3 = or_none _ _ r2.1 in
    let r4 = or_none _ _ r3.1 in
    let sound : (on : on_interrupt_stack new ≡ true) → (mode_of new ≡ 0) × (0 < ipl_of new) = λ on.
    let g = or_none _ _ (and_none (on_interrupt_stack new) (not (mode_of new == 0) || ipl_of new == 0) c.0 on) in
    (is_zero (mode_of new) g.0, some (ipl_of new) g.1) in (
      record {
        previous = ltb-false (prev_of new) (mode_of new) e.0;
        level = λ above. is_zero (mode_of new) (and_none (nat_lt 0 (ipl_of new)) (not (mode_of new == 0)) d.0 (lt-ltb 0 (ipl_of new) above));
        stack = sound;
        middle_clear = is_zero (field new.0 8 8) r1.0;
        between_clear = r2.0;
        high_clear = is_zero (field new.0 28 4) r3.0;
        trace_clear = r4.0;
        part_clear = r4.1;
      },
      record {
        mode = ltb-false (mode_of new) (mode_of old) a.0;
        stack = λ on. not-false (on_interrupt_stack old) (and_none (on_interrupt_stack new) (not (on_interrupt_stack old)) b.0 on);
        level = ltb-false (ipl_of old) (ipl_of new) f.0;
      },
    )
  where
    some : (x : ℕ) → (x == 0) ≡ false → 0 < x
    some zero h = absurd (true≢false h)
    some (suc x) h = omega arith
