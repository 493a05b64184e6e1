-- Changes of mode, and what REI makes of them.
use Rattle.std.proofs.Common.{◌≡◌, ℕ, ◌+◌, ◌-◌, ◌*◌, ◌/◌, ◌%◌, ◌^◌, ◌<◌, ◌≤◌, ◌==◌, Bool, false, Some, List, [], ◌∷◌, length, refl, ap, sym, subst, ◌∙◌, arith, inl, inr}
use Rattle.std.specs.Prelude.{if◌then◌else◌, min, nat_lt}
use Rattle.std.proofs.lemmas.Bool.{cases_Bool, cases_eq, eq-eqb, ne_eqb, eqb-true, true≢false}
use Rattle.std.proofs.lemmas.List.{length-set, set-set, get_or-set_same}
use Rattle.vax_space.specs.declared.Access.TheVariants.{Write}
use Rattle.vax_space.specs.declared.Area.{Area}
use Rattle.vax_space.specs.Reference.{violation}
use Rattle.vax_word.specs.declared.Psl.{Psl}
use Rattle.vax_isa.specs.declared.actions.AccessMode.{AccessMode}
use Rattle.vax_isa.specs.Actions.{mode_number}
use Rattle.vax_flat.specs.declared.Delivery.TheVariants.{Entered, Ended}
use Rattle.vax_flat.specs.declared.Ending.TheVariants as ending
use Rattle.vax_flat.specs.declared.Flow.TheVariants as flow
use Rattle.vax_flat.specs.Memory.{written, IsWhole}
use Rattle.vax_flat.specs.State.{State, register, with_register, mode, priority}
use Rattle.vax_flat.specs.Accesses.{Accesses, Leaf, Went}
use Rattle.vax_flat.specs.Outcome.{Ends, outcome_of, unless_violated}
use Rattle.vax_flat.specs.Operand.{plus, extended, write_in}
use Rattle.vax_flat.specs.Delivery.{on_interrupt_stack, stack_in_use, switched, status, at_handler, pushed_in, pushed_all, pushed_outside, changed, changed_to, change_by, change_mode, change_vector}
use Rattle.vax_flat.specs.Returned.{AreThere}
use Rattle.vax_flat.proofs.Memory.{whole_written}
use Rattle.vax_flat_laws.specs.Machines.{IsMachine}
use Rattle.vax_flat_laws.specs.Handlers.{vector_at, ends_there, IsAtHandler, IsConsistent, Returns}
use Rattle.vax_flat.proofs.Longwords.{allowed, there_more}
use Rattle.vax_flat_laws.proofs.Entering.{IsPushed, pushes_come, taken, taken_top, taken_full, pointer_small, same_sp, vector_comes}
use Rattle.vax_flat_laws.proofs.Handling.{mode_below, ipl_below, at_fields, refuses_ending, may_return, rei_returns}

-- a push that doesn't ask
one_written : (v a mode : ℕ) (s : State) (k : State → Accesses Leaf) (memory : List Area) → length s.core.regs ≡ 16 →
    outcome_of (pushed_in mode v (with_register s 14 a) k) memory
    ≡ unless_violated (violation memory (plus a (2 ^ 32 - 4)) 4 mode Write) (outcome_of (k (with_register s 14 (plus a (2 ^ 32 - 4)))) (written memory (plus a (2 ^ 32 - 4)) 4 v))
unfolding pushed_in write_in outcome_of
one_written v a mode s k memory full =
    let top : register (with_register s 14 a) 14 ≡ a = get_or-set_same s.core.regs 14 a 0 (omega arith) in
    rw (top, set-set s.core.regs 14 a (plus a (2 ^ 32 - 4))) refl

pushed_more : (v a mode count : ℕ) (ys : List ℕ) (s : State) (k : State → Accesses Leaf) (memory : List Area) (x : Leaf) (end : List Area) →
    IsWhole memory → length s.core.regs ≡ 16 → v < 2 ^ 32 → a < 2 ^ 32 → 4 + 4 * length ys ≤ 2 ^ 32 → AreThere memory mode a ys →
    outcome_of (pushed_in mode v (with_register s 14 a) k) memory ≡ Ends x end →
    (outcome_of (k (with_register s 14 (plus a (2 ^ 32 - 4)))) (written memory (plus a (2 ^ 32 - 4)) 4 v) ≡ Ends x end) × AreThere (written memory (plus a (2 ^ 32 - 4)) 4 v) mode (plus a (2 ^ 32 - 4)) (v ∷ ys)
pushed_more v a mode count ys s k memory x end whole full fit small few t e =
    let b = plus a (2 ^ 32 - 4) in
    let h = allowed (violation memory b 4 mode Write) (outcome_of (k (with_register s 14 b)) (written memory b 4 v)) x end (sym (one_written v a mode s k memory full) ∙ e) in
    let here : a ≡ plus b 4 = omega arith in
    (h.1, there_more memory mode b v whole (omega arith) h.0 ys fit few (subst (λ z. AreThere memory mode z ys) here t))

-- the three longwords of a change of mode
outside_comes : (mode pc code a : ℕ) (old : Psl) (s : State) (next : State → Accesses Leaf) (memory : List Area) (x : Leaf) (end : List Area) →
    IsWhole memory → length s.core.regs ≡ 16 → old.0 < 2 ^ 32 → pc < 2 ^ 32 → code < 2 ^ 32 → a < 2 ^ 32 →
    outcome_of (pushed_outside mode old pc code (with_register s 14 a) next) memory ≡ Ends x end → IsPushed s (code ∷ pc ∷ old.0 ∷ []) 3 a mode next (Ends x end)
unfolding pushed_outside
outside_comes mode pc code a old s next memory x end whole full fit1 fit2 fit3 small e =
    let b = plus a (2 ^ 32 - 4) in
    let c = plus b (2 ^ 32 - 4) in
    let d = plus c (2 ^ 32 - 4) in
    let one = pushed_more old.0 a mode 0 [] s (λ u. pushed_in mode pc u (λ u. pushed_in mode code u next)) memory x end whole full fit1 small (omega arith) tt e in
    let whole1 = whole_written memory b 4 old.0 whole in
    let two = pushed_more pc b mode 0 (old.0 ∷ []) s (λ u. pushed_in mode code u next) (written memory b 4 old.0) x end whole1 full fit2 (omega arith) (omega arith) one.1 one.0 in
    let whole2 = whole_written (written memory b 4 old.0) c 4 pc whole1 in
    let three = pushed_more code c mode 0 (pc ∷ old.0 ∷ []) s next (written (written memory b 4 old.0) c 4 pc) x end whole2 full fit3 (omega arith) (omega arith) two.1 two.0 in
    record {
      memory = written (written (written memory b 4 old.0) c 4 pc) d 4 code;
      bottom = d;
      small = omega arith;
      goes_on = three.0;
      there = three.1;
      above = omega arith;
    }

code_fits : (code : ℕ) → code < 2 ^ 16 → extended 2 code < 2 ^ 32
unfolding extended
code_fits code h =
    elim (cases_Bool (nat_lt (2 * code) (256 ^ 2))) [ inl so ↦ rw so (omega arith) | inr isnt ↦ rw isnt (omega arith) ]

module _ (new code vector : ℕ) (s : State) (memory : List Area) (t : State) (end : List Area) (m : IsMachine s memory) (off : on_interrupt_stack s.core.psl ≡ false) (few : code < 2 ^ 32) where
  -- the new mode's stack is taken
  stack_is : stack_in_use s.core.psl ≡ mode s
  unfolding stack_in_use
  stack_is = rw off refl

  abbrev other : State
  other = taken new s

  full_other : length other.core.regs ≡ 16
  full_other = taken_full (stack_in_use s.core.psl) new s m.registers

  small_other : register other 14 < 2 ^ 32
  small_other = subst (λ z. z < 2 ^ 32) (sym (taken_top new s m.registers)) (pointer_small new s m.words m.pointers)

  pub changed_comes : outcome_of (changed_to new code vector s ends_there) memory ≡ Ends (Went flow.Done t) end →
      IsPushed other (code ∷ register s 15 ∷ s.core.psl.0 ∷ []) 3 (register other 14) new (λ u. ends_there Entered (changed new vector s.core.psl u)) (Ends (Went flow.Done t) end)
  unfolding changed_to
  changed_comes came =
      elim (cases_eq new 0) [
        | inl kernel ↦
            let k : Bool → State → Accesses Leaf = λ done u. if done then ends_there Entered (changed new vector s.core.psl u) else ends_there (Ended ending.Stack) u in
            let all : List ℕ = s.core.psl.0 ∷ register s 15 ∷ code ∷ [] in
            let on : outcome_of (pushed_all all (with_register other 14 (register other 14)) k) memory ≡ Ends (Went flow.Done t) end =
            ap (λ u. outcome_of (pushed_all all u k) memory) (same_sp other)
            ∙ (ap (λ f. outcome_of (pushed_all all (switched f new s) k) memory) stack_is ∙ rw (eq-eqb new 0 kernel) at came) in
            let p = pushes_come all [] (register other 14) other k memory (Went flow.Done t) end m.whole full_other (m.status, (m.words 15, (few, tt))) small_other (omega arith) tt (λ u n. refuses_ending t end ending.Stack u n) on in
            subst (λ n. IsPushed other (code ∷ register s 15 ∷ s.core.psl.0 ∷ []) 3 (register other 14) n (λ u. ends_there Entered (changed new vector s.core.psl u)) (Ends (Went flow.Done t) end)) (sym kernel) p
        | inr outer ↦
            let k : State → Accesses Leaf = λ u. ends_there Entered (changed new vector s.core.psl u) in
            let on : outcome_of (pushed_outside new s.core.psl (register s 15) code (with_register other 14 (register other 14)) k) memory ≡ Ends (Went flow.Done t) end =
            ap (λ u. outcome_of (pushed_outside new s.core.psl (register s 15) code u k) memory) (same_sp other)
            ∙ (ap (λ f. outcome_of (pushed_outside new s.core.psl (register s 15) code (switched f new s) k) memory) stack_is ∙ rw (ne_eqb new 0 outer) at came) in
            outside_comes new (register s 15) code (register other 14) s.core.psl other k memory (Went flow.Done t) end m.whole full_other m.status (m.words 15) few small_other on
      ]

module _ (target : AccessMode) (code : ℕ) (s t : State) (memory end : List Area) (m : IsMachine s memory) (short : code < 2 ^ 16) (came : outcome_of (change_mode target code s ends_there) memory ≡ Ends (Went flow.Done t) end) where
  abbrev vector : ℕ
  vector = vector_at memory (change_vector target)

  abbrev new : ℕ
  new = min (mode_number target) (mode s)

  off : on_interrupt_stack s.core.psl ≡ false
  unfolding change_mode
  off = elim (cases_Bool (on_interrupt_stack s.core.psl)) [ inl so ↦ absurd (refuses_ending t end ending.Change s memory (rw so at came)) | inr isnt ↦ isnt ]

  by_vector : outcome_of (change_by target code (Some vector) s ends_there) memory ≡ Ends (Went flow.Done t) end
  unfolding change_mode change_by
  by_vector =
      vector_comes (change_vector target) s (λ v u. change_by target code v u ends_there) memory (Went flow.Done t) end (refuses_ending t end ending.Scb s memory) (rw off at came)

  even : vector % 4 ≡ 0
  unfolding change_by
  even = elim (cases_Bool (vector % 4 == 0)) [ inl so ↦ eqb-true (vector % 4) 0 so | inr isnt ↦ absurd (refuses_ending t end _ s memory (rw isnt at by_vector)) ]

  changed_so : outcome_of (changed_to new (extended 2 code) vector s ends_there) memory ≡ Ends (Went flow.Done t) end
  unfolding change_by
  changed_so = rw (eq-eqb (vector % 4) 0 even) at by_vector

  pushed_so : IsPushed (taken new s) (extended 2 code ∷ register s 15 ∷ s.core.psl.0 ∷ []) 3 (register (taken new s) 14) new (λ u. ends_there Entered (changed new vector s.core.psl u)) (Ends (Went flow.Done t) end)
  pushed_so = changed_comes new (extended 2 code) vector s memory t end m off (code_fits code short) changed_so

  few_modes : new < 4
  few_modes = let h = mode_below s.core.psl in omega arith

  whole_vector : vector / 4 * 4 ≡ vector
  whole_vector = let e = even in omega arith

  abbrev at_change : State
  at_change = at_handler (vector / 4 * 4) (status new (mode s) (priority s) false) (with_register (taken new s) 14 pushed_so.bottom)

  state_so : at_change ≡ t
  unfolding outcome_of changed
  state_so =
      let g = pushed_so.goes_on in
      ap (λ h. at_handler h (status new (mode s) (priority s) false) (with_register (taken new s) 14 pushed_so.bottom)) whole_vector ∙ cc

  memory_so : pushed_so.memory ≡ end
  unfolding outcome_of changed
  memory_so = let g = pushed_so.goes_on in cc

  pub change_handled : IsAtHandler vector new (mode s) (priority s) false t
  change_handled =
      subst (IsAtHandler vector new (mode s) (priority s) false) state_so
      (at_fields vector new (mode s) (priority s) false (with_register (taken new s) 14 pushed_so.bottom) (length-set (taken new s).core.regs 14 pushed_so.bottom ∙ taken_full (stack_in_use s.core.psl) new s m.registers) few_modes (mode_below s.core.psl) (ipl_below s.core.psl))

  pub change_returns : IsConsistent s.core.psl → Returns 1 s t end
  change_returns consistent =
      let p = pushed_so in
      let hp = mode_below s.core.psl in
      let hl = ipl_below s.core.psl in
      let may = may_return new (mode s) (priority s) false s.core.psl few_modes hp hl (omega arith) (λ h. absurd (true≢false (sym h ∙ off))) (omega arith) in
      let back = rei_returns s (extended 2 code ∷ []) p.memory (vector / 4 * 4) new p.bottom new (mode s) (priority s) false m.registers m.stacks p.small few_modes hp hl refl consistent may p.there p.above in
      subst (λ u. Returns 1 s u end) state_so (subst (λ n. Returns 1 s at_change n) memory_so back)
