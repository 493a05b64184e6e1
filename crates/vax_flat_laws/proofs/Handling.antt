-- The handler that a delivery enters, and what REI makes of it.
use Rattle.std.proofs.Common.{◌≡◌, ◌≢◌, ℕ, suc, ◌*◌, ◌/◌, ◌^◌, ◌<◌, ◌≤◌, ◌==◌, Bool, true, false, cond, List, [], ◌∷◌, ◌++◌, length, refl, ap, sym, subst, ◌∙◌, arith, inl, inr}
use Rattle.std.specs.Prelude.{reverse, nat_lt, not, ◌||◌, ◌&&◌, slice_index, slice_set}
use Rattle.std.proofs.lemmas.Bool.{cases_Bool, cases_eq, eq-eqb, ne_eqb, le-ltb, ltb-true}
use Rattle.std.proofs.lemmas.List.{reverse-append, append-nil, length-set, length-reverse, get_or-set_same, get_or-set_other}
use Rattle.vax_space.specs.declared.Area.{Area}
use Rattle.vax_word.specs.declared.Psl.{Psl}
use Rattle.vax_word.specs.Status.{field, mode_of, prev_of, ipl_of}
use Rattle.vax_flat.specs.declared.Exception.{Exception}
use Rattle.vax_flat.specs.declared.Flow.TheVariants as flow
use Rattle.vax_flat.specs.State.{State, register, with_register, with_psl, mode, priority}
use Rattle.vax_flat.specs.Accesses.{Went}
use Rattle.vax_flat.specs.Outcome.{Ends, outcome_of}
use Rattle.vax_flat.specs.Operand.{plus, read_at}
use Rattle.vax_flat.specs.Delivery.{on_interrupt_stack, stack_in_use, switched, status, at_handler, delivery, parameters, vector_of, interrupt, interrupt_vector, served}
use Rattle.vax_flat.specs.System.{pointer, is_refused, return_from, return_exception, restored}
use Rattle.vax_flat.specs.Step.{leaf}
use Rattle.vax_flat.specs.Returned.{AreThere, behind}
use Rattle.vax_flat_laws.specs.Machines.{IsMachine, AreWords, without}
use Rattle.vax_flat_laws.specs.Handlers.{vector_at, ends_there, asks_interrupt_stack, level_by, stack_by, IsAtHandler, IsConsistent, Returns, MayFollow}
use Rattle.vax_flat_laws.proofs.Longwords.{behind_more, behind_is, there_behind}
use Rattle.vax_flat_laws.proofs.Entering.{IsEntered, IsRaised, IsInterrupted, Refuses, taken, goes_to, taken_full, taken_others, served_untouched, served_machine, delivery_comes, interrupt_comes}

-- ---- the status

-- its fields
pub record HasFields (psl : Psl) (current previous level : ℕ) (interrupt : Bool) : Type 0 where
  pub current_is : mode_of psl ≡ current
  pub previous_is : prev_of psl ≡ previous
  pub level_is : ipl_of psl ≡ level
  pub stack_is : on_interrupt_stack psl ≡ interrupt
  pub low_clear : field psl.0 0 16 ≡ 0
  pub between_clear : field psl.0 21 1 ≡ 0
  pub high_clear : psl.0 / 2 ^ 27 ≡ 0

pub status_fields : (current previous level : ℕ) (interrupt : Bool) → current < 4 → previous < 4 → level < 32 → HasFields (status current previous level interrupt) current previous level interrupt
unfolding mode_of prev_of ipl_of
status_fields c p l true hc hp hl = record {
  current_is = omega arith;
  previous_is = omega arith;
  level_is = omega arith;
  stack_is = eq-eqb _ 1 (omega arith);
  low_clear = omega arith;
  between_clear = omega arith;
  high_clear = omega arith;
}
status_fields c p l false hc hp hl = record {
  current_is = omega arith;
  previous_is = omega arith;
  level_is = omega arith;
  stack_is = ne_eqb _ 1 (λ h. omega arith);
  low_clear = omega arith;
  between_clear = omega arith;
  high_clear = omega arith;
}

pub mode_below : (psl : Psl) → mode_of psl < 4
unfolding mode_of
mode_below psl = omega arith

pub prev_below : (psl : Psl) → prev_of psl < 4
unfolding prev_of
prev_below psl = omega arith

pub ipl_below : (psl : Psl) → ipl_of psl < 32
unfolding ipl_of
ipl_below psl = omega arith

pub level_below : (vector kept : ℕ) → kept < 32 → level_by vector kept < 32
level_below vector kept h =
    elim (cases_Bool (asks_interrupt_stack vector)) [ inl so ↦ rw so (omega arith) | inr isnt ↦ rw isnt h ]

pub level_kept : (vector kept : ℕ) → kept < 32 → kept ≤ level_by vector kept
level_kept vector kept h =
    elim (cases_Bool (asks_interrupt_stack vector)) [ inl so ↦ rw so (omega arith) | inr isnt ↦ rw isnt (omega arith) ]

-- ---- the handler

pub at_fields : (vector current previous level : ℕ) (interrupt : Bool) (w : State) → length w.core.regs ≡ 16 → current < 4 → previous < 4 → level < 32 →
    IsAtHandler vector current previous level interrupt (at_handler (vector / 4 * 4) (status current previous level interrupt) w)
at_fields vector c p l i w full hc hp hl =
    let f = status_fields c p l i hc hp hl in
    record {
      control = get_or-set_same w.core.regs 15 (vector / 4 * 4) 0 (omega arith) ∙ omega arith;
      current_is = f.current_is;
      previous_is = f.previous_is;
      level_is = f.level_is;
      stack_is = f.stack_is;
      low_clear = f.low_clear;
      between_clear = f.between_clear;
      high_clear = f.high_clear;
    }

pub refuses_ending : (t : State) (end : List Area) → Refuses ends_there (Went flow.Done t) end
unfolding outcome_of
refuses_ending t end e u m same = cc

-- where the handler was entered
module _ (s : State) (values : List ℕ) (vector current previous level : ℕ) (interrupt : Bool) (t : State) (end : List Area) (full : length s.core.regs ≡ 16) (hc : current < 4) (hp : previous < 4) (hl : level < 32)
    (p : IsEntered s values vector interrupt (status current previous level interrupt) ends_there (Ends (Went flow.Done t) end)) where
  abbrev entered_state : State
  entered_state = at_handler (vector / 4 * 4) (status current previous level interrupt) (with_register (taken (goes_to interrupt) s) 14 p.bottom)

  pub state_is : entered_state ≡ t
  unfolding outcome_of
  state_is = let g = p.goes_on in cc

  pub memory_is : p.memory ≡ end
  unfolding outcome_of
  memory_is = let g = p.goes_on in cc

  pub is_at_handler : IsAtHandler vector current previous level interrupt t
  is_at_handler =
      subst (IsAtHandler vector current previous level interrupt) state_is
      (at_fields vector current previous level interrupt (with_register (taken (goes_to interrupt) s) 14 p.bottom) (length-set (taken (goes_to interrupt) s).core.regs 14 p.bottom ∙ taken_full (stack_in_use s.core.psl) (goes_to interrupt) s full) hc hp hl)

-- ---- pointers

pub pointers_stay : (n from to : ℕ) (s : State) (psl : Psl) → length s.core.stacks ≡ 5 → stack_in_use s.core.psl ≡ from → stack_in_use psl ≡ to → length s.core.regs ≡ 16 → from < 5 → to < 5 →
    pointer n (with_psl (switched from to s) psl) ≡ pointer n s
unfolding switched pointer
pointers_stay n from to s psl five is_from is_to full small_from small_to =
    elim (cases_eq from to) [
      | inl e ↦ rw (is_from, is_to, eq-eqb from to e, e) refl
      | inr apart ↦
          elim (cases_eq n to) [
            | inl here ↦
                let other : n ≢ from = λ h. apart (sym h ∙ here) in
                rw (is_from, is_to, ne_eqb from to apart, eq-eqb n to here, ne_eqb n from other, get_or-set_same s.core.regs 14 (slice_index s.core.stacks to) 0 (omega arith), here) refl
            | inr there ↦
                elim (cases_eq n from) [
                  | inl mine ↦
                      rw (is_from, is_to, ne_eqb from to apart, ne_eqb n to there, eq-eqb n from mine, get_or-set_other (slice_set s.core.stacks from (register s 14)) to n 0 0 there, mine)
                      (get_or-set_same s.core.stacks from (register s 14) 0 (omega arith))
                  | inr other ↦
                      rw (is_from, is_to, ne_eqb from to apart, ne_eqb n to there, ne_eqb n from other, get_or-set_other (slice_set s.core.stacks from (register s 14)) to n 0 0 there)
                      (get_or-set_other s.core.stacks from n (register s 14) 0 other)
                ]
          ]
    ]

pub pointer_by : (n : ℕ) (k w : State) → k.core.psl ≡ w.core.psl → k.core.stacks ≡ w.core.stacks → register k 14 ≡ register w 14 → pointer n k ≡ pointer n w
unfolding pointer
pointer_by n k w psl stacks sp = rw (psl, stacks, sp) refl

pub taken_five : (from to : ℕ) (s : State) → length s.core.stacks ≡ 5 → length (switched from to s).core.stacks ≡ 5
unfolding switched
taken_five from to s five =
    elim (cases_eq from to) [
      | inl e ↦ rw (eq-eqb from to e) five
      | inr n ↦ rw (ne_eqb from to n) (length-set (slice_set s.core.stacks from (register s 14)) to 0 ∙ (length-set s.core.stacks from (register s 14) ∙ five))
    ]

pub in_use_small : (psl : Psl) → stack_in_use psl < 5
unfolding stack_in_use
in_use_small psl =
    let few = mode_below psl in
    elim (cases_Bool (on_interrupt_stack psl)) [ inl so ↦ rw so (omega arith) | inr isnt ↦ rw isnt (omega arith) ]

-- the stack of a handler's status
pub in_use_is : (current previous level : ℕ) (interrupt : Bool) → current < 4 → previous < 4 → level < 32 → stack_in_use (status current previous level interrupt) ≡ cond interrupt 4 current
unfolding stack_in_use
in_use_is c p l i hc hp hl =
    let f = status_fields c p l i hc hp hl in
    rw (f.stack_is, f.current_is) refl

-- ---- REI

rei_comes : (memory : List Area) (h : State) (pc bits : ℕ) → AreThere memory (mode h) (register h 14) (pc ∷ bits ∷ []) → is_refused h.core.psl (record { 0 = bits }) ≡ false →
    outcome_of (return_exception h leaf) memory ≡ Ends (Went flow.Done (restored pc (record { 0 = bits }) h)) memory
unfolding return_exception return_from read_at outcome_of
rei_comes memory h pc bits there fine = rw (there.0, there.1, there.2.0, there.2.1, fine) refl

-- a consistent status isn't refused to a handler that may go back to it
pub may_return : (current previous level : ℕ) (interrupt : Bool) (new : Psl) → current < 4 → previous < 4 → level < 32 → current ≤ mode_of new → (on_interrupt_stack new ≡ true → interrupt ≡ true) → ipl_of new ≤ level →
    MayFollow (status current previous level interrupt) new
may_return c p l i new hc hp hl inner stack level =
    let f = status_fields c p l i hc hp hl in
    record {
      mode = subst (λ x. x ≤ mode_of new) (sym f.current_is) inner;
      stack = λ h. f.stack_is ∙ stack h;
      level = subst (λ x. ipl_of new ≤ x) (sym f.level_is) level;
    }

pub is_taken_back : (old new : Psl) → IsConsistent new → MayFollow old new → is_refused old new ≡ false
unfolding is_refused
is_taken_back old new c may =
    let inner : nat_lt (mode_of new) (mode_of old) ≡ false = le-ltb (mode_of new) (mode_of old) may.mode in
    let previous : nat_lt (prev_of new) (mode_of new) ≡ false = le-ltb (prev_of new) (mode_of new) c.previous in
    let level : nat_lt (ipl_of old) (ipl_of new) ≡ false = le-ltb (ipl_of old) (ipl_of new) may.level in
    rw (inner, previous, level, stack_fits, stack_sound, level_sound, c.middle_clear, c.between_clear, c.high_clear, c.trace_clear, c.part_clear) refl
  where
    stack_fits : (on_interrupt_stack new && not (on_interrupt_stack old)) ≡ false
    stack_fits = elim (cases_Bool (on_interrupt_stack new)) [ inl so ↦ rw (so, may.stack so) refl | inr isnt ↦ rw isnt refl ]

    stack_sound : (on_interrupt_stack new && (not (mode_of new == 0) || ipl_of new == 0)) ≡ false
    stack_sound =
        elim (cases_Bool (on_interrupt_stack new)) [
          | inl so ↦ let some = (c.stack so).1 in rw (so, (c.stack so).0, ne_eqb (ipl_of new) 0 (λ h. omega arith)) refl
          | inr isnt ↦ rw isnt refl
        ]

    level_sound : (nat_lt 0 (ipl_of new) && not (mode_of new == 0)) ≡ false
    level_sound =
        elim (cases_Bool (nat_lt 0 (ipl_of new))) [
          | inl so ↦ rw (so, c.level (ltb-true 0 (ipl_of new) so)) refl
          | inr isnt ↦ rw isnt refl
        ]

-- a handler on another stack, or on the same, once it has taken its values off
module _ (s : State) (values : List ℕ) (memory : List Area) (handler to bottom current previous level : ℕ) (interrupt : Bool) (full : length s.core.regs ≡ 16) (five : length s.core.stacks ≡ 5) (small : bottom < 2 ^ 32)
    (hc : current < 4) (hp : previous < 4) (hl : level < 32) (goes : cond interrupt 4 current ≡ to) (consistent : IsConsistent s.core.psl) (may : MayFollow (status current previous level interrupt) s.core.psl)
    (there : AreThere memory current bottom (reverse (s.core.psl.0 ∷ register s 15 ∷ values) ++ [])) (above : behind (suc (suc (length values))) bottom ≡ register (taken to s) 14) where
  abbrev new : Psl
  new = status current previous level interrupt

  abbrev entered_at : State
  entered_at = at_handler handler new (with_register (taken to s) 14 bottom)

  abbrev ready : State
  ready = without (length values) entered_at

  in_use : stack_in_use new ≡ to
  in_use = in_use_is current previous level interrupt hc hp hl ∙ goes

  full_taken : length (taken to s).core.regs ≡ 16
  full_taken = taken_full (stack_in_use s.core.psl) to s full

  full_entered : length entered_at.core.regs ≡ 16
  full_entered = length-set (with_register (taken to s) 14 bottom).core.regs 15 handler ∙ (length-set (taken to s).core.regs 14 bottom ∙ full_taken)

  full_ready : length ready.core.regs ≡ 16
  full_ready = length-set entered_at.core.regs 14 _ ∙ full_entered

  sp_entered : register entered_at 14 ≡ bottom
  sp_entered = get_or-set_other (with_register (taken to s) 14 bottom).core.regs 15 14 handler 0 (λ h. omega arith) ∙ get_or-set_same (taken to s).core.regs 14 bottom 0 (let e = full_taken in omega arith)

  sp_ready : register ready 14 ≡ behind (length values) bottom
  sp_ready =
      get_or-set_same entered_at.core.regs 14 (plus (register entered_at 14) (4 * length values)) 0 (let e = full_entered in omega arith)
      ∙ (ap (λ x. plus x (4 * length values)) sp_entered ∙ sym (behind_is (length values) bottom small))

  frame : reverse (s.core.psl.0 ∷ register s 15 ∷ values) ++ [] ≡ reverse values ++ register s 15 ∷ s.core.psl.0 ∷ []
  frame = append-nil (reverse (s.core.psl.0 ∷ register s 15 ∷ values)) ∙ reverse-append (s.core.psl.0 ∷ register s 15 ∷ []) values

  above_values : AreThere memory current (behind (length values) bottom) (register s 15 ∷ s.core.psl.0 ∷ [])
  above_values =
      subst (λ n. AreThere memory current (behind n bottom) (register s 15 ∷ s.core.psl.0 ∷ [])) (length-reverse values)
      (there_behind memory current bottom (reverse values) (register s 15 ∷ s.core.psl.0 ∷ []) (subst (AreThere memory current bottom) frame there))

  at_sp : AreThere memory (mode ready) (register ready 14) (register s 15 ∷ s.core.psl.0 ∷ [])
  at_sp =
      let f = status_fields current previous level interrupt hc hp hl in
      subst (λ m. AreThere memory m (register ready 14) (register s 15 ∷ s.core.psl.0 ∷ [])) (sym f.current_is)
      (subst (λ a. AreThere memory current a (register s 15 ∷ s.core.psl.0 ∷ [])) (sym sp_ready) above_values)

  -- behind PC and the status
  abbrev behind_frame : State
  behind_frame = with_register ready 14 (plus (register ready 14) 8)

  full_behind : length behind_frame.core.regs ≡ 16
  full_behind = length-set ready.core.regs 14 _ ∙ full_ready

  sp_behind : register behind_frame 14 ≡ register (taken to s) 14
  sp_behind =
      get_or-set_same ready.core.regs 14 (plus (register ready 14) 8) 0 (let e = full_ready in omega arith)
      ∙ (ap (λ x. plus x 8) sp_ready ∙ (eight (behind (length values) bottom) ∙ (ap (λ x. plus x 4) (sym (behind_more (length values) bottom)) ∙ (sym (behind_more (length values) (plus bottom 4)) ∙ above))))
    where
      eight : (x : ℕ) → plus x 8 ≡ plus (plus x 4) 4
      eight x = omega arith

  abbrev last : State
  last = restored (register s 15) s.core.psl ready

  pointers_back : (n : ℕ) → pointer n last ≡ pointer n s
  pointers_back n =
      pointer_by n last (with_psl (switched (stack_in_use new) (stack_in_use s.core.psl) behind_frame) s.core.psl) refl refl
      (get_or-set_other (switched (stack_in_use new) (stack_in_use s.core.psl) behind_frame).core.regs 15 14 (register s 15) 0 (λ h. omega arith))
      ∙ (pointers_stay n (stack_in_use new) (stack_in_use s.core.psl) behind_frame s.core.psl five_behind refl refl full_behind (in_use_small new) (in_use_small s.core.psl)
      ∙ (pointer_by n behind_frame (with_psl (taken to s) new) refl refl sp_behind
      ∙ pointers_stay n (stack_in_use s.core.psl) to s new five refl in_use full (in_use_small s.core.psl) (subst (λ k. k < 5) in_use (in_use_small new))))
    where
      five_behind : length behind_frame.core.stacks ≡ 5
      five_behind = taken_five (stack_in_use s.core.psl) to s five

  others_back : (n : ℕ) → n < 14 → register last n ≡ register s n
  others_back n low =
      let not_sp : n ≢ 14 = λ h. omega arith in
      let not_pc : n ≢ 15 = λ h. omega arith in
      get_or-set_other (switched (stack_in_use new) (stack_in_use s.core.psl) behind_frame).core.regs 15 n (register s 15) 0 not_pc
      ∙ (taken_others (stack_in_use new) (stack_in_use s.core.psl) n behind_frame not_sp
      ∙ (get_or-set_other ready.core.regs 14 n (plus (register ready 14) 8) 0 not_sp
      ∙ (get_or-set_other entered_at.core.regs 14 n _ 0 not_sp
      ∙ (get_or-set_other (with_register (taken to s) 14 bottom).core.regs 15 n handler 0 not_pc
      ∙ (get_or-set_other (taken to s).core.regs 14 n bottom 0 not_sp
      ∙ taken_others (stack_in_use s.core.psl) to n s not_sp)))))

  pub rei_returns : Returns (length values) s entered_at memory
  rei_returns = record {
    after = last;
    comes = rei_comes memory ready (register s 15) s.core.psl.0 at_sp (is_taken_back new s.core.psl consistent may);
    back = record {
      control = get_or-set_same (switched (stack_in_use new) (stack_in_use s.core.psl) behind_frame).core.regs 15 (register s 15) 0 full_last;
      status = refl;
      stacks = pointers_back;
      others = others_back;
    };
  }
    where
      full_last : 15 < length (switched (stack_in_use new) (stack_in_use s.core.psl) behind_frame).core.regs
      full_last = let e = taken_full (stack_in_use new) (stack_in_use s.core.psl) behind_frame full_behind in omega arith

-- ---- exceptions and interrupts

kept_stack : (vector : ℕ) (psl : Psl) → on_interrupt_stack psl ≡ true → stack_by vector psl ≡ true
kept_stack vector psl h = elim (cases_Bool (asks_interrupt_stack vector)) [ inl so ↦ rw so refl | inr isnt ↦ rw (isnt, h) refl ]

module _ (e : Exception) (s t : State) (memory end : List Area) (m : IsMachine s memory) (fit : AreWords (parameters e)) (came : outcome_of (delivery e s ends_there) memory ≡ Ends (Went flow.Done t) end) where
  abbrev vector : ℕ
  vector = vector_at memory (vector_of e)

  abbrev level : ℕ
  level = level_by vector (priority s)

  abbrev interrupt_stack : Bool
  interrupt_stack = stack_by vector s.core.psl

  few_levels : level < 32
  few_levels = level_below vector (priority s) (ipl_below s.core.psl)

  raised : IsRaised e vector s ends_there (Ends (Went flow.Done t) end)
  raised = delivery_comes e s ends_there memory (Went flow.Done t) end m fit (refuses_ending t end) came

  pub exception_handled : IsAtHandler vector 0 (mode s) level interrupt_stack t
  exception_handled =
      is_at_handler s (parameters e) vector 0 (mode s) level interrupt_stack t end m.registers (omega arith) (mode_below s.core.psl) few_levels raised

  pub exception_returns : IsConsistent s.core.psl → Returns (length (parameters e)) s t end
  exception_returns consistent =
      let p = raised in
      let hp = mode_below s.core.psl in
      let kept : on_interrupt_stack s.core.psl ≡ true → interrupt_stack ≡ true = λ h. kept_stack vector s.core.psl h in
      let may = may_return 0 (mode s) level interrupt_stack s.core.psl (omega arith) hp few_levels (omega arith) kept (level_kept vector (priority s) (ipl_below s.core.psl)) in
      let back = rei_returns s (parameters e) p.memory (vector / 4 * 4) (goes_to interrupt_stack) p.bottom 0 (mode s) level interrupt_stack m.registers m.stacks p.small (omega arith) hp few_levels refl consistent may p.there p.above in
      subst (λ u. Returns (length (parameters e)) s u end) (state_is s (parameters e) vector 0 (mode s) level interrupt_stack t end m.registers (omega arith) hp few_levels p)
      (subst (λ n. Returns (length (parameters e)) s (entered_state s (parameters e) vector 0 (mode s) level interrupt_stack t end m.registers (omega arith) hp few_levels p) n) (memory_is s (parameters e) vector 0 (mode s) level interrupt_stack t end m.registers (omega arith) hp few_levels p) back)

module _ (level : ℕ) (s t : State) (memory end : List Area) (m : IsMachine s memory) (few : level < 32) (came : outcome_of (interrupt level s ends_there) memory ≡ Ends (Went flow.Done t) end) where
  abbrev vector_there : ℕ
  vector_there = vector_at memory (interrupt_vector level)

  abbrev takes : Bool
  takes = stack_by vector_there s.core.psl

  interrupted_so : IsInterrupted level vector_there s ends_there (Ends (Went flow.Done t) end)
  interrupted_so = interrupt_comes level s ends_there memory (Went flow.Done t) end m (refuses_ending t end) came

  pub interrupt_handled : IsAtHandler vector_there 0 0 level takes t
  interrupt_handled =
      is_at_handler (served level s) [] vector_there 0 0 level takes t end (served_machine level s memory m).registers (omega arith) (omega arith) few interrupted_so

  pub interrupt_returns : IsConsistent s.core.psl → priority s < level → Returns 0 s t end
  interrupt_returns consistent above =
      let p = interrupted_so in
      let n = served_machine level s memory m in
      let same = served_untouched level s in
      let c : IsConsistent (served level s).core.psl = subst IsConsistent (sym same.psl) consistent in
      let kept : on_interrupt_stack (served level s).core.psl ≡ true → takes ≡ true = λ h. kept_stack vector_there s.core.psl (ap on_interrupt_stack (sym same.psl) ∙ h) in
      let low : ipl_of (served level s).core.psl ≤ level = subst (λ psl. ipl_of psl ≤ level) (sym same.psl) (omega arith) in
      let may = may_return 0 0 level takes (served level s).core.psl (omega arith) (omega arith) few (omega arith) kept low in
      let back = rei_returns (served level s) [] p.memory (vector_there / 4 * 4) (goes_to takes) p.bottom 0 0 level takes n.registers n.stacks p.small (omega arith) (omega arith) few refl c may p.there p.above in
      let r : Returns 0 (served level s) t end =
      subst (λ u. Returns 0 (served level s) u end) (state_is (served level s) [] vector_there 0 0 level takes t end n.registers (omega arith) (omega arith) few p)
      (subst (λ q. Returns 0 (served level s) (entered_state (served level s) [] vector_there 0 0 level takes t end n.registers (omega arith) (omega arith) few p) q) (memory_is (served level s) [] vector_there 0 0 level takes t end n.registers (omega arith) (omega arith) few p) back) in
      record {
        after = r.after;
        comes = r.comes;
        back = record {
          control = r.back.control ∙ ap (λ regs. slice_index regs 15) same.registers;
          status = r.back.status ∙ same.psl;
          stacks = λ k. r.back.stacks k ∙ pointer_by k (served level s) s same.psl same.stacks (ap (λ regs. slice_index regs 14) same.registers);
          others = λ k h. r.back.others k h ∙ ap (λ regs. slice_index regs k) same.registers;
        };
      }
