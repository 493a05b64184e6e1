-- What a delivery pushes, and where it goes on.
use Rattle.std.proofs.Common.{◌≡◌, ◌≢◌, ℕ, suc, ◌+◌, ◌-◌, ◌*◌, ◌/◌, ◌%◌, ◌^◌, ◌<◌, ◌≤◌, ◌==◌, Bool, true, false, Option, Some, None, List, [], ◌∷◌, ◌++◌, length, refl, ap, sym, subst, ◌∙◌, arith, inl, inr, append_assoc}
use Rattle.std.specs.Prelude.{reverse, if◌then◌else◌, nat_le, slice_index}
use Rattle.std.proofs.lemmas.Bool.{cases_Bool, cases_eq, eq-eqb, ne_eqb}
use Rattle.std.proofs.lemmas.List.{reverse-append, length-set, set-set, set-get_or, get_or-set_same, get_or-set_other}
use Rattle.vax_space.specs.declared.Access.TheVariants.{Read, Write}
use Rattle.vax_space.specs.declared.Area.{Area}
use Rattle.vax_space.specs.declared.Violation.{Violation}
use Rattle.vax_space.specs.Reference.{violation}
use Rattle.vax_word.specs.declared.Psl.{Psl}
use Rattle.vax_flat.specs.declared.Delivery.{Delivery}
use Rattle.vax_flat.specs.declared.Delivery.TheVariants.{Entered, Ended}
use Rattle.vax_flat.specs.declared.Ending.{Ending}
use Rattle.vax_flat.specs.declared.Ending.TheVariants as ending
use Rattle.vax_flat.specs.declared.Exception.{Exception}
use Rattle.vax_flat.specs.declared.Exception.TheVariants as exception
use Rattle.vax_flat.specs.Memory.{written, IsWhole}
use Rattle.vax_flat.specs.State.{State, register, with_register, mode, priority}
use Rattle.vax_flat.specs.Accesses.{Accesses, Leaf}
use Rattle.vax_flat.specs.Outcome.{Outcome, Ends, outcome_of, is_allowed, unless_violated}
use Rattle.vax_flat.specs.Operand.{plus, read_in, write_in, asked}
use Rattle.vax_flat.specs.Delivery.{on_interrupt_stack, stack_in_use, switched, status, at_handler, vectored, below, pushed_in, pushed_if, pushed_all, entered, dispatched, delivery, parameters, vector_of, interrupt, interrupted, interrupt_vector, served}
use Rattle.vax_flat.specs.System.{pointer}
use Rattle.vax_flat.specs.Returned.{AreThere, behind}
use Rattle.vax_flat.proofs.Memory.{whole_written}
use Rattle.vax_flat_laws.specs.Machines.{IsMachine, AreWords}
use Rattle.vax_flat_laws.specs.Handlers.{vector_at, level_by, stack_by}
use Rattle.vax_flat.proofs.Longwords.{there_more}
use Rattle.vax_flat_laws.proofs.Longwords.{decided, behind_more}

-- ---- pushes that ask first

abbrev chosen : Option Violation → Outcome Leaf → Outcome Leaf → Outcome Leaf
chosen (Some w) refused done = refused
chosen None refused done = done

pushed_at : (v : ℕ) (u : State) (k : Bool → State → Accesses Leaf) (memory : List Area) (w : Option Violation) → violation memory (below u) 4 0 Write ≡ w →
    outcome_of (pushed_if v u k) memory ≡ chosen w (outcome_of (k false u) memory) (outcome_of (k true (with_register u 14 (below u))) (written memory (below u) 4 v))
unfolding pushed_if pushed_in asked write_in outcome_of
pushed_at v u k memory (Some w) e = ap (λ x. outcome_of (if is_allowed x then pushed_in 0 v u (λ t. k true t) else k false u) memory) e
pushed_at v u k memory None e =
    ap (λ x. outcome_of (if is_allowed x then pushed_in 0 v u (λ t. k true t) else k false u) memory) e
    ∙ ap (λ x. unless_violated x (outcome_of (k true (with_register u 14 (below u))) (written memory (below u) 4 v))) e

one_pushed : (v a : ℕ) (s : State) (k : Bool → State → Accesses Leaf) (memory : List Area) (w : Option Violation) → length s.core.regs ≡ 16 → violation memory (plus a (2 ^ 32 - 4)) 4 0 Write ≡ w →
    outcome_of (pushed_if v (with_register s 14 a) k) memory
    ≡ chosen w (outcome_of (k false (with_register s 14 a)) memory) (outcome_of (k true (with_register s 14 (plus a (2 ^ 32 - 4)))) (written memory (plus a (2 ^ 32 - 4)) 4 v))
one_pushed v a s k memory w full e =
    let u = with_register s 14 a in
    let top : register u 14 ≡ a = get_or-set_same s.core.regs 14 a 0 (omega arith) in
    let fine : violation memory (below u) 4 0 Write ≡ w = ap (λ z. violation memory (plus z (2 ^ 32 - 4)) 4 0 Write) top ∙ e in
    pushed_at v u k memory w fine
    ∙ (ap (λ z. chosen w (outcome_of (k false u) memory) (outcome_of (k true (with_register u 14 (plus z (2 ^ 32 - 4)))) (written memory (plus z (2 ^ 32 - 4)) 4 v))) top
    ∙ ap (λ regs. chosen w (outcome_of (k false u) memory) (outcome_of (k true (record s { core = record s.core { regs = regs } })) (written memory (plus a (2 ^ 32 - 4)) 4 v))) (set-set s.core.regs 14 a (plus a (2 ^ 32 - 4))))

-- values that were pushed stand in memory at SP
pub record IsPushed (s : State) (values : List ℕ) (count top mode : ℕ) (tree : State → Accesses Leaf) (outcome : Outcome Leaf) : Type 0 where
  pub memory : List Area
  pub bottom : ℕ
  pub small : bottom < 2 ^ 32
  pub goes_on : outcome_of (tree (with_register s 14 bottom)) memory ≡ outcome
  pub there : AreThere memory mode bottom values
  pub above : behind count bottom ≡ top

turned : (v : ℕ) (vs ys : List ℕ) → reverse vs ++ v ∷ ys ≡ reverse (v ∷ vs) ++ ys
turned v vs ys = sym (append_assoc (reverse vs) (v ∷ []) ys) ∙ ap (λ l. l ++ ys) (sym (reverse-append (v ∷ []) vs))

pub pushes_come : (values ys : List ℕ) (a : ℕ) (s : State) (next : Bool → State → Accesses Leaf) (memory : List Area) (x : Leaf) (end : List Area) →
    IsWhole memory → length s.core.regs ≡ 16 → AreWords values → a < 2 ^ 32 → 4 * (length values + length ys) ≤ 2 ^ 32 → AreThere memory 0 a ys →
    ((t : State) (m : List Area) → outcome_of (next false t) m ≡ Ends x end → ⊥) →
    outcome_of (pushed_all values (with_register s 14 a) next) memory ≡ Ends x end → IsPushed s (reverse values ++ ys) (length values) a 0 (next true) (Ends x end)
unfolding pushed_all
pushes_come [] ys a s next memory x end whole full fit small few t refused e = record { memory = memory; bottom = a; small = small; goes_on = e; there = t; above = refl }
pushes_come (v ∷ vs) ys a s next memory x end whole full fit small few t refused e =
    let b = plus a (2 ^ 32 - 4) in
    let k : Bool → State → Accesses Leaf = λ done u. if done then pushed_all vs u next else next false u in
    elim (decided (violation memory b 4 0 Write)) [
      | inr p ↦ absurd (refused (with_register s 14 a) memory (sym (one_pushed v a s k memory (Some p.0) full p.1) ∙ e))
      | inl h ↦
          let on : outcome_of (pushed_all vs (with_register s 14 b) next) (written memory b 4 v) ≡ Ends x end = sym (one_pushed v a s k memory None full h) ∙ e in
          let here : a ≡ plus b 4 = omega arith in
          let first = there_more memory 0 b v whole (omega arith) h ys fit.0 (omega arith) (subst (λ z. AreThere memory 0 z ys) here t) in
          let rest = pushes_come vs (v ∷ ys) b s next (written memory b 4 v) x end (whole_written memory b 4 v whole) full fit.1 (omega arith) (omega arith) first refused on in
          record {
            memory = rest.memory;
            bottom = rest.bottom;
            small = rest.small;
            goes_on = rest.goes_on;
            there = subst (AreThere rest.memory 0 rest.bottom) (turned v vs ys) rest.there;
            above = behind_more (length vs) rest.bottom ∙ ap (λ z. plus z 4) rest.above ∙ sym here;
          }
    ]

-- ---- another stack

-- the stack that is taken
abbrev pub taken : ℕ → State → State
taken to s = switched (stack_in_use s.core.psl) to s

pub taken_top : (to : ℕ) (s : State) → length s.core.regs ≡ 16 → register (taken to s) 14 ≡ pointer to s
unfolding switched pointer
taken_top to s full =
    elim (cases_eq (stack_in_use s.core.psl) to) [
      | inl e ↦ rw (eq-eqb (stack_in_use s.core.psl) to e, eq-eqb to (stack_in_use s.core.psl) (sym e)) refl
      | inr n ↦ rw (ne_eqb (stack_in_use s.core.psl) to n, ne_eqb to (stack_in_use s.core.psl) (λ h. n (sym h))) (get_or-set_same s.core.regs 14 (slice_index s.core.stacks to) 0 (omega arith))
    ]

pub taken_full : (from to : ℕ) (s : State) → length s.core.regs ≡ 16 → length (switched from to s).core.regs ≡ 16
unfolding switched
taken_full from to s full =
    elim (cases_eq from to) [
      | inl e ↦ rw (eq-eqb from to e) full
      | inr n ↦ rw (ne_eqb from to n) (length-set s.core.regs 14 (slice_index s.core.stacks to) ∙ full)
    ]

pub taken_others : (from to n : ℕ) (s : State) → n ≢ 14 → register (switched from to s) n ≡ register s n
unfolding switched
taken_others from to n s other =
    elim (cases_eq from to) [
      | inl e ↦ rw (eq-eqb from to e) refl
      | inr m ↦ rw (ne_eqb from to m) (get_or-set_other s.core.regs 14 n (slice_index s.core.stacks to) 0 other)
    ]

pub pointer_small : (n : ℕ) (s : State) → ((k : ℕ) → register s k < 2 ^ 32) → ((k : ℕ) → slice_index s.core.stacks k < 2 ^ 32) → pointer n s < 2 ^ 32
unfolding pointer
pointer_small n s words kept =
    elim (cases_eq n (stack_in_use s.core.psl)) [
      | inl e ↦ rw (eq-eqb n (stack_in_use s.core.psl) e) (words 14)
      | inr m ↦ rw (ne_eqb n (stack_in_use s.core.psl) m) (kept n)
    ]

pub same_sp : (u : State) → with_register u 14 (register u 14) ≡ u
same_sp u = ap (λ regs. record u { core = record u.core { regs = regs } }) (set-get_or u.core.regs 14 0)

-- ---- the handler

abbrev pub Refuses : (Delivery → State → Accesses Leaf) → Leaf → List Area → Type 0
Refuses next x end = (e : Ending) (t : State) (m : List Area) → outcome_of (next (Ended e) t) m ≡ Ends x end → ⊥

abbrev pub goes_to : Bool → ℕ
goes_to interrupt = if interrupt then 4 else 0

-- the handler is entered with PC, the status and these values pushed
abbrev pub IsEntered : State → List ℕ → ℕ → Bool → Psl → (Delivery → State → Accesses Leaf) → Outcome Leaf → Type 0
IsEntered s values vector interrupt psl next outcome =
    IsPushed (taken (goes_to interrupt) s) (reverse (s.core.psl.0 ∷ register s 15 ∷ values) ++ []) (suc (suc (length values))) (register (taken (goes_to interrupt) s) 14) 0
    (λ u. next Entered (at_handler (vector / 4 * 4) psl u)) outcome

pub entered_comes : (values : List ℕ) (vector : ℕ) (interrupt : Bool) (psl : Psl) (s : State) (next : Delivery → State → Accesses Leaf) (memory : List Area) (x : Leaf) (end : List Area) →
    IsMachine s memory → AreWords values → length values ≤ 2 → Refuses next x end → outcome_of (entered values vector interrupt psl s next) memory ≡ Ends x end → IsEntered s values vector interrupt psl next (Ends x end)
unfolding entered
entered_comes values vector interrupt psl s next memory x end m fit few refuses e =
    let to = goes_to interrupt in
    let u = taken to s in
    let all : List ℕ = s.core.psl.0 ∷ register s 15 ∷ values in
    let k : Bool → State → Accesses Leaf = λ done t. if done then next Entered (at_handler (vector / 4 * 4) psl t) else next (Ended ending.Stack) t in
    let full = taken_full (stack_in_use s.core.psl) to s m.registers in
    let small : register u 14 < 2 ^ 32 = subst (λ z. z < 2 ^ 32) (sym (taken_top to s m.registers)) (pointer_small to s m.words m.pointers) in
    let on : outcome_of (pushed_all all (with_register u 14 (register u 14)) k) memory ≡ Ends x end = ap (λ t. outcome_of (pushed_all all t k) memory) (same_sp u) ∙ e in
    pushes_come all [] (register u 14) u k memory x end m.whole full (m.status, (m.words 15, fit)) small (omega arith) tt (λ t n. refuses ending.Stack t n) on

-- ---- the vector

pub vector_read : (offset : ℕ) (s : State) (next : Option ℕ → State → Accesses Leaf) (memory : List Area) (w : Option Violation) → violation memory (2 ^ 31 + offset) 4 0 Read ≡ w →
    outcome_of (vectored offset s next) memory ≡ chosen w (outcome_of (next None s) memory) (outcome_of (next (Some (vector_at memory offset)) s) memory)
unfolding vectored asked read_in outcome_of
vector_read offset s next memory (Some w) e = ap (λ x. outcome_of (if is_allowed x then read_in (2 ^ 31 + offset) 4 0 s (λ vector u. next (Some vector) u) else next None s) memory) e
vector_read offset s next memory None e =
    ap (λ x. outcome_of (if is_allowed x then read_in (2 ^ 31 + offset) 4 0 s (λ vector u. next (Some vector) u) else next None s) memory) e
    ∙ ap (λ x. unless_violated x (outcome_of (next (Some (vector_at memory offset)) s) memory)) e

pub vector_comes : (offset : ℕ) (s : State) (next : Option ℕ → State → Accesses Leaf) (memory : List Area) (x : Leaf) (end : List Area) →
    (outcome_of (next None s) memory ≡ Ends x end → ⊥) → outcome_of (vectored offset s next) memory ≡ Ends x end → outcome_of (next (Some (vector_at memory offset)) s) memory ≡ Ends x end
vector_comes offset s next memory x end refuses e =
    elim (decided (violation memory (2 ^ 31 + offset) 4 0 Read)) [
      | inl h ↦ sym (vector_read offset s next memory None h) ∙ e
      | inr p ↦ absurd (refuses (sym (vector_read offset s next memory (Some p.0) p.1) ∙ e))
    ]

-- ---- exceptions

-- the handler of an exception by its vector
abbrev pub IsRaised : Exception → ℕ → State → (Delivery → State → Accesses Leaf) → Outcome Leaf → Type 0
IsRaised e vector s next outcome =
    IsEntered s (parameters e) vector (stack_by vector s.core.psl) (status 0 (mode s) (level_by vector (priority s)) (stack_by vector s.core.psl)) next outcome

few_parameters : (e : Exception) → length (parameters e) ≤ 2
unfolding parameters
few_parameters exception.Privileged = omega arith
few_parameters exception.Customer = omega arith
few_parameters exception.Operand = omega arith
few_parameters exception.Mode = omega arith
few_parameters (exception.Access v) = omega arith
few_parameters exception.Breakpoint = omega arith
few_parameters (exception.Arithmetic kind) = omega arith

module _ (e : Exception) (s : State) (next : Delivery → State → Accesses Leaf) (memory : List Area) (x : Leaf) (end : List Area) (m : IsMachine s memory) (fit : AreWords (parameters e)) (refuses : Refuses next x end) where
  dispatched_comes : (vector : ℕ) → outcome_of (dispatched e (Some vector) s next) memory ≡ Ends x end → IsRaised e vector s next (Ends x end)
  unfolding dispatched
  dispatched_comes vector came =
      elim (cases_Bool (nat_le 2 (vector % 4))) [
        | inl high ↦ absurd (refuses _ s memory (rw high at came))
        | inr low ↦
            elim (cases_Bool (vector % 4 == 1)) [
              | inl one ↦ rw one (entered_comes (parameters e) vector true _ s next memory x end m fit (few_parameters e) refuses (rw (low, one) at came))
              | inr other ↦ rw other (entered_comes (parameters e) vector (on_interrupt_stack s.core.psl) _ s next memory x end m fit (few_parameters e) refuses (rw (low, other) at came))
            ]
      ]

  pub delivery_comes : outcome_of (delivery e s next) memory ≡ Ends x end → IsRaised e (vector_at memory (vector_of e)) s next (Ends x end)
  unfolding delivery dispatched
  delivery_comes came =
      dispatched_comes (vector_at memory (vector_of e)) (vector_comes (vector_of e) s (λ vector t. dispatched e vector t next) memory x end (refuses _ s memory) came)

-- ---- interrupts

abbrev pub IsInterrupted : ℕ → ℕ → State → (Delivery → State → Accesses Leaf) → Outcome Leaf → Type 0
IsInterrupted level vector s next outcome =
    IsEntered (served level s) [] vector (stack_by vector s.core.psl) (status 0 0 level (stack_by vector s.core.psl)) next outcome

-- taking back a request changes nothing that a delivery looks at
pub record IsUntouched (s t : State) : Type 0 where
  pub registers : t.core.regs ≡ s.core.regs
  pub stacks : t.core.stacks ≡ s.core.stacks
  pub psl : t.core.psl ≡ s.core.psl

pub served_untouched : (level : ℕ) (s : State) → IsUntouched s (served level s)
unfolding served
served_untouched level s =
    elim (cases_Bool (level == 22)) [
      | inl so ↦ rw so (record { registers = refl; stacks = refl; psl = refl })
      | inr isnt ↦ rw isnt (record { registers = refl; stacks = refl; psl = refl })
    ]

pub served_machine : (level : ℕ) (s : State) (memory : List Area) → IsMachine s memory → IsMachine (served level s) memory
unfolding served
served_machine level s memory m =
    elim (cases_Bool (level == 22)) [
      | inl so ↦ rw so (record { whole = m.whole; registers = m.registers; stacks = m.stacks; words = m.words; pointers = m.pointers; status = m.status })
      | inr isnt ↦ rw isnt (record { whole = m.whole; registers = m.registers; stacks = m.stacks; words = m.words; pointers = m.pointers; status = m.status })
    ]

module _ (level : ℕ) (s : State) (next : Delivery → State → Accesses Leaf) (memory : List Area) (x : Leaf) (end : List Area) (m : IsMachine s memory) (refuses : Refuses next x end) where
  interrupted_comes : (vector : ℕ) → outcome_of (interrupted level (Some vector) s next) memory ≡ Ends x end → IsInterrupted level vector s next (Ends x end)
  unfolding interrupted
  interrupted_comes vector came =
      elim (cases_Bool (nat_le 2 (vector % 4))) [
        | inl high ↦ absurd (refuses _ s memory (rw high at came))
        | inr low ↦ entered_comes [] vector (stack_by vector s.core.psl) _ (served level s) next memory x end (served_machine level s memory m) tt (omega arith) refuses (rw low at came)
      ]

  pub interrupt_comes : outcome_of (interrupt level s next) memory ≡ Ends x end → IsInterrupted level (vector_at memory (interrupt_vector level)) s next (Ends x end)
  unfolding interrupt interrupted
  interrupt_comes came =
      interrupted_comes (vector_at memory (interrupt_vector level)) (vector_comes (interrupt_vector level) s (λ vector t. interrupted level vector t next) memory x end (refuses _ s memory) came)
