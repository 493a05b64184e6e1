-- Requests, and the clock.
use Rattle.std.proofs.Common.{◌≡◌, ◌≢◌, ℕ, suc, zero, ◌+◌, ◌-◌, ◌*◌, ◌/◌, ◌%◌, ◌^◌, ◌<◌, ◌≤◌, Bool, true, false, List, min, max, refl, ap, sym, subst, ◌∙◌, arith, inl, inr, w16}
use Rattle.std.specs.Prelude.{◌&&◌}
use Rattle.std.specs.Int.{bit_at}
use Rattle.std.specs.Int.Bits.{bit_and}
use Rattle.std.proofs.lemmas.Bool.{cases_Bool, cases_eq, cases_lt, eq-eqb, ne_eqb, eqb-true, eqb-false, lt-ltb, le-ltb, true≢false}
use Rattle.std.proofs.lemmas.Nat.{pow_below}
use Rattle.std.proofs.lemmas.Nat.Bits.{bit_at_and, bit_at_or, bit_at_not, bit_at-pow_same, bit_at-pow_other, bit_at-lt}
use Rattle.vax_space.specs.declared.Area.{Area}
use Rattle.vax_word.specs.declared.Core.{Core}
use Rattle.vax_word.specs.Status.{is_one}
use Rattle.vax_flat.specs.declared.Delivery.{Delivery}
use Rattle.vax_flat.specs.declared.Exception.{Exception}
use Rattle.vax_flat.specs.declared.Exception.TheVariants.{Arithmetic}
use Rattle.vax_flat.specs.declared.Flow.TheVariants as flow
use Rattle.vax_flat.specs.declared.Trap.{Trap}
use Rattle.vax_flat.specs.declared.Trap.TheVariants as trap
use Rattle.vax_flat.specs.State.{State, with_register, mode, priority}
use Rattle.vax_flat.specs.Accesses.{Accesses, Leaf, Went}
use Rattle.vax_flat.specs.Outcome.{Ends, outcome_of}
use Rattle.vax_flat.specs.Delivery.{stack_in_use, switched, status, at_handler, served, interrupt, interrupt_vector, parameters, vector_of}
use Rattle.vax_flat.specs.System.{requested}
use Rattle.vax_flat.specs.Step.{highest, level, ticked, handed_over, finished, leaf, delivered, whole_delivery}
use Rattle.vax_flat_laws.specs.Machines.{IsMachine, AreWords}
use Rattle.vax_flat_laws.specs.Handlers.{vector_at, ends_there, level_by, stack_by}
use Rattle.vax_flat_laws.specs.Requests.{IsHighest, IsTakenBack, IsClockTakenBack, IsRequested, IsCounted}
use Rattle.vax_flat_laws.proofs.Entering.{IsInterrupted, IsRaised, Refuses, taken, goes_to, delivery_comes, interrupt_comes}
use Rattle.vax_flat_laws.proofs.Handling.{refuses_ending}

-- a bit that is tested
one_is : (x k : ℕ) → is_one x k ≡ true → bit_at x k ≡ 1
one_is x k h = eqb-true (bit_at x k) 1 h

none_is : (x k : ℕ) → is_one x k ≡ false → bit_at x k ≡ 0
none_is x k h = let other = eqb-false (bit_at x k) 1 h in let few = bit_at-lt x k in zero_of (bit_at x k) few other
  where
    zero_of : (b : ℕ) → b < 2 → (b ≡ 1 → ⊥) → b ≡ 0
    zero_of b few other = omega arith

is_tested : (x k : ℕ) → bit_at x k ≡ 1 → is_one x k ≡ true
is_tested x k h = eq-eqb (bit_at x k) 1 h

isnt_tested : (x k : ℕ) → bit_at x k ≡ 0 → is_one x k ≡ false
isnt_tested x k h = ne_eqb (bit_at x k) 1 (λ e. omega arith)

-- ---- the highest request

record IsHighestOf (most requests level : ℕ) : Type 0 where
  few : level ≤ most
  requested_is : 0 < level → bit_at requests level ≡ 1
  others : (k : ℕ) → level < k → k ≤ most → bit_at requests k ≡ 0

highest_of : (most requests : ℕ) → IsHighestOf most requests (highest most requests)
unfolding highest
highest_of zero requests = record { few = omega arith; requested_is = λ h. absurd (omega arith); others = λ k h l. absurd (omega arith) }
highest_of (suc most) requests =
    elim (cases_Bool (is_one requests (suc most))) [
      | inl so ↦ rw so (record { few = omega arith; requested_is = λ h. one_is requests (suc most) so; others = λ k h l. absurd (omega arith) })
      | inr isnt ↦
          let rest = highest_of most requests in
          rw isnt (record {
            few = (let f = rest.few in omega arith);
            requested_is = rest.requested_is;
            others = λ k h l.
                elim (cases_eq k (suc most)) [
                  | inl e ↦ subst (λ j. bit_at requests j ≡ 0) (sym e) (none_is requests (suc most) isnt)
                  | inr apart ↦ rest.others k h (omega arith)
                ];
          })
    ]

pub software_highest : (core : Core) → (is_one core.iccs 6 && is_one core.iccs 7) ≡ false → IsHighest core.sisr (level core)
unfolding level
software_highest core h =
    let top = highest_of 15 core.sisr in
    rw h (record { few = top.few; requested = top.requested_is; others = top.others })

pub clock_first : (core : Core) → (is_one core.iccs 6 && is_one core.iccs 7) ≡ true → level core ≡ 22
unfolding level
clock_first core h = rw h refl

-- ---- a request of a level

pub requested_is : (most : ℕ) (s : State) → IsRequested most s.core (requested most s).core
unfolding requested
requested_is most s =
    elim (cases_eq most 0) [
      | inl e ↦ rw (eq-eqb most 0 e) (record { none = λ h. refl; own = λ h. absurd (omega arith); others = λ k h. refl })
      | inr some ↦
          rw (ne_eqb most 0 some) (record {
            none = λ h. absurd (some h);
            own = λ h. bit_at_or s.core.sisr (2 ^ most) most ∙ (ap (max (bit_at s.core.sisr most)) (bit_at-pow_same most) ∙ top_bit (bit_at s.core.sisr most) (bit_at-lt s.core.sisr most));
            others = λ k h. bit_at_or s.core.sisr (2 ^ most) k ∙ (ap (max (bit_at s.core.sisr k)) (bit_at-pow_other most k h) ∙ same_bit (bit_at s.core.sisr k));
          })
    ]
  where
    top_bit : (b : ℕ) → b < 2 → max b 1 ≡ 1
    top_bit b h = omega arith

    same_bit : (b : ℕ) → max b 0 ≡ b
    same_bit b = omega arith

-- ---- what a delivery leaves of requests and the clock

record IsKept (before after : Core) : Type 0 where
  requests : after.sisr ≡ before.sisr
  timer : after.iccs ≡ before.iccs
  clock : after.clock ≡ before.clock

switched_kept : (from to : ℕ) (s : State) → IsKept s.core (switched from to s).core
unfolding switched
switched_kept from to s =
    elim (cases_eq from to) [
      | inl e ↦ rw (eq-eqb from to e) (record { requests = refl; timer = refl; clock = refl })
      | inr n ↦ rw (ne_eqb from to n) (record { requests = refl; timer = refl; clock = refl })
    ]

cleared_own : (x level : ℕ) → level < 16 → bit_at (bit_and x (2 ^ 16 - 1 - 2 ^ level)) level ≡ 0
cleared_own x level few =
    let small : 2 ^ level < 2 ^ 16 = pow_below level 16 few in
    bit_at_and x (2 ^ 16 - 1 - 2 ^ level) level
    ∙ (ap (min (bit_at x level)) (bit_at_not w16 (2 ^ level) level small few ∙ ap (λ b. 1 - b) (bit_at-pow_same level)) ∙ none (bit_at x level))
  where
    none : (b : ℕ) → min b (1 - 1) ≡ 0
    none b = omega arith

cleared_other : (x level k : ℕ) → level < 16 → k < 16 → k ≢ level → bit_at (bit_and x (2 ^ 16 - 1 - 2 ^ level)) k ≡ bit_at x k
cleared_other x level k few within apart =
    let small : 2 ^ level < 2 ^ 16 = pow_below level 16 few in
    bit_at_and x (2 ^ 16 - 1 - 2 ^ level) k
    ∙ (ap (min (bit_at x k)) (bit_at_not w16 (2 ^ level) k small within ∙ ap (λ b. 1 - b) (bit_at-pow_other level k apart)) ∙ same (bit_at x k) (bit_at-lt x k))
  where
    same : (b : ℕ) → b < 2 → min b (1 - 0) ≡ b
    same b h = omega arith

served_software : (level : ℕ) (s : State) → level ≤ 15 → IsTakenBack level s.core (served level s).core
unfolding served
served_software level s few =
    rw (ne_eqb level 22 (λ h. omega arith)) (record {
      own = cleared_own s.core.sisr level (omega arith);
      others = λ k within apart. cleared_other s.core.sisr level k (omega arith) within apart;
      timer = refl;
      clock = refl;
    })

served_clock : (s : State) → IsClockTakenBack s.core (served 22 s).core
unfolding served
served_clock s = record { own = omega arith; others = omega arith; clock = refl; requests = refl }

module _ (level : ℕ) (s t : State) (memory end : List Area) (m : IsMachine s memory) (came : outcome_of (interrupt level s ends_there) memory ≡ Ends (Went flow.Done t) end) where
  abbrev vector : ℕ
  vector = vector_at memory (interrupt_vector level)

  abbrev takes_stack : Bool
  takes_stack = stack_by vector s.core.psl

  pushed : IsInterrupted level vector s ends_there (Ends (Went flow.Done t) end)
  pushed = interrupt_comes level s ends_there memory (Went flow.Done t) end m (refuses_ending t end) came

  at : at_handler (vector / 4 * 4) (status 0 0 level takes_stack) (with_register (taken (goes_to takes_stack) (served level s)) 14 pushed.bottom) ≡ t
  unfolding outcome_of
  at = let g = pushed.goes_on in cc

  kept_behind : IsKept (served level s).core t.core
  kept_behind =
      let k = switched_kept (stack_in_use (served level s).core.psl) (goes_to takes_stack) (served level s) in
      subst (λ u. IsKept (served level s).core u.core) at (record { requests = k.requests; timer = k.timer; clock = k.clock })

  pub software_taken_back : level ≤ 15 → IsTakenBack level s.core t.core
  software_taken_back few =
      let k = kept_behind in
      let b = served_software level s few in
      record {
        own = ap (λ x. bit_at x level) k.requests ∙ b.own;
        others = λ j within apart. ap (λ x. bit_at x j) k.requests ∙ b.others j within apart;
        timer = k.timer ∙ b.timer;
        clock = k.clock ∙ b.clock;
      }

pub clock_taken_back : (s t : State) (memory end : List Area) → IsMachine s memory → outcome_of (interrupt 22 s ends_there) memory ≡ Ends (Went flow.Done t) end → IsClockTakenBack s.core t.core
clock_taken_back s t memory end m came =
    let k = kept_behind 22 s t memory end m came in
    let b = served_clock s in
    record {
      own = ap (λ x. bit_at x 7) k.timer ∙ b.own;
      others = ap (λ x. x % 2 ^ 7) k.timer ∙ b.others;
      clock = k.clock ∙ b.clock;
      requests = k.requests ∙ b.requests;
    }

-- ---- the clock

timer_out : (iccs : ℕ) → (bit_at (iccs % 128 + 128) 7 ≡ 1) × ((iccs % 128 + 128) % 2 ^ 7 ≡ iccs % 2 ^ 7)
timer_out iccs = (omega arith, omega arith)

pub ticked_counts : (s : State) → IsCounted s.core.iccs s.core.clock (ticked s).core
unfolding ticked
ticked_counts s =
    elim (cases_Bool (is_one s.core.iccs 6)) [
      | inl on ↦
          elim (cases_lt s.core.clock 999) [
            | inl before ↦
                rw (on, lt-ltb s.core.clock 999 before) (record {
                  off = λ h. absurd (true≢false (sym on ∙ isnt_tested s.core.iccs 6 h));
                  on = λ h l. (refl, refl);
                  out = λ h l. absurd (omega arith);
                })
            | inr last ↦
                rw (on, le-ltb s.core.clock 999 last) (record {
                  off = λ h. absurd (true≢false (sym on ∙ isnt_tested s.core.iccs 6 h));
                  on = λ h l. absurd (omega arith);
                  out = λ h l. ((timer_out s.core.iccs).0, (timer_out s.core.iccs).1, refl);
                })
          ]
      | inr off ↦
          rw off (record {
            off = λ h. (refl, refl);
            on = λ h l. absurd (true≢false (sym (is_tested s.core.iccs 6 h) ∙ off));
            out = λ h l. absurd (true≢false (sym (is_tested s.core.iccs 6 h) ∙ off));
          })
    ]

-- what follows a delivery in a step
abbrev handing : Delivery → State → Accesses Leaf
handing how u = handed_over how u leaf

refuses_handing : (t : State) (end : List Area) → Refuses handing (Went flow.Done t) end
unfolding handed_over outcome_of
refuses_handing t end e u m same = cc

module _ (e : Exception) (s t : State) (memory end : List Area) (m : IsMachine s memory) (fit : AreWords (parameters e)) (came : outcome_of (whole_delivery e s) memory ≡ Ends (Went flow.Done t) end) where
  abbrev to_vector : ℕ
  to_vector = vector_at memory (vector_of e)

  abbrev on_stack : Bool
  on_stack = stack_by to_vector s.core.psl

  handed : IsRaised e to_vector s handing (Ends (Went flow.Done t) end)
  unfolding delivered
  handed = delivery_comes e s handing memory (Went flow.Done t) end m fit (refuses_handing t end) came

  abbrev there : State
  there = at_handler (to_vector / 4 * 4) (status 0 (mode s) (level_by to_vector (priority s)) on_stack) (with_register (taken (goes_to on_stack) s) 14 handed.bottom)

  ticked_there : ticked there ≡ t
  unfolding handed_over outcome_of
  ticked_there = let g = handed.goes_on in cc

  pub exception_counted : IsCounted s.core.iccs s.core.clock t.core
  exception_counted =
      let k = switched_kept (stack_in_use s.core.psl) (goes_to on_stack) s in
      subst (λ u. IsCounted s.core.iccs s.core.clock u.core) ticked_there
      (subst (λ iccs. IsCounted iccs s.core.clock (ticked there).core) k.timer
      (subst (λ clock. IsCounted (switched (stack_in_use s.core.psl) (goes_to on_stack) s).core.iccs clock (ticked there).core) k.clock (ticked_counts there)))

trap_fits : (kind : Trap) → AreWords (parameters (Arithmetic kind))
unfolding parameters
trap_fits trap.IntegerOverflow = (omega arith, tt)
trap_fits trap.IntegerDivide = (omega arith, tt)
trap_fits trap.SubscriptRange = (omega arith, tt)

pub trap_counted : (kind : Trap) (s t : State) (memory end : List Area) → IsMachine s memory → outcome_of (finished (flow.Trap kind) s leaf) memory ≡ Ends (Went flow.Done t) end → IsCounted s.core.iccs s.core.clock t.core
unfolding finished delivered parameters
trap_counted kind s t memory end m came = exception_counted (Arithmetic kind) s t memory end m (trap_fits kind) came

pub instruction_counted : (s t : State) (memory end : List Area) → outcome_of (finished flow.Done s leaf) memory ≡ Ends (Went flow.Done t) end → IsCounted s.core.iccs s.core.clock t.core
unfolding finished outcome_of
instruction_counted s t memory end came = let e : ticked s ≡ t = cc in subst (λ u. IsCounted s.core.iccs s.core.clock u.core) e (ticked_counts s)
