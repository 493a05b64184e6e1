-- RET gives back what a call's frame holds.
use Rattle.std.proofs.Common.{◌≡◌, ℕ, suc, zero, ◌+◌, ◌-◌, ◌*◌, ◌/◌, ◌%◌, ◌^◌, ◌<◌, ◌≤◌, ◌==◌, Bool, true, false, cond, List, [], ◌∷◌, ◌++◌, length, map, refl, ap, sym, subst, ◌∙◌, inl, inr, arith}
use Rattle.std.specs.Prelude.{reverse}
use Rattle.std.specs.List.{filter, range_with_len, list_any}
use Rattle.std.proofs.Math.Pow.{mod-mod-pow}
use Rattle.std.proofs.lemmas.Nat.{field_of}
use Rattle.std.proofs.lemmas.Bool.{cases_eq, eq-eqb, ne_eqb}
use Rattle.std.proofs.lemmas.Bool.Decides.{nat_tests}
use Rattle.std.proofs.lemmas.List.{length-map, length-reverse, map-append, reverse-append, reverse-reverse, get_or-set_same, get_or-set_other, length-set}
use Rattle.vax_word.specs.declared.Psl.{Psl}
use Rattle.vax_word.specs.Status.{field, is_one}
use Rattle.vax_space.specs.declared.Area.{Area}
use Rattle.vax_flat.specs.declared.Flow.TheVariants as flow
use Rattle.vax_flat.specs.State.{State, register, with_register, with_psl, mode}
use Rattle.vax_flat.specs.Accesses.{Accesses, Leaf}
use Rattle.vax_flat.specs.Outcome.{Outcome, outcome_of}
use Rattle.vax_flat.specs.Operand.{plus, read_at}
use Rattle.vax_flat.specs.Call.{popped_from, named, linked, with_registers, restored, frame_word, frame, is_status, return_status, behind_arguments, unwound, return_from}
use Rattle.vax_flat.specs.Step.{leaf}
use Rattle.vax_flat.specs.Returned.{AreThere, behind, with_caller, caller_status}

-- a frame from its lowest longword up

turned_map : (f : ℕ → ℕ) (xs : List ℕ) → map f (reverse xs) ≡ reverse (map f xs)
turned_map f [] = refl
turned_map f (x ∷ xs) =
    ap (map f) (reverse-append (x ∷ []) xs)
    ∙ map-append f (reverse xs) (x ∷ [])
    ∙ ap (λ l. l ++ f x ∷ []) (turned_map f xs)
    ∙ sym (reverse-append (f x ∷ []) (map f xs))

upwards : (mask word : ℕ) (s : State) → reverse (frame mask word s) ≡ 0 ∷ word ∷ map (register s) (linked mask)
unfolding frame
upwards mask word s =
    reverse-append (map (register s) (reverse (linked mask))) (word ∷ 0 ∷ [])
    ∙ ap (λ xs. 0 ∷ word ∷ xs) (ap reverse (turned_map (register s) (linked mask)) ∙ reverse-reverse (map (register s) (linked mask)))

-- what the longword says

-- a bit of the registers' mask
bit_same : (mask k : ℕ) → k < 12 → is_one (mask % 2 ^ 12) k ≡ is_one mask k
bit_same mask k h =
    let j = 11 - k in
    let e : j + 1 + k ≡ 12 = omega arith in
    let same : mask % 2 ^ 12 / 2 ^ k % 2 ^ 1 ≡ mask / 2 ^ k % 2 ^ 1 =
    ap (λ w. mask % 2 ^ w / 2 ^ k % 2 ^ 1) (sym e) ∙ ap (λ x. x % 2 ^ 1) (field_of mask (j + 1) k) ∙ mod-mod-pow (mask / 2 ^ k) j 1 in
    ap (λ x. x == 1) same

filter_same : (p q : ℕ → Bool) (a count : ℕ) → ((k : ℕ) → k < a + count → p k ≡ q k) → filter p (range_with_len a count) ≡ filter q (range_with_len a count)
filter_same p q a zero same = refl
filter_same p q a (suc count) same =
    ap (λ b. cond b (a ∷ filter p (range_with_len (a + 1) count)) (filter p (range_with_len (a + 1) count))) (same a (omega arith))
    ∙ ap (λ xs. cond (q a) (a ∷ xs) xs) (filter_same p q (a + 1) count (λ k h. same k (omega arith)))

linked_same : (mask : ℕ) → linked (mask % 2 ^ 12) ≡ linked mask
unfolding named
linked_same mask = ap (λ ns. 12 ∷ 13 ∷ 15 ∷ ns) (filter_same (is_one (mask % 2 ^ 12)) (is_one mask) 0 12 (λ k h. bit_same mask k (omega arith)))

module _ (offset mask : ℕ) (psl : Psl) (few : offset < 4) where
  mask_of_word : (on_stack : Bool) → field (frame_word offset on_stack mask psl) 16 12 ≡ mask % 2 ^ 12
  unfolding frame_word
  mask_of_word true = omega arith
  mask_of_word false = omega arith

  offset_of_word : (on_stack : Bool) → field (frame_word offset on_stack mask psl) 30 2 ≡ offset
  unfolding frame_word
  offset_of_word true = omega arith
  offset_of_word false = omega arith

  stack_of_word : (on_stack : Bool) → is_one (frame_word offset on_stack mask psl) 29 ≡ on_stack
  unfolding frame_word
  stack_of_word true = grind (arith, nat_tests)
  stack_of_word false = grind (arith, nat_tests)

  is_status_of_word : (on_stack : Bool) → field psl.0 8 8 ≡ 0 → is_status (frame_word offset on_stack mask psl) ≡ true
  unfolding frame_word is_status
  is_status_of_word true h = grind (arith, nat_tests)
  is_status_of_word false h = grind (arith, nat_tests)

  pub status_of_word : (on_stack : Bool) (other : Psl) → return_status (frame_word offset on_stack mask psl) other ≡ caller_status psl other
  unfolding frame_word return_status
  status_of_word true other = let e : frame_word offset true mask psl % 2 ^ 16 ≡ 2 ^ 5 * field psl.0 5 11 = omega arith in ap (λ x. record { 0 = 2 ^ 16 * field other.0 16 16 + x }) e
  status_of_word false other = let e : frame_word offset false mask psl % 2 ^ 16 ≡ 2 ^ 5 * field psl.0 5 11 = omega arith in ap (λ x. record { 0 = 2 ^ 16 * field other.0 16 16 + x }) e

-- what is popped

popped : (memory : List Area) (xs : List ℕ) (count addr : ℕ) (s : State) (next : List ℕ → ℕ → State → Accesses Leaf) → count ≡ length xs → AreThere memory (mode s) addr xs → outcome_of (popped_from count addr s next) memory ≡ outcome_of (next xs (behind count addr) s) memory
unfolding popped_from read_at outcome_of
popped memory [] zero addr s next e there = refl
popped memory [] (suc count) addr s next e there = absurd (omega arith)
popped memory (x ∷ xs) zero addr s next e there = absurd (omega arith)
popped memory (x ∷ xs) (suc count) addr s next e there =
    rw (there.0, there.1) (popped memory xs count (plus addr 4) s (λ ys. next (x ∷ ys)) (omega arith) there.2)

two_behind : (addr : ℕ) → plus (plus addr 4) 4 ≡ plus addr 8
two_behind addr = omega arith

module _ (memory : List Area) (caller s : State) (mask offset : ℕ) (on_stack : Bool) (few : offset < 4) where
  abbrev word : ℕ
  word = frame_word offset on_stack mask caller.core.psl

  abbrev unwinding : List ℕ → Bool → ℕ → Outcome Leaf
  unwinding ns arguments moved =
      outcome_of (restored ns (plus (register s 13) 8) s (λ end t. behind_arguments arguments (plus end moved) t (λ top t. leaf flow.Done (with_psl (with_register t 14 top) (return_status word t.core.psl))))) memory

  -- behind so many longwords of a frame
  abbrev pub returned : ℕ → Outcome Leaf
  returned count =
      outcome_of (behind_arguments on_stack (plus (behind count (register s 13)) offset) (with_caller mask caller s) (λ top t. leaf flow.Done (with_psl (with_register t 14 top) (return_status word t.core.psl)))) memory

  unwound_frame : AreThere memory (mode s) (plus (register s 13) 8) (map (register caller) (linked mask)) → outcome_of (unwound word s leaf) memory ≡ returned (suc (suc (length (map (register caller) (linked mask)))))
  unfolding unwound restored
  unwound_frame there =
      ap (λ m. unwinding (linked m) (is_one word 29) (field word 30 2)) (mask_of_word offset mask caller.core.psl few on_stack)
      ∙ ap (λ ns. unwinding ns (is_one word 29) (field word 30 2)) (linked_same mask)
      ∙ ap (λ b. unwinding (linked mask) b (field word 30 2)) (stack_of_word offset mask caller.core.psl few on_stack)
      ∙ ap (λ o. unwinding (linked mask) on_stack o) (offset_of_word offset mask caller.core.psl few on_stack)
      ∙ popped memory (map (register caller) (linked mask)) (length (linked mask)) (plus (register s 13) 8) s _ (sym (length-map (linked mask) (register caller))) there
      ∙ ap (λ a. outcome_of (behind_arguments on_stack (plus a offset) (with_caller mask caller s) (λ top t. leaf flow.Done (with_psl (with_register t 14 top) (return_status word t.core.psl)))) memory)
      (ap (λ n. behind n (plus (register s 13) 8)) (sym (length-map (linked mask) (register caller))) ∙ ap (behind (length (map (register caller) (linked mask)))) (sym (two_behind (register s 13))))

  pub frame_returned : field caller.core.psl.0 8 8 ≡ 0 → AreThere memory (mode s) (register s 13) (reverse (frame mask word caller)) → outcome_of (return_from s leaf) memory ≡ returned (length (frame mask word caller))
  unfolding return_from read_at outcome_of
  frame_returned clear there =
      let up = upwards mask word caller in
      let all : AreThere memory (mode s) (register s 13) (0 ∷ word ∷ map (register caller) (linked mask)) = subst (AreThere memory (mode s) (register s 13)) up there in
      let fine : is_status word ≡ true = is_status_of_word offset mask caller.core.psl few on_stack clear in
      let above : AreThere memory (mode s) (plus (register s 13) 8) (map (register caller) (linked mask)) = subst (λ a. AreThere memory (mode s) a (map (register caller) (linked mask))) (two_behind (register s 13)) all.2.2 in
      let long : length (frame mask word caller) ≡ suc (suc (length (map (register caller) (linked mask)))) = sym (length-reverse (frame mask word caller)) ∙ ap length up in
      rw (all.2.0, all.2.1, fine) (unwound_frame above ∙ ap returned (sym long))

-- the registers that a frame gives back

pub set_register : (s : State) (n k value : ℕ) → length s.core.regs ≡ 16 → k < 16 → register (with_register s k value) n ≡ cond (k == n) value (register s n)
set_register s n k value full small =
    elim (cases_eq k n) [
      | inl e ↦ rw (eq-eqb k n e) (subst (λ m. register (with_register s k value) m ≡ value) e (get_or-set_same s.core.regs k value 0 (omega arith)))
      | inr apart ↦ rw (ne_eqb k n apart) (get_or-set_other s.core.regs k n value 0 (λ e. apart (sym e)))
    ]

abbrev AreBelow : List ℕ → Type 0
AreBelow [] = Unit {0}
AreBelow (k ∷ ks) = (k < 16) × AreBelow ks

kept_below : (p : ℕ → Bool) (a count : ℕ) → a + count ≤ 16 → AreBelow (filter p (range_with_len a count))
kept_below p a zero h = tt
kept_below p a (suc count) h =
    elim (p a) as (λ (b : Bool). AreBelow (cond b (a ∷ filter p (range_with_len (a + 1) count)) (filter p (range_with_len (a + 1) count)))) [
      | true ↦ (omega arith, kept_below p (a + 1) count (omega arith))
      | false ↦ kept_below p (a + 1) count (omega arith)
    ]

linked_below : (mask : ℕ) → AreBelow (linked mask)
unfolding named
linked_below mask = (omega arith, (omega arith, (omega arith, kept_below (is_one mask) 0 12 (omega arith))))

given : (ks : List ℕ) (f : ℕ → ℕ) (s : State) (n : ℕ) → length s.core.regs ≡ 16 → AreBelow ks → register (with_registers ks (map f ks) s) n ≡ cond (list_any (λ k. k == n) ks) (f n) (register s n)
given [] f s n full below = refl
given (k ∷ ks) f s n full below =
    let rest = given ks f (with_register s k (f k)) n (length-set s.core.regs k (f k) ∙ full) below.1 in
    rest ∙ (elim (cases_eq k n) [
      | inl e ↦ rw (eq-eqb k n e) (ap (λ x. cond (list_any (λ k. k == n) ks) (f n) x) (set_register s n k (f k) full below.0 ∙ rw (eq-eqb k n e) (ap f e)) ∙ always (list_any (λ k. k == n) ks) (f n))
      | inr apart ↦ rw (ne_eqb k n apart) (ap (λ x. cond (list_any (λ k. k == n) ks) (f n) x) (set_register s n k (f k) full below.0 ∙ rw (ne_eqb k n apart)))
    ])
  where
    always : (b : Bool) (x : ℕ) → cond b x x ≡ x
    always true x = refl
    always false x = refl

pub registers_returned : (mask n : ℕ) (caller s : State) → length s.core.regs ≡ 16 → register (with_caller mask caller s) n ≡ cond (list_any (λ k. k == n) (linked mask)) (register caller n) (register s n)
registers_returned mask n caller s full = given (linked mask) (register caller) s n full (linked_below mask)
