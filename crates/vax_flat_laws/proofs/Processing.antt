-- MFPR after MTPR.
use Rattle.std.proofs.Common.{◌≡◌, ◌≢◌, ℕ, suc, zero, ◌+◌, ◌-◌, ◌*◌, ◌/◌, ◌%◌, ◌^◌, ◌<◌, ◌≤◌, ◌==◌, Option, Some, length, refl, ap, sym, ◌∙◌, arith, inl, inr, List, [], ◌∷◌, None}
use Rattle.std.specs.Prelude.{slice_get, map, nat_lt, if◌then◌else◌, not, ◌&&◌, slice_index}
use Rattle.std.specs.Int.{bit_at, from_bool}
use Rattle.std.proofs.lemmas.Bool.{cases_lt, lt-ltb, le-ltb, cases_eq, eq-eqb, ne_eqb, le-leb, lt-leb}
use Rattle.std.proofs.lemmas.List.{get_or-set_same, get_or-set_other}
use Rattle.vax_word.specs.Status.{ipl_of}
use Rattle.vax_flat.specs.declared.Exception.TheVariants.{Operand}
use Rattle.vax_flat.specs.declared.Flow.{Flow}
use Rattle.vax_flat.specs.declared.Flow.TheVariants as flow
use Rattle.vax_flat.specs.State.{with_taken, State}
use Rattle.vax_flat.specs.Accesses.{Accesses, Leaf, Raises}
use Rattle.vax_flat.specs.Delivery.{stack_in_use}
use Rattle.vax_flat.specs.System.{pointer, with_pointer, with_priority, clock_set, set_processor, get_processor}
use Rattle.vax_flat_laws.specs.Processor.{AllEqual, read_after, readable, writable, IsNoneOf, IsAtLevel}

-- a stack's pointer, be it in use or not
pointer_back : (n value : ℕ) (s : State) → n ≤ 4 → length s.core.regs ≡ 16 → length s.core.stacks ≡ 5 → pointer n (with_pointer n value s) ≡ value
unfolding pointer with_pointer
pointer_back n value s few full five =
    elim (cases_eq n (stack_in_use s.core.psl)) [
      | inl e ↦ let same = eq-eqb n (stack_in_use s.core.psl) e in rw (same, same) (get_or-set_same s.core.regs 14 value 0 (omega arith))
      | inr m ↦ let other = ne_eqb n (stack_in_use s.core.psl) m in rw (other, other) (get_or-set_same s.core.stacks n value 0 (omega arith))
    ]

pub pointers_read : (n value : ℕ) (s : State) (next : ℕ → Accesses Leaf) → n ≤ 4 → length s.core.regs ≡ 16 → length s.core.stacks ≡ 5 → read_after n value n s next ≡ next value
unfolding set_processor get_processor
pointers_read n value s next few full five = rw (le-leb n 4 few) (ap next (pointer_back n value s few full five))

beside : (n k value : ℕ) (s : State) → k ≢ n → pointer k (with_pointer n value s) ≡ pointer k s
unfolding pointer with_pointer
beside n k value s apart =
    elim (cases_eq n (stack_in_use s.core.psl)) [
      | inl e ↦ rw (eq-eqb n (stack_in_use s.core.psl) e, ne_eqb k (stack_in_use s.core.psl) (λ h. apart (h ∙ sym e))) refl
      | inr m ↦
          elim (cases_eq k (stack_in_use s.core.psl)) [
            | inl e ↦ rw (ne_eqb n (stack_in_use s.core.psl) m, eq-eqb k (stack_in_use s.core.psl) e) refl
            | inr o ↦ rw (ne_eqb n (stack_in_use s.core.psl) m, ne_eqb k (stack_in_use s.core.psl) o) (get_or-set_other s.core.stacks n k value 0 apart)
          ]
    ]

-- the others stay
pub pointers_beside : (n k value : ℕ) (s : State) (next : ℕ → Accesses Leaf) → n ≤ 4 → k ≤ 4 → k ≢ n → length s.core.regs ≡ 16 → length s.core.stacks ≡ 5 →
    read_after n value k s next ≡ get_processor k s (λ x u. next x)
unfolding set_processor get_processor
pointers_beside n k value s next few_n few_k apart full five = rw (le-leb n 4 few_n, le-leb k 4 few_k) (ap next (beside n k value s apart))

level_back : (x level : ℕ) → level < 32 → (x - 65536 * (x / 65536 % 32) + 65536 * level) / 65536 % 32 ≡ level
level_back x level h = omega arith

pub priority_read : (value : ℕ) (s : State) (next : ℕ → Accesses Leaf) → read_after 18 value 18 s next ≡ next (value % 2 ^ 5)
unfolding set_processor get_processor ipl_of
priority_read value s next = ap next (level_back s.core.psl.0 (value % 2 ^ 5) (omega arith))

level_set : (x level : ℕ) → level < 32 → ((x - 65536 * (x / 65536 % 32) + 65536 * level) % 65536 ≡ x % 65536) × ((x - 65536 * (x / 65536 % 32) + 65536 * level) / 2097152 ≡ x / 2097152)
level_set x level h = (omega arith, omega arith)

pub priority_alone : (level : ℕ) (s : State) → level < 32 → IsAtLevel level s.core.psl (with_priority level s).core.psl
unfolding ipl_of
priority_alone level s h = record {
  level_is = level_back s.core.psl.0 level h;
  low = (level_set s.core.psl.0 level h).0;
  high = (level_set s.core.psl.0 level h).1;
}

pub requests_read : (value : ℕ) (s : State) (next : ℕ → Accesses Leaf) → read_after 21 value 21 s next ≡ next (value % 2 ^ 16 - value % 2)
unfolding set_processor get_processor
requests_read value s next = ap next (omega arith)

timer_back : (a b c : ℕ) → a < 2 → b < 2 → c < 2 → 2 ^ 6 * from_bool (a == 1) + 2 ^ 7 * from_bool ((b == 1) && not (c == 1)) ≡ 64 * a + 128 * (b * (1 - c))
timer_back zero zero zero ha hb hc = refl
timer_back zero zero (suc zero) ha hb hc = refl
timer_back zero (suc zero) zero ha hb hc = refl
timer_back zero (suc zero) (suc zero) ha hb hc = refl
timer_back (suc zero) zero zero ha hb hc = refl
timer_back (suc zero) zero (suc zero) ha hb hc = refl
timer_back (suc zero) (suc zero) zero ha hb hc = refl
timer_back (suc zero) (suc zero) (suc zero) ha hb hc = refl
timer_back (suc (suc a)) b c ha hb hc = absurd (omega arith)
timer_back zero (suc (suc b)) c ha hb hc = absurd (omega arith)
timer_back (suc zero) (suc (suc b)) c ha hb hc = absurd (omega arith)
timer_back zero zero (suc (suc c)) ha hb hc = absurd (omega arith)
timer_back zero (suc zero) (suc (suc c)) ha hb hc = absurd (omega arith)
timer_back (suc zero) zero (suc (suc c)) ha hb hc = absurd (omega arith)
timer_back (suc zero) (suc zero) (suc (suc c)) ha hb hc = absurd (omega arith)

pub timer_read : (value : ℕ) (s : State) (next : ℕ → Accesses Leaf) → read_after 24 value 24 s next ≡ next (64 * bit_at value 6 + 128 * (bit_at s.core.iccs 7 * (1 - bit_at value 7)))
unfolding set_processor get_processor clock_set
timer_read value s next = ap next (timer_back (bit_at value 6) (bit_at s.core.iccs 7) (bit_at value 7) (omega arith) (omega arith) (omega arith))

pub clock_anew : (value : ℕ) (s : State) (next : Flow → ℕ → Accesses Leaf) → set_processor 24 value s (λ how t. next how t.core.clock) ≡ next flow.Clocked 0
unfolding set_processor clock_set
clock_anew value s next = refl

pub byte_sent : (value : ℕ) (s : State) (next : Option ℕ → Accesses Leaf) → set_processor 35 value s (λ how t. next t.sent) ≡ next (Some (value % 2 ^ 8))
unfolding set_processor
byte_sent value s next = refl

-- the numbers of no register

above : (number : ℕ) → number ≢ 0 → number ≢ 1 → number ≢ 2 → number ≢ 3 → number ≢ 4 → 4 < number
above number a b c d e = omega arith

pub none_readable : (number : ℕ) (s : State) (next : ℕ → State → Accesses Leaf) → IsNoneOf readable number → get_processor number s next ≡ Raises Operand
unfolding get_processor
none_readable number s next n =
    let high = above number n.0 n.1.0 n.1.1.0 n.1.1.1.0 n.1.1.1.1.0 in
    let m = n.1.1.1.1.1 in
    rw (lt-leb number 4 high, ne_eqb number 18 m.0, ne_eqb number 21 m.1.0, ne_eqb number 24 m.1.1.0, ne_eqb number 32 m.1.1.1.0, ne_eqb number 33 m.1.1.1.1.0, ne_eqb number 34 m.1.1.1.1.1.0) refl

pub none_writable : (number value : ℕ) (s : State) (next : Flow → State → Accesses Leaf) → IsNoneOf writable number → set_processor number value s next ≡ Raises Operand
unfolding set_processor
none_writable number value s next n =
    let high = above number n.0 n.1.0 n.1.1.0 n.1.1.1.0 n.1.1.1.1.0 in
    let m = n.1.1.1.1.1 in
    let l = m.1.1.1.1 in
    rw (lt-leb number 4 high, ne_eqb number 18 m.0, ne_eqb number 20 m.1.0, ne_eqb number 21 m.1.1.0, ne_eqb number 24 m.1.1.1.0, ne_eqb number 32 l.0, ne_eqb number 34 l.1.0, ne_eqb number 35 l.1.1.0, ne_eqb number 57 l.1.1.1.0, ne_eqb number 58 l.1.1.1.1.0) refl

-- ---- the console

there : (xs : List ℕ) (i : ℕ) → i < length xs → slice_get xs i ≡ Some (slice_index xs i)
there [] i h = absurd (omega arith)
there (x ∷ xs) zero h = refl
there (x ∷ xs) (suc i) h = there xs i (omega arith)

gone : (xs : List ℕ) (i : ℕ) → length xs ≤ i → slice_get xs i ≡ None
gone [] i h = refl
gone (x ∷ xs) zero h = absurd (omega arith)
gone (x ∷ xs) (suc i) h = gone xs i (omega arith)

pub input_ready : (s : State) (next : ℕ → State → Accesses Leaf) → get_processor 32 s next ≡ next (if nat_lt s.taken (length s.input) then 128 else 0) s
unfolding get_processor
input_ready s next =
    elim (cases_lt s.taken (length s.input)) [
      | inl left ↦ rw (lt-ltb s.taken (length s.input) left, there s.input s.taken left) refl
      | inr over ↦ rw (le-ltb s.taken (length s.input) over, gone s.input s.taken over) refl
    ]

pub input_taken : (s : State) (next : ℕ → State → Accesses Leaf) → s.taken < length s.input → get_processor 33 s next ≡ next (slice_index s.input s.taken) (with_taken s (s.taken + 1))
unfolding get_processor
input_taken s next left = rw (there s.input s.taken left) refl

pub input_empty : (s : State) (next : ℕ → State → Accesses Leaf) → length s.input ≤ s.taken → get_processor 33 s next ≡ next 0 s
unfolding get_processor
input_empty s next over = rw (gone s.input s.taken over) refl

pub output_ready : (s : State) (next : ℕ → State → Accesses Leaf) → get_processor 34 s next ≡ next 128 s
unfolding get_processor
output_ready s next = refl

pub written_quietly : (value : ℕ) (s : State) (next : Flow → State → Accesses Leaf) → AllEqual (map (λ n. set_processor n value s next) (32 ∷ 34 ∷ 57 ∷ 58 ∷ [])) (next flow.Done s)
unfolding set_processor
written_quietly value s next = (refl, (refl, (refl, (refl, tt))))
