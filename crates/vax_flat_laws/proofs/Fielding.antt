-- Fields that are put and read back, and compared.
use Rattle.std.proofs.Common.{◌≡◌, ◌≢◌, ℕ, suc, zero, ◌+◌, ◌-◌, ◌*◌, ◌/◌, ◌%◌, ◌^◌, ◌<◌, ◌≤◌, ◌⊎◌, ◌==◌, Bool, true, false, List, [], ◌∷◌, ◌++◌, length, take, drop, get_or, refl, ap, sym, subst, ◌∙◌, arith, inl, inr, length-append, length-drop, length-take, None}
use Rattle.std.specs.Prelude.{replicate, nat_le, if◌then◌else◌, not}
use Rattle.std.specs.Int.{from_bool}
use Rattle.std.proofs.Math.Nat.{mod-eq_of_lt, pow-suc}
use Rattle.std.proofs.lemmas.Bool.{cases_Bool, cases_eq, eq-eqb, ne_eqb, le-ltb}
use Rattle.std.proofs.lemmas.Bool.Decides.{nat_tests}
use Rattle.std.proofs.lemmas.List.{length-set, get_or-set_same, get_or-set_other}
use Rattle.std.proofs.lemmas.Nat.{mod-pow-add}
use Rattle.vax_space.specs.declared.Access.TheVariants.{Read, Write}
use Rattle.vax_space.specs.declared.Area.{Area}
use Rattle.vax_space.specs.Reference.{violation}
use Rattle.vax_word.specs.declared.Size.TheVariants.{L}
use Rattle.vax_word.specs.Arithmetic.{answer, compared}
use Rattle.vax_word.specs.Status.{codes_of}
use Rattle.vax_flat.specs.declared.Exception.{Exception}
use Rattle.vax_flat.specs.declared.Exception.TheVariants as exception
use Rattle.vax_flat.specs.declared.Flow.TheVariants as flow
use Rattle.vax_flat.specs.declared.Holder.{Holder}
use Rattle.vax_flat.specs.declared.Operand.{Operand}
use Rattle.vax_flat.specs.declared.Operand.TheVariants as operand
use Rattle.vax_flat.specs.Memory.{byte_at, number, written, IsWhole}
use Rattle.vax_flat.specs.State.{State, register, with_register, with_conditions, mode}
use Rattle.vax_flat.specs.Accesses.{Accesses, Leaf, Went}
use Rattle.vax_flat.specs.Outcome.{Ends, Raised, outcome_of, unless_violated, Outcome}
use Rattle.vax_flat.specs.Operand.{read_at, register_value, write_at, plus}
use Rattle.vax_flat.specs.Rows.{value_at, stored, with_value, answered, settled, flow_of, carry_of}
use Rattle.vax_flat.specs.Field.{bits_of, number_of, part, with_part, holder, is_reserved_field, held, put, field_bits, widened, extracted, compared_field, inserted, bytes_before, before_first}
use Rattle.vax_flat.specs.Step.{leaf}
use Rattle.vax_flat_laws.specs.Places.{put_and_extracted, IsFirstBit}
use Rattle.vax_flat.proofs.Longwords.{allowed}
use Rattle.vax_flat_laws.proofs.Longwords.{decided, bytes_pow, number_written}
use Rattle.vax_flat_laws.proofs.Queueing.{codes_set}
use Rattle.std.proofs.Math.Path.{fun_ext}
use Rattle.vax_flat.proofs.Memory.{byte_at-written}

-- ---- bits

length_of : (size x : ℕ) → length (bits_of size x) ≡ size
unfolding bits_of
length_of zero x = refl
length_of (suc size) x = ap suc (length_of size (x / 2))

bit_number : (d : ℕ) → d < 2 → from_bool (d == 1) ≡ d
bit_number zero h = refl
bit_number (suc zero) h = refl
bit_number (suc (suc k)) h = absurd (omega arith)

number_of_bits : (size x : ℕ) → number_of (bits_of size x) ≡ x % 2 ^ size
unfolding bits_of number_of
number_of_bits zero x = omega arith
number_of_bits (suc size) x =
    let e : suc size ≡ size + 1 = omega arith in
    let split : x % 2 ^ suc size ≡ (x / 2 % 2 ^ size) * 2 + x % 2 = ap (λ k. x % 2 ^ k) e ∙ mod-pow-add x size 1 in
    omega (arith, bit_number (x % 2) (omega arith), number_of_bits size (x / 2), split)

-- a list of bits is that of its number
bit_of : (b : Bool) (rest : ℕ) → ((from_bool b + 2 * rest) % 2 == 1) ≡ b
bit_of true rest = eq-eqb _ 1 (omega arith)
bit_of false rest = ne_eqb _ 1 (λ h. omega arith)

half_of : (b : Bool) (rest : ℕ) → (from_bool b + 2 * rest) / 2 ≡ rest
half_of true rest = omega arith
half_of false rest = omega arith

bits_of_number : (bits : List Bool) → bits_of (length bits) (number_of bits) ≡ bits
unfolding bits_of number_of
bits_of_number [] = refl
bits_of_number (b ∷ bits) =
    (λ i. bit_of b (number_of bits) i ∷ bits_of (length bits) (half_of b (number_of bits) i)) ∙ ap (λ rest. b ∷ rest) (bits_of_number bits)

number_below : (bits : List Bool) → number_of bits < 2 ^ length bits
unfolding number_of
number_below [] = omega arith
number_below (b ∷ bits) = let one : from_bool b ≤ 1 = bit b in omega (arith, number_below bits, pow-suc 2 (length bits))
  where
    bit : (b : Bool) → from_bool b ≤ 1
    bit true = omega arith
    bit false = omega arith

number_padded : (bits : List Bool) (count : ℕ) → number_of (bits ++ replicate count false) ≡ number_of bits
unfolding number_of
number_padded [] zero = refl
number_padded [] (suc count) = let e = number_padded [] count in omega arith
number_padded (b ∷ bits) count = ap (λ x. from_bool b + 2 * x) (number_padded bits count)

pub widened_zero : (size source : ℕ) → widened false (bits_of size source) ≡ source % 2 ^ size
unfolding widened
widened_zero size source = number_padded (bits_of size source) (32 - length (bits_of size source)) ∙ number_of_bits size source

-- ---- a part that is put is read back, and the bits beside it stay

front : (new rest : List Bool) → take (length new) (new ++ rest) ≡ new
front [] rest = refl
front (b ∷ new) rest = ap (λ bits. b ∷ bits) (front new rest)

pub part_back : (first : ℕ) (new bits : List Bool) → first + length new ≤ length bits → part first (length new) (with_part first new bits) ≡ new
unfolding part with_part
part_back zero new bits h = front new (drop (0 + length new) bits)
part_back (suc first) new [] h = absurd (omega arith)
part_back (suc first) new (b ∷ bits) h =
    let e : suc first + length new ≡ suc (first + length new) = omega arith in
    ap (λ k. take (length new) (drop first ((take first bits ++ new) ++ drop k (b ∷ bits)))) e ∙ part_back first new bits (omega arith)

behind_front : (new bits : List Bool) (k : ℕ) → length new ≤ k → length new ≤ length bits → get_or (new ++ drop (length new) bits) k false ≡ get_or bits k false
behind_front [] bits k h l = refl
behind_front (b ∷ new) [] k h l = absurd (omega arith)
behind_front (b ∷ new) (c ∷ bits) zero h l = absurd (omega arith)
behind_front (b ∷ new) (c ∷ bits) (suc k) h l = behind_front new bits k (omega arith) (omega arith)

pub beside_part : (first : ℕ) (new bits : List Bool) (k : ℕ) → first + length new ≤ length bits → (k < first) ⊎ (first + length new ≤ k) → get_or (with_part first new bits) k false ≡ get_or bits k false
unfolding with_part
beside_part zero new bits k h (inl low) = absurd (omega arith)
beside_part zero new bits k h (inr high) =
    let e : 0 + length new ≡ length new = omega arith in
    ap (λ j. get_or (new ++ drop j bits) k false) e ∙ behind_front new bits k (omega arith) (omega arith)
beside_part (suc first) new [] k h where_is = absurd (omega arith)
beside_part (suc first) new (b ∷ bits) zero h where_is = refl
beside_part (suc first) new (b ∷ bits) (suc k) h where_is =
    let e : suc first + length new ≡ suc (first + length new) = omega arith in
    ap (λ j. get_or ((take first bits ++ new) ++ drop j (b ∷ bits)) k false) e
    ∙ beside_part first new bits k (omega arith) (elim where_is [ inl low ↦ inl (omega arith) | inr high ↦ inr (omega arith) ])

length_with : (first : ℕ) (new bits : List Bool) → first + length new ≤ length bits → length (with_part first new bits) ≡ length bits
unfolding with_part
length_with first new bits h = simp (length-append, length-take, length-drop) (omega arith)

-- ---- registers

two_back : (v : ℕ) → v % 2 ^ 32 + 2 ^ 32 * (v / 2 ^ 32) ≡ v
two_back v = omega arith

value_back : (width n v : ℕ) (s : State) → length s.core.regs ≡ 16 → n < 15 → (width ≡ 4) ⊎ (width ≡ 8) → v < 256 ^ width → register_value width n (with_value width n v s) ≡ v
unfolding register_value with_value
value_back width n v s full few (inl e) small =
    let fits : v < 256 ^ 4 = subst (λ w. v < 256 ^ w) e small in
    rw e (ap (λ x. x % 256 ^ 4) (get_or-set_same s.core.regs n v 0 (omega arith)) ∙ mod-eq_of_lt fits)
value_back width n v s full few (inr e) small =
    let t = with_register s n (v % 2 ^ 32) in
    let long : length t.core.regs ≡ 16 = length-set s.core.regs n (v % 2 ^ 32) ∙ full in
    let low : register (with_register t (n + 1) (v / 2 ^ 32)) n ≡ v % 2 ^ 32 =
    get_or-set_other t.core.regs (n + 1) n (v / 2 ^ 32) 0 (λ h. omega arith) ∙ get_or-set_same s.core.regs n (v % 2 ^ 32) 0 (omega arith) in
    let high : register (with_register t (n + 1) (v / 2 ^ 32)) (n + 1) ≡ v / 2 ^ 32 = get_or-set_same t.core.regs (n + 1) (v / 2 ^ 32) 0 (omega arith) in
    rw e (rw (low, high) (two_back v))

abbrev width_of : ℕ → ℕ → ℕ
width_of position size = if nat_le (position + size) 32 then 4 else 8

width_is : (position size : ℕ) → (width_of position size ≡ 4) ⊎ (width_of position size ≡ 8)
width_is position size = elim (cases_Bool (nat_le (position + size) 32)) [ inl so ↦ inl (rw so refl) | inr isnt ↦ inr (rw isnt refl) ]

-- what holds a field, as a number
module _ (source first size width x : ℕ) (fits : first + size ≤ 8 * width) where
  abbrev old_bits : List Bool
  old_bits = bits_of (8 * width) x

  abbrev new_bits : List Bool
  new_bits = with_part first (bits_of size source) old_bits

  room : first + length (bits_of size source) ≤ length old_bits
  room = rw (length_of size source, length_of (8 * width) x) fits

  long : length new_bits ≡ 8 * width
  long = length_with first (bits_of size source) old_bits room ∙ length_of (8 * width) x

  pub new_small : number_of new_bits < 256 ^ width
  new_small = subst (λ y. number_of new_bits < y) (ap (λ k. 2 ^ k) long ∙ sym (bytes_pow width)) (number_below new_bits)

  pub new_part : part first size (bits_of (8 * width) (number_of new_bits)) ≡ bits_of size source
  new_part =
      ap (λ k. part first size (bits_of k (number_of new_bits))) (sym long)
      ∙ (ap (part first size) (bits_of_number new_bits)
      ∙ (ap (λ k. part first k new_bits) (sym (length_of size source))
      ∙ part_back first (bits_of size source) old_bits room))

bits_back : (source position size n width : ℕ) (s : State) → length s.core.regs ≡ 16 → n < 15 → (width ≡ 4) ⊎ (width ≡ 8) → position + size ≤ 8 * width →
    part position size (bits_of (8 * width) (register_value width n (with_value width n (number_of (with_part position (bits_of size source) (bits_of (8 * width) (register_value width n s)))) s))) ≡ bits_of size source
bits_back source position size n width s full few is fits =
    let x = register_value width n s in
    ap (λ v. part position size (bits_of (8 * width) v)) (value_back width n _ s full few is (new_small source position size width x fits))
    ∙ new_part source position size width x fits

reserved_room : (position size n : ℕ) → is_reserved_field position size (operand.FieldRegister n) ≡ false → size ≢ 0 → position + size ≤ 8 * width_of position size
unfolding is_reserved_field
reserved_room position size n fine some = grind (arith, nat_tests)

empty : (source : ℕ) → widened false [] ≡ source % 2 ^ 0
unfolding widened number_of
empty source = omega arith

pub field_read : (source position size n : ℕ) (s : State) (next : ℕ → Accesses Leaf) → length s.core.regs ≡ 16 → n < 15 → is_reserved_field position size (operand.FieldRegister n) ≡ false →
    put_and_extracted source position size (operand.FieldRegister n) s next ≡ next (source % 2 ^ size)
unfolding inserted field_bits held put holder value_at stored
field_read source position size n s next full few fine =
    elim (cases_eq size 0) [
      | inl none ↦ rw (fine, eq-eqb size 0 none) (ap next (empty source ∙ ap (λ k. source % 2 ^ k) (sym none)))
      | inr some ↦
          rw (fine, ne_eqb size 0 some)
          (ap (λ bits. next (widened false bits)) (bits_back source position size n (width_of position size) s full few (width_is position size) (reserved_room position size n fine some))
          ∙ ap next (widened_zero size source))
    ]

-- ---- memory

module _ (source position size addr : ℕ) (s : State) (memory end : List Area) (x : Leaf) (next : ℕ → Accesses Leaf) (whole : IsWhole memory) (some : 0 < size) (few : size ≤ 32)
    (came : outcome_of (put_and_extracted source position size (operand.Memory addr) s next) memory ≡ Ends x end) where
  abbrev place : ℕ
  place = plus addr (bytes_before position)

  abbrev bytes : ℕ
  bytes = (position % 8 + size + 7) / 8

  abbrev before_it : ℕ
  before_it = number (byte_at memory) place bytes

  abbrev stored_number : ℕ
  stored_number = number_of (with_part (position % 8) (bits_of size source) (bits_of (8 * bytes) before_it))

  abbrev behind_it : List Area
  behind_it = written memory place bytes stored_number

  abbrev reading : Outcome Leaf
  reading = outcome_of (next (widened false (part (position % 8) size (bits_of (8 * bytes) (number (byte_at behind_it) place bytes))))) behind_it

  puts : unless_violated (violation memory place bytes (mode s) Read) (unless_violated (violation memory place bytes (mode s) Write) (unless_violated (violation behind_it place bytes (mode s) Read) reading)) ≡ Ends x end
  unfolding inserted field_bits held put holder value_at stored read_at write_at is_reserved_field outcome_of
  puts = rw (le-ltb 32 size few, ne_eqb size 0 (λ h. omega arith)) at came

  c0 : (violation memory place bytes (mode s) Read ≡ None) × (unless_violated (violation memory place bytes (mode s) Write) (unless_violated (violation behind_it place bytes (mode s) Read) reading) ≡ Ends x end)
  c0 = allowed (violation memory place bytes (mode s) Read) _ x end puts

  c1 : (violation memory place bytes (mode s) Write ≡ None) × (unless_violated (violation behind_it place bytes (mode s) Read) reading ≡ Ends x end)
  c1 = allowed (violation memory place bytes (mode s) Write) _ x end c0.1

  c2 : (violation behind_it place bytes (mode s) Read ≡ None) × (reading ≡ Ends x end)
  c2 = allowed (violation behind_it place bytes (mode s) Read) _ x end c1.1

  fits_in : position % 8 + size ≤ 8 * bytes
  fits_in = omega arith

  number_there : number (byte_at behind_it) place bytes ≡ stored_number
  number_there =
      ap (λ f. number f place bytes) (fun_ext λ here. byte_at-written memory place bytes stored_number here (mode s) Write whole c1.0)
      ∙ (number_written (byte_at memory) place bytes stored_number (omega arith) (omega arith)
      ∙ mod-eq_of_lt (new_small source (position % 8) size bytes before_it fits_in))

  pub memory_read : outcome_of (next (source % 2 ^ size)) behind_it ≡ Ends x end
  memory_read =
      ap (λ value. outcome_of (next value) behind_it) (sym (widened_zero size source))
      ∙ (ap (λ bits. outcome_of (next (widened false bits)) behind_it) (sym (new_part source (position % 8) size bytes before_it fits_in))
      ∙ (ap (λ n. outcome_of (next (widened false (part (position % 8) size (bits_of (8 * bytes) n)))) behind_it) (sym number_there) ∙ c2.1))

-- ---- FFS, FFC

later : (set bit : Bool) (bits : List Bool) (k : ℕ) → bit ≡ not set → ((j : ℕ) → j < k → get_or bits j set ≡ not set) → (j : ℕ) → j < suc k → get_or (bit ∷ bits) j set ≡ not set
later set bit bits k other before zero h = other
later set bit bits k other before (suc j) h = before j (omega arith)

pub first_bit : (set : Bool) (bits : List Bool) → IsFirstBit set bits (before_first set bits)
unfolding before_first
first_bit set [] = record { few = omega arith; before = λ j h. absurd (omega arith); here = λ h. absurd (omega arith) }
first_bit true (true ∷ bits) = record { few = omega arith; before = λ j h. absurd (omega arith); here = λ h. refl }
first_bit false (false ∷ bits) = record { few = omega arith; before = λ j h. absurd (omega arith); here = λ h. refl }
first_bit true (false ∷ bits) =
    let rest = first_bit true bits in
    record { few = (let f = rest.few in omega arith); before = later true false bits (before_first true bits) refl rest.before; here = λ h. rest.here (omega arith) }
first_bit false (true ∷ bits) =
    let rest = first_bit false bits in
    record { few = (let f = rest.few in omega arith); before = later false true bits (before_first false bits) refl rest.before; here = λ h. rest.here (omega arith) }

-- ---- CMPV

-- a field's bits, or an exception, whatever comes next
record HasBits (position size : ℕ) (base : Operand) (s : State) (memory : List Area) : Type 0 where
  bits : List Bool
  same : (next : List Bool → State → Accesses Leaf) → outcome_of (field_bits position size base s next) memory ≡ outcome_of (next bits s) memory

record HasNone (position size : ℕ) (base : Operand) (s : State) (memory : List Area) : Type 0 where
  raised : Exception
  same : (next : List Bool → State → Accesses Leaf) → outcome_of (field_bits position size base s next) memory ≡ Raised raised

record HasHeld (h : Holder) (s : State) (memory : List Area) : Type 0 where
  bits : List Bool
  same : (next : List Bool → State → Accesses Leaf) → outcome_of (held h s next) memory ≡ outcome_of (next bits s) memory

record HasNoneHeld (h : Holder) (s : State) (memory : List Area) : Type 0 where
  raised : Exception
  same : (next : List Bool → State → Accesses Leaf) → outcome_of (held h s next) memory ≡ Raised raised

held_or_not : (place : Operand) (width first : ℕ) (s : State) (memory : List Area) → HasHeld (record { place = place; width = width; first = first }) s memory ⊎ HasNoneHeld (record { place = place; width = width; first = first }) s memory
unfolding held value_at read_at outcome_of
held_or_not (operand.Value x) width first s memory = inl (record { bits = bits_of (8 * width) 0; same = λ next. refl })
held_or_not (operand.Register n) width first s memory = inl (record { bits = bits_of (8 * width) (register_value width n s); same = λ next. refl })
held_or_not (operand.Memory addr) width first s memory =
    elim (decided (violation memory addr width (mode s) Read)) [
      | inl fine ↦ inl (record { bits = bits_of (8 * width) (number (byte_at memory) addr width); same = λ next. rw fine refl })
      | inr p ↦ inr (record { raised = exception.Access p.0; same = λ next. rw p.1 refl })
    ]
held_or_not (operand.FieldRegister n) width first s memory = inl (record { bits = bits_of (8 * width) 0; same = λ next. refl })
held_or_not (operand.Target addr) width first s memory = inl (record { bits = bits_of (8 * width) 0; same = λ next. refl })

bits_or_not : (position size : ℕ) (base : Operand) (s : State) (memory : List Area) → HasBits position size base s memory ⊎ HasNone position size base s memory
unfolding field_bits outcome_of
bits_or_not position size base s memory =
    elim (cases_Bool (is_reserved_field position size base)) [
      | inl so ↦ inr (record { raised = exception.Operand; same = λ next. rw so refl })
      | inr isnt ↦
          elim (cases_Bool (size == 0)) [
            | inl none ↦ inl (record { bits = []; same = λ next. rw (isnt, none) refl })
            | inr some ↦
                let h = holder position size base in
                elim (held_or_not h.place h.width h.first s memory) [
                  | inl has ↦ inl (record { bits = part h.first size has.bits; same = λ next. rw (isnt, some) (has.same (λ bits u. next (part h.first size bits) u)) })
                  | inr none ↦ inr (record { raised = none.raised; same = λ next. rw (isnt, some) (none.same (λ bits u. next (part h.first size bits) u)) })
                ]
          ]
    ]

pub compared_as : (signed : Bool) (position size source n : ℕ) (base : Operand) (s t u : State) (memory end after : List Area) → length s.core.regs ≡ 16 → n < 16 →
    outcome_of (extracted signed position size base (operand.Register n) s leaf) memory ≡ Ends (Went flow.Done t) end →
    outcome_of (compared_field signed position size base source s leaf) memory ≡ Ends (Went flow.Done u) after →
    codes_of u.core.psl ≡ compared L (register t n) source
unfolding extracted compared_field answered settled flow_of stored with_value outcome_of answer
compared_as signed position size source n base s t u memory end after full few came other =
    elim (bits_or_not position size base s memory) [
      | inl has ↦
          let w = widened signed has.bits in
          let first = sym (has.same _) ∙ came in
          let second = sym (has.same _) ∙ other in
          let t_is : with_conditions (with_register s n w) (answer L w false (carry_of (with_register s n w))).1 ≡ t = cc in
          let u_is : with_conditions s (compared L w source) ≡ u = cc in
          let value : register t n ≡ w = ap (λ v. register v n) (sym t_is) ∙ get_or-set_same s.core.regs n w 0 (omega arith) in
          ap (λ v. codes_of v.core.psl) (sym u_is) ∙ (codes_set s.core.psl (compared L w source) ∙ ap (λ x. compared L x source) (sym value))
      | inr none ↦ absurd (raises (sym (none.same _) ∙ other))
    ]
  where
    raises : {e : Exception} {x : Leaf} {m : List Area} → Raised e ≡ Ends x m → ⊥
    raises h = cc
