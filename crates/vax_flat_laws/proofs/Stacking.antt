-- Registers that are pushed and popped, and arguments that are taken off.
use Rattle.std.proofs.Common.{◌≡◌, ◌≢◌, ℕ, suc, zero, ◌+◌, ◌-◌, ◌*◌, ◌%◌, ◌^◌, ◌<◌, ◌≤◌, Bool, true, false, cond, None, List, [], ◌∷◌, ◌++◌, length, map, refl, ap, sym, subst, ◌∙◌, arith, inl, inr, append_assoc}
use Rattle.std.specs.Prelude.{reverse}
use Rattle.std.specs.List.{filter, range_with_len}
use Rattle.std.proofs.lemmas.Bool.{cases_Bool, cases_eq, eq-eqb, ne_eqb}
use Rattle.std.proofs.lemmas.List.{length-map, length-reverse, length-set, map-append, reverse-append, reverse-reverse, append-nil, get_or-set_same}
use Rattle.vax_space.specs.declared.Access.TheVariants.{Read, Write}
use Rattle.vax_space.specs.declared.Area.{Area}
use Rattle.vax_space.specs.Reference.{violation}
use Rattle.vax_word.specs.Status.{is_one}
use Rattle.vax_flat.specs.declared.Flow.TheVariants as flow
use Rattle.vax_flat.specs.Memory.{byte_at, number, written, IsWhole}
use Rattle.vax_flat.specs.State.{State, register, with_register, mode}
use Rattle.vax_flat.specs.Accesses.{Accesses, Leaf, Went}
use Rattle.vax_flat.specs.Outcome.{Outcome, Ends, outcome_of}
use Rattle.vax_flat.specs.Operand.{plus, read_at, write_at}
use Rattle.vax_flat.specs.Call.{pushed_one, pushed_below, popped_from, named, with_registers, saved, restored, registers_pushed, with_top, registers_popped, behind_arguments}
use Rattle.vax_flat.specs.Step.{leaf}
use Rattle.vax_flat.specs.Returned.{AreThere, behind}
use Rattle.vax_flat.proofs.Bytes.{low_byte}
use Rattle.vax_flat.proofs.Frames.{few_named}
use Rattle.vax_flat.proofs.Memory.{whole_written}
use Rattle.vax_flat.proofs.Returned.{set_register}
use Rattle.vax_flat_laws.specs.Machines.{IsMachine, AreWords}
use Rattle.vax_flat_laws.specs.Places.{pushed_and_popped}
use Rattle.vax_flat.proofs.Longwords.{there_more, allowed}
use Rattle.vax_flat_laws.proofs.Longwords.{behind_more}

-- ---- what is pushed

-- values that were pushed below an address stand in memory
record IsLaid (s : State) (values : List ℕ) (count top : ℕ) (next : ℕ → State → Accesses Leaf) (outcome : Outcome Leaf) : Type 0 where
  memory : List Area
  bottom : ℕ
  goes_on : outcome_of (next bottom s) memory ≡ outcome
  there : AreThere memory (mode s) bottom values
  above : behind count bottom ≡ top

turned : (v : ℕ) (vs ys : List ℕ) → reverse vs ++ v ∷ ys ≡ reverse (v ∷ vs) ++ ys
turned v vs ys = sym (append_assoc (reverse vs) (v ∷ []) ys) ∙ ap (λ l. l ++ ys) (sym (reverse-append (v ∷ []) vs))

laid : (xs ys : List ℕ) (top : ℕ) (s : State) (next : ℕ → State → Accesses Leaf) (memory : List Area) (x : Leaf) (end : List Area) →
    IsWhole memory → AreWords xs → top < 2 ^ 32 → 4 * (length xs + length ys) ≤ 2 ^ 32 → AreThere memory (mode s) top ys →
    outcome_of (pushed_below xs top s next) memory ≡ Ends x end → IsLaid s (reverse xs ++ ys) (length xs) top next (Ends x end)
unfolding pushed_below pushed_one write_at outcome_of
laid [] ys top s next memory x end whole fit small few t e = record { memory = memory; bottom = top; goes_on = e; there = t; above = refl }
laid (v ∷ vs) ys top s next memory x end whole fit small few t e =
    let a = plus top (2 ^ 32 - 4) in
    let h = allowed (violation memory a 4 (mode s) Write) (outcome_of (pushed_below vs a s next) (written memory a 4 v)) x end e in
    let above : top ≡ plus a 4 = omega arith in
    let first = there_more memory (mode s) a v whole (omega arith) h.0 ys fit.0 (omega arith) (subst (λ b. AreThere memory (mode s) b ys) above t) in
    let rest = laid vs (v ∷ ys) a s next (written memory a 4 v) x end (whole_written memory a 4 v whole) fit.1 (omega arith) (omega arith) first h.1 in
    record {
      memory = rest.memory;
      bottom = rest.bottom;
      goes_on = rest.goes_on;
      there = subst (AreThere rest.memory (mode s) rest.bottom) (turned v vs ys) rest.there;
      above = behind_more (length vs) rest.bottom ∙ (ap (λ z. plus z 4) rest.above ∙ sym above);
    }

-- ---- what is popped

popped : (memory : List Area) (xs : List ℕ) (count addr : ℕ) (s : State) (next : List ℕ → ℕ → State → Accesses Leaf) → count ≡ length xs → AreThere memory (mode s) addr xs →
    outcome_of (popped_from count addr s next) memory ≡ outcome_of (next xs (behind count addr) s) memory
unfolding popped_from read_at outcome_of
popped memory [] zero addr s next e there = refl
popped memory [] (suc count) addr s next e there = absurd (omega arith)
popped memory (x ∷ xs) zero addr s next e there = absurd (omega arith)
popped memory (x ∷ xs) (suc count) addr s next e there =
    rw (there.0, there.1) (popped memory xs count (plus addr 4) s (λ ys. next (x ∷ ys)) (omega arith) there.2)

-- ---- registers

turned_map : (f : ℕ → ℕ) (xs : List ℕ) → map f (reverse xs) ≡ reverse (map f xs)
turned_map f [] = refl
turned_map f (x ∷ xs) =
    ap (map f) (reverse-append (x ∷ []) xs)
    ∙ map-append f (reverse xs) (x ∷ [])
    ∙ ap (λ l. l ++ f x ∷ []) (turned_map f xs)
    ∙ sym (reverse-append (f x ∷ []) (map f xs))

words_of : (s : State) (ns : List ℕ) → ((n : ℕ) → register s n < 2 ^ 32) → AreWords (map (register s) ns)
words_of s [] words = tt
words_of s (n ∷ ns) words = (words n, words_of s ns words)

abbrev AreRegisters : List ℕ → Type 0
AreRegisters [] = Unit {0}
AreRegisters (k ∷ ks) = (k < 16) × AreRegisters ks

kept_registers : (p : ℕ → Bool) (a count : ℕ) → a + count ≤ 16 → AreRegisters (filter p (range_with_len a count))
kept_registers p a zero h = tt
kept_registers p a (suc count) h =
    elim (p a) as (λ (b : Bool). AreRegisters (cond b (a ∷ filter p (range_with_len (a + 1) count)) (filter p (range_with_len (a + 1) count)))) [
      | true ↦ (omega arith, kept_registers p (a + 1) count (omega arith))
      | false ↦ kept_registers p (a + 1) count (omega arith)
    ]

-- a register that has its value keeps it
keeps_value : (ks : List ℕ) (f : ℕ → ℕ) (t : State) (n : ℕ) → length t.core.regs ≡ 16 → AreRegisters ks → register t n ≡ f n → register (with_registers ks (map f ks) t) n ≡ f n
keeps_value [] f t n full below is = is
keeps_value (k ∷ ks) f t n full below is =
    keeps_value ks f (with_register t k (f k)) n (length-set t.core.regs k (f k) ∙ full) below.1
    (elim (cases_eq k n) [
      | inl e ↦ set_register t n k (f k) full below.0 ∙ rw (eq-eqb k n e) (ap f e)
      | inr apart ↦ set_register t n k (f k) full below.0 ∙ rw (ne_eqb k n apart) is
    ])

-- and one that is named gets it
gets_value : (p : ℕ → Bool) (f : ℕ → ℕ) (a count n : ℕ) (t : State) → length t.core.regs ≡ 16 → a + count ≤ 16 → a ≤ n → n < a + count → p n ≡ true →
    register (with_registers (filter p (range_with_len a count)) (map f (filter p (range_with_len a count))) t) n ≡ f n
gets_value p f a zero n t full few low high is = absurd (omega arith)
gets_value p f a (suc count) n t full few low high is =
    elim (cases_eq a n) [
      | inl e ↦
          let here : p a ≡ true = subst (λ k. p k ≡ true) (sym e) is in
          rw here
          (keeps_value (filter p (range_with_len (a + 1) count)) f (with_register t a (f a)) n (length-set t.core.regs a (f a) ∙ full) (kept_registers p (a + 1) count (omega arith))
          (set_register t n a (f a) full (omega arith) ∙ rw (eq-eqb a n e) (ap f e)))
      | inr apart ↦
          elim (cases_Bool (p a)) [
            | inl so ↦ rw so (gets_value p f (a + 1) count n (with_register t a (f a)) (length-set t.core.regs a (f a) ∙ full) (omega arith) (omega arith) (omega arith) is)
            | inr isnt ↦ rw isnt (gets_value p f (a + 1) count n t full (omega arith) (omega arith) (omega arith) is)
          ]
    ]

status_kept : (ks values : List ℕ) (t : State) → (with_registers ks values t).core.psl ≡ t.core.psl
status_kept [] values t = refl
status_kept (k ∷ ks) [] t = refl
status_kept (k ∷ ks) (v ∷ vs) t = status_kept ks vs (with_register t k v)

full_kept : (ks values : List ℕ) (t : State) → length t.core.regs ≡ 16 → length (with_registers ks values t).core.regs ≡ 16
full_kept [] values t full = full
full_kept (k ∷ ks) [] t full = full
full_kept (k ∷ ks) (v ∷ vs) t full = full_kept ks vs (with_register t k v) (length-set t.core.regs k v ∙ full)

module _ (mask : ℕ) (s : State) (full : length s.core.regs ≡ 16) where
  abbrev ns : List ℕ
  ns = named 15 mask

  named_registers : AreRegisters (named 15 mask)
  unfolding named
  named_registers = kept_registers (is_one mask) 0 15 (omega arith)

  -- the registers as they come back, from an SP that is lower and with one that is behind what was popped
  abbrev back : ℕ → ℕ → State
  back bottom top = with_top mask top (with_registers ns (map (register s) ns) (with_register s 14 bottom))

  lower : (bottom n : ℕ) → n ≢ 14 → register (with_register s 14 bottom) n ≡ register s n
  lower bottom n other = set_register s n 14 bottom full (omega arith) ∙ rw (ne_eqb 14 n (λ h. other (sym h))) refl

  full_lower : (bottom : ℕ) → length (with_register s 14 bottom).core.regs ≡ 16
  full_lower bottom = length-set s.core.regs 14 bottom ∙ full

  named_sp : (bottom : ℕ) → is_one mask 14 ≡ true → register (with_registers ns (map (register s) ns) (with_register s 14 bottom)) 14 ≡ register s 14
  unfolding named
  named_sp bottom so = gets_value (is_one mask) (register s) 0 15 14 (with_register s 14 bottom) (full_lower bottom) (omega arith) (omega arith) (omega arith) so

  registers_back : (bottom top n : ℕ) → top ≡ register s 14 → register (back bottom top) n ≡ register s n
  registers_back bottom top n whole =
      let w = with_registers ns (map (register s) ns) (with_register s 14 bottom) in
      elim (cases_eq n 14) [
        | inl sp ↦
            elim (cases_Bool (is_one mask 14)) [
              | inl so ↦ rw (so, sp) (named_sp bottom so)
              | inr isnt ↦ rw (isnt, sp) (get_or-set_same w.core.regs 14 top 0 (let e = full_kept ns (map (register s) ns) (with_register s 14 bottom) (full_lower bottom) in omega arith) ∙ whole)
            ]
        | inr other ↦
            let kept : register w n ≡ register s n = keeps_value ns (register s) (with_register s 14 bottom) n (full_lower bottom) named_registers (lower bottom n other) in
            elim (cases_Bool (is_one mask 14)) [
              | inl so ↦ rw so kept
              | inr isnt ↦ rw isnt (set_register w n 14 top (full_kept ns (map (register s) ns) (with_register s 14 bottom) (full_lower bottom)) (omega arith) ∙ rw (ne_eqb 14 n (λ h. other (sym h))) kept)
            ]
      ]

  status_back : (bottom top : ℕ) → (back bottom top).core.psl ≡ s.core.psl
  status_back bottom top =
      elim (cases_Bool (is_one mask 14)) [
        | inl so ↦ rw so (status_kept ns (map (register s) ns) (with_register s 14 bottom))
        | inr isnt ↦ rw isnt (status_kept ns (map (register s) ns) (with_register s 14 bottom))
      ]

ends_so : (mask : ℕ) (s u : State) (end last : List Area) (full : length s.core.regs ≡ 16) (bottom top : ℕ) → top ≡ register s 14 → outcome_of (leaf flow.Done (back mask s full bottom top)) last ≡ Ends (Went flow.Done u) end →
    ((n : ℕ) → register u n ≡ register s n) × (u.core.psl ≡ s.core.psl)
unfolding outcome_of
ends_so mask s u end last full bottom top whole e =
    let same : back mask s full bottom top ≡ u = cc in
    ((λ n. ap (λ t. register t n) (sym same) ∙ registers_back mask s full bottom top n whole), (ap (λ t. t.core.psl) (sym same) ∙ status_back mask s full bottom top))

pub popped_back : (mask : ℕ) (s u : State) (memory end : List Area) → IsMachine s memory → outcome_of (pushed_and_popped mask s) memory ≡ Ends (Went flow.Done u) end → ((n : ℕ) → register u n ≡ register s n) × (u.core.psl ≡ s.core.psl)
unfolding registers_pushed registers_popped saved restored
popped_back mask s u memory end m came =
    let ns = named 15 mask in
    let xs = map (register s) (reverse ns) in
    let few = few_named 15 mask in
    let long : length xs ≡ length ns = length-map (reverse ns) (register s) ∙ length-reverse ns in
    let p = laid xs [] (register s 14) s (λ top t. registers_popped mask (with_register t 14 top) leaf) memory (Went flow.Done u) end m.whole (words_of s (reverse ns) m.words) (m.words 14) (omega arith) tt came in
    let up : reverse xs ++ [] ≡ map (register s) ns = append-nil (reverse xs) ∙ (ap reverse (turned_map (register s) ns) ∙ reverse-reverse (map (register s) ns)) in
    let there : AreThere p.memory (mode s) p.bottom (map (register s) ns) = subst (AreThere p.memory (mode s) p.bottom) up p.there in
    let sp : register (with_register s 14 p.bottom) 14 ≡ p.bottom = get_or-set_same s.core.regs 14 p.bottom 0 (let f = m.registers in omega arith) in
    let here : AreThere p.memory (mode s) (register (with_register s 14 p.bottom) 14) (map (register s) ns) = subst (λ a. AreThere p.memory (mode s) a (map (register s) ns)) (sym sp) there in
    let out = popped p.memory (map (register s) ns) (length ns) (register (with_register s 14 p.bottom) 14) (with_register s 14 p.bottom) (λ values top t. leaf flow.Done (with_top mask top (with_registers ns values t))) (sym (length-map ns (register s))) here in
    let top : behind (length ns) (register (with_register s 14 p.bottom) 14) ≡ register s 14 = ap (behind (length ns)) sp ∙ (ap (λ n. behind n p.bottom) (sym long) ∙ p.above) in
    ends_so mask s u end p.memory m.registers p.bottom (behind (length ns) (register (with_register s 14 p.bottom) 14)) top (sym out ∙ p.goes_on)

-- ---- what PUSHR leaves

pub pushed_there : (mask : ℕ) (s t : State) (memory end : List Area) → IsMachine s memory → outcome_of (registers_pushed mask s leaf) memory ≡ Ends (Went flow.Done t) end → AreThere end (mode s) (register t 14) (map (register s) (named 15 mask))
unfolding registers_pushed saved outcome_of
pushed_there mask s t memory end m came =
    let ns = named 15 mask in
    let xs = map (register s) (reverse ns) in
    let few = few_named 15 mask in
    let long : length xs ≡ length ns = length-map (reverse ns) (register s) ∙ length-reverse ns in
    let p = laid xs [] (register s 14) s (λ top u. leaf flow.Done (with_register u 14 top)) memory (Went flow.Done t) end m.whole (words_of s (reverse ns) m.words) (m.words 14) (omega arith) tt came in
    let up : reverse xs ++ [] ≡ map (register s) ns = append-nil (reverse xs) ∙ (ap reverse (turned_map (register s) ns) ∙ reverse-reverse (map (register s) ns)) in
    let g = p.goes_on in
    let same : with_register s 14 p.bottom ≡ t = cc in
    let last : p.memory ≡ end = cc in
    let sp : p.bottom ≡ register t 14 = sym (get_or-set_same s.core.regs 14 p.bottom 0 (let f = m.registers in omega arith)) ∙ ap (λ u. register u 14) same in
    subst (λ a. AreThere end (mode s) a (map (register s) ns)) sp
    (subst (λ n. AreThere n (mode s) p.bottom (map (register s) ns)) last (subst (AreThere p.memory (mode s) p.bottom) up p.there))

-- ---- the count of arguments

low_of : (f : ℕ → ℕ) (a : ℕ) → f a < 256 → number f a 4 % 2 ^ 8 ≡ f a
unfolding number
low_of f a h = low_byte (f a) _ h

pub arguments_taken : (top : ℕ) (s : State) (next : ℕ → State → Accesses Leaf) (memory : List Area) → violation memory top 4 (mode s) Read ≡ None → byte_at memory top < 256 →
    outcome_of (behind_arguments true top s next) memory ≡ outcome_of (next (plus top (4 + 4 * byte_at memory top)) s) memory
unfolding behind_arguments read_at outcome_of
arguments_taken top s next memory fine byte = rw (fine, low_of (byte_at memory) top byte) refl
