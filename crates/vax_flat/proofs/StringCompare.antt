-- A comparison in parts is the comparison.
use Rattle.std.proofs.Common.{ℕ, zero, suc, ◌≡◌, ◌+◌, ◌-◌, ◌/◌, ◌%◌, ◌^◌, ◌<◌, ◌≤◌, ◌⊎◌, min, Bool, true, false, cond, not, ◌==◌, if◌then◌else◌, Option, Some, None, List, [], ◌∷◌, ◌++◌, length, replicate, slice_index, refl, sym, ap, ◌∙◌, inl, inr, arith}
use Rattle.std.specs.Prelude.{nat_le}
use Rattle.std.specs.List.{position_from, zip}
use Rattle.std.proofs.lemmas.Bool.{cases_Bool, cases_lt, eqb-true, eq-eqb, ne_eqb, cases_eq}
use Rattle.std.proofs.lemmas.Bool.Decides.{nat_tests}
use Rattle.std.proofs.lemmas.List.Quantifiers.{position-Some}
use Rattle.std.proofs.lemmas.Slice.Zip.{length-zip}
use Rattle.std.proofs.lemmas.Iterator.Adapters.{position_from-zero}
use Rattle.vax_space.specs.declared.Access.{Access}
use Rattle.vax_space.specs.declared.Access.TheVariants.{Read}
use Rattle.vax_space.specs.declared.Area.{Area}
use Rattle.vax_space.specs.Reference.{page_of, may_access, violation, violation_at}
use Rattle.vax_strpart.specs.declared.packing.Progress.{Progress}
use Rattle.vax_strpart.specs.declared.packing.Layout.{Layout}
use Rattle.vax_strpart.specs.declared.packing.Layout.TheVariants.{Moves, Compares, Searches, Scans, Translates}
use Rattle.vax_strpart.specs.Packing.{layout_of, packed, IsProper, AreUnusedZero}
use Rattle.vax_strpart.specs.Kernels.{first_difference}
use Rattle.vax_word.specs.declared.Codes.{Codes}
use Rattle.vax_flat.specs.declared.Flow.{Flow}
use Rattle.vax_flat.specs.declared.Flow.TheVariants as flow
use Rattle.vax_flat.specs.declared.Exception.TheVariants as exception
use Rattle.vax_flat.specs.Memory.{after, byte_at, number, bytes_from}
use Rattle.vax_flat.specs.State.{State, mode, with_conditions}
use Rattle.vax_flat.specs.Accesses.{Accesses, Leaf}
use Rattle.vax_flat.specs.Outcome.{Outcome, Raised, outcome_of, unless_violated}
use Rattle.vax_flat.specs.Operand.{plus, read_at, check_at}
use Rattle.vax_flat.specs.Bound.{LeavesNoPart}
use Rattle.vax_flat.specs.String.{low_registers, with_low, suspended, continued, completed, leaves, read_run_at, read_span, to_page_end, room_up, from_registers, IsReady}
use Rattle.vax_flat.specs.StringSearch.{if_found}
use Rattle.vax_flat.specs.declared.Rest.{Rest}
use Rattle.vax_flat.specs.StringCompare.{behind, compared_in, differs, equals, byte_or, compare, first_of, second_of, pairs_of, whole_compare, first_page, string_room, compare_room, filled_run, first_read, first_checked, compare_end, compare_run, compare_part}
use Rattle.vax_flat.specs.StringAgree.{and_rest, IsBehind}
use Rattle.vax_flat.proofs.StringState.{six, low_set, mode_low, conditions_low, continued_suspended, unpacked_suspended}
use Rattle.vax_flat.proofs.StringSearch.{first_barred, number_one, allowed_one, rest_of_whole, ends, last, left_so}

-- runs of which each byte may be read
pub allowed_each : (areas : List Area) (addr len mode : ℕ) (access : Access) → addr < 2 ^ 32 → ((i : ℕ) → i < len → may_access areas (page_of (plus addr i)) mode access ≡ true) → violation areas addr len mode access ≡ None
unfolding violation
allowed_each areas addr zero mode access small each = refl
allowed_each areas addr (suc len) mode access small each =
    let here : plus addr 0 ≡ addr = omega arith in
    rw (ap (λ a. may_access areas (page_of a) mode access) (sym here) ∙ each 0 (omega arith))
    (allowed_each areas (after addr) len mode access (omega arith) (λ i h. let e : plus (after addr) i ≡ plus addr (suc i) = omega arith in ap (λ a. may_access areas (page_of a) mode access) e ∙ each (suc i) (omega arith)))

pub run_append : (byte : ℕ → ℕ) (count len addr : ℕ) → addr < 2 ^ 32 → bytes_from byte addr count ++ bytes_from byte (plus addr count) len ≡ bytes_from byte addr (count + len)
unfolding bytes_from
run_append byte zero len addr small =
    let e : plus addr 0 ≡ addr = omega arith in
    let z : 0 + len ≡ len = omega arith in
    rw (e, z) refl
run_append byte (suc count) len addr small =
    let e : plus addr (suc count) ≡ plus (after addr) count = omega arith in
    let z : suc count + len ≡ suc (count + len) = omega arith in
    rw (e, z) (ap (λ l. byte addr ∷ l) (run_append byte count len (after addr) (omega arith)))

pub run_is : (addr len : ℕ) (s : State) (memory : List Area) (next : List ℕ → State → Accesses Leaf) → violation memory addr len (mode s) Read ≡ None → outcome_of (read_run_at addr len s next) memory ≡ outcome_of (next (bytes_from (byte_at memory) addr len) s) memory
unfolding read_run_at outcome_of
run_is addr len s memory next free = rw free refl

pub span_is : (addr len : ℕ) (s : State) (memory : List Area) (next : List ℕ → State → Accesses Leaf) → addr < 2 ^ 32 → ((i : ℕ) → i < len → may_access memory (page_of (plus addr i)) (mode s) Read ≡ true) → outcome_of (read_span addr len s next) memory ≡ outcome_of (next (bytes_from (byte_at memory) addr len) s) memory
unfolding read_span
span_is addr len s memory next small each = elim (cases_lt (to_page_end addr) len) [
  | inr fits ↦
      let t : nat_le len (to_page_end addr) ≡ true = grind (arith, nat_tests) in
      rw t (run_is addr len s memory next (allowed_each memory addr len (mode s) Read small each))
  | inl beyond ↦
      let f : nat_le len (to_page_end addr) ≡ false = grind (arith, nat_tests) in
      let n = to_page_end addr in
      let e : n + (len - n) ≡ len = omega arith in
      let low = allowed_each memory addr n (mode s) Read small (λ i h. each i (omega arith)) in
      let high = allowed_each memory (plus addr n) (len - n) (mode s) Read (omega arith) (λ i h. let p : plus (plus addr n) i ≡ plus addr (n + i) = omega arith in ap (λ a. may_access memory (page_of a) (mode s) Read) p ∙ each (n + i) (omega arith)) in
      rw f (run_is addr n s memory _ low ∙ (run_is (plus addr n) (len - n) s memory _ high
      ∙ ap (λ bytes. outcome_of (next bytes s) memory) (run_append (byte_at memory) n (len - n) addr small ∙ ap (bytes_from (byte_at memory) addr) e)))
]

pub rest_is : (a b : Rest) → a.len ≡ b.len → a.addr ≡ b.addr → a ≡ b
rest_is a b e f = rw (e, f) refl

pub behind_behind : (a : Rest) (m n : ℕ) → behind n (behind m a) ≡ behind (m + n) a
behind_behind a m n = rest_is _ _ (omega arith) (omega arith)

pub behind_none : (a : Rest) → a.addr < 2 ^ 32 → behind 0 a ≡ a
behind_none a small = rest_is _ _ (omega arith) (omega arith)

module _ (fill : ℕ) (memory : List Area) (s : State) where
  abbrev may : ℕ → Bool
  may addr = may_access memory (page_of addr) (mode s) Read

  -- the first byte of what is left, or the fill
  abbrev pub head : Rest → ℕ
  head r = if r.len == 0 then fill else byte_at memory r.addr

  abbrev pub IsOpen : Rest → Type 0
  IsOpen r = 0 < r.len → may r.addr ≡ true

  pub byte_is : (r : Rest) (k : ℕ → State → Accesses Leaf) → IsOpen r → outcome_of (byte_or fill r s k) memory ≡ outcome_of (k (head r) s) memory
  unfolding byte_or read_at outcome_of
  byte_is r k opens = elim (cases_eq r.len 0) [
    | inl e ↦ rw (eq-eqb r.len 0 e) refl
    | inr n ↦ rw (ne_eqb r.len 0 n, allowed_one memory r.addr (mode s) (opens (omega arith)), number_one (byte_at memory) r.addr) refl
  ]

  pub byte_barred : (r : Rest) (k : ℕ → State → Accesses Leaf) → 0 < r.len → may r.addr ≡ false → outcome_of (byte_or fill r s k) memory ≡ Raised (exception.Access (violation_at memory r.addr Read))
  unfolding byte_or read_at outcome_of
  byte_barred r k some bad = rw (ne_eqb r.len 0 (λ e. omega arith), first_barred memory r.addr 1 (mode s) Read (omega arith) bad) refl

  pub first_is : (r : Rest) (k : State → Accesses Leaf) → IsOpen r → outcome_of (first_read r s k) memory ≡ outcome_of (k s) memory
  unfolding first_read read_at outcome_of
  first_is r k opens = elim (cases_eq r.len 0) [
    | inl e ↦ rw (eq-eqb r.len 0 e) refl
    | inr n ↦ rw (ne_eqb r.len 0 n, allowed_one memory r.addr (mode s) (opens (omega arith))) refl
  ]

  pub first_stops : (r : Rest) (k : State → Accesses Leaf) → 0 < r.len → may r.addr ≡ false → outcome_of (first_read r s k) memory ≡ Raised (exception.Access (violation_at memory r.addr Read))
  unfolding first_read read_at outcome_of
  first_stops r k some bad = rw (ne_eqb r.len 0 (λ e. omega arith), first_barred memory r.addr 1 (mode s) Read (omega arith) bad) refl

  pub check_is : (r : Rest) (k : State → Accesses Leaf) → IsOpen r → outcome_of (first_checked r s k) memory ≡ outcome_of (k s) memory
  unfolding first_checked check_at outcome_of
  check_is r k opens = elim (cases_eq r.len 0) [
    | inl e ↦ rw (eq-eqb r.len 0 e) refl
    | inr n ↦ rw (ne_eqb r.len 0 n, allowed_one memory r.addr (mode s) (opens (omega arith))) refl
  ]

  pub check_stops : (r : Rest) (k : State → Accesses Leaf) → 0 < r.len → may r.addr ≡ false → outcome_of (first_checked r s k) memory ≡ Raised (exception.Access (violation_at memory r.addr Read))
  unfolding first_checked check_at outcome_of
  check_stops r k some bad = rw (ne_eqb r.len 0 (λ e. omega arith), first_barred memory r.addr 1 (mode s) Read (omega arith) bad) refl

  -- so many bytes of a string, with the fill behind its end
  unfoldable pub string_bytes : ℕ → Rest → List ℕ
  string_bytes zero r = []
  string_bytes (suc count) r = head r ∷ string_bytes count (behind 1 r)

  string_filled : (count : ℕ) (r : Rest) → r.len ≡ 0 → string_bytes count r ≡ replicate count fill
  unfolding string_bytes
  string_filled zero r e = refl
  string_filled (suc count) r e = rw (eq-eqb r.len 0 e) (ap (λ l. fill ∷ l) (string_filled count (behind 1 r) (omega arith)))

  pub string_is : (count : ℕ) (r : Rest) → r.addr < 2 ^ 32 → bytes_from (byte_at memory) r.addr (min count r.len) ++ replicate (count - min count r.len) fill ≡ string_bytes count r
  unfolding string_bytes bytes_from
  string_is zero r small = let e : min 0 r.len ≡ 0 = omega arith in rw e refl
  string_is (suc count) r small = elim (cases_eq r.len 0) [
    | inl e ↦ let m : min (suc count) r.len ≡ 0 = omega arith in let z : suc count - 0 ≡ suc count = omega arith in rw (m, z, eq-eqb r.len 0 e) (ap (λ l. fill ∷ l) (sym (string_filled count (behind 1 r) (omega arith))))
    | inr n ↦
        let m : min (suc count) r.len ≡ suc (min count (r.len - 1)) = omega arith in
        let d : suc count - suc (min count (r.len - 1)) ≡ count - min count (r.len - 1) = omega arith in
        let q : behind 1 r ≡ record { len = r.len - 1; addr = after r.addr } = rest_is _ _ refl (omega arith) in
        rw (m, d, ne_eqb r.len 0 n) (ap (λ l. byte_at memory r.addr ∷ l) (string_is count (record { len = r.len - 1; addr = after r.addr }) (omega arith) ∙ ap (string_bytes count) (sym q)))
  ]

  pub string_at : (count : ℕ) (r : Rest) (i : ℕ) → r.addr < 2 ^ 32 → i < count → slice_index (string_bytes count r) i ≡ head (behind i r)
  unfolding string_bytes
  string_at zero r i small h = absurd (omega arith)
  string_at (suc count) r zero small h = ap head (sym (behind_none r small))
  string_at (suc count) r (suc i) small h =
      let e : 1 + i ≡ suc i = omega arith in
      string_at count (behind 1 r) i (omega arith) (omega arith) ∙ ap head (behind_behind r 1 i ∙ ap (λ n. behind n r) e)

  pub length_string : (count : ℕ) (r : Rest) → length (string_bytes count r) ≡ count
  unfolding string_bytes
  length_string zero r = refl
  length_string (suc count) r = ap suc (length_string count (behind 1 r))

  pub filled_is : (count : ℕ) (r : Rest) (k : List ℕ → State → Accesses Leaf) → r.addr < 2 ^ 32 → ((i : ℕ) → i < count → i < r.len → may (plus r.addr i) ≡ true) → outcome_of (filled_run fill count r s k) memory ≡ outcome_of (k (string_bytes count r) s) memory
  unfolding filled_run
  filled_is count r k small each = elim (cases_eq r.len 0) [
    | inl e ↦ rw (eq-eqb r.len 0 e) (ap (λ bytes. outcome_of (k bytes s) memory) (sym (string_filled count r e)))
    | inr n ↦ rw (ne_eqb r.len 0 n) (span_is r.addr (min count r.len) s memory _ small (λ i h. each i (omega arith) (omega arith)) ∙ ap (λ bytes. outcome_of (k bytes s) memory) (string_is count r small))
  ]

  -- pairs that may be read are compared one after another
  module _ (a b : Rest) (total : ℕ) (next : Flow → State → Accesses Leaf) where
    abbrev pub differ : ℕ → Outcome Leaf
    differ i = outcome_of (differs (behind i a) (behind i b) (head (behind i a)) (head (behind i b)) s next) memory

    abbrev pub unlike : ℕ × ℕ → Bool
    unlike p = not (p.0 == p.1)

    found_or : (t : Bool) (i : ℕ) (o : Option ℕ) (y : Outcome Leaf) (u v : Accesses Leaf) → outcome_of v memory ≡ differ i → outcome_of u memory ≡ if_found o differ y → outcome_of (if t then u else v) memory ≡ if_found (cond (not t) (Some i) o) differ y
    found_or true i o y u v g h = h
    found_or false i o y u v g h = g

    one_pair : (pairs : ℕ) (c d : Rest) → IsOpen c → IsOpen d → outcome_of (compare fill (suc pairs) c d s next) memory ≡ outcome_of (if head c == head d then compare fill pairs (behind 1 c) (behind 1 d) s next else differs c d (head c) (head d) s next) memory
    unfolding compare
    one_pair pairs c d p q = byte_is c _ p ∙ byte_is d _ q

    pub run_compared : (count base : ℕ) → base + count ≤ total → ((i : ℕ) → i < base + count → IsOpen (behind i a)) → ((i : ℕ) → i < base + count → IsOpen (behind i b)) →
        outcome_of (compare fill (total - base) (behind base a) (behind base b) s next) memory
        ≡ if_found (position_from unlike base (zip (string_bytes count (behind base a)) (string_bytes count (behind base b)))) differ (outcome_of (compare fill (total - (base + count)) (behind (base + count) a) (behind (base + count) b) s next) memory)
    unfolding string_bytes
    run_compared zero base within p q = let e : base + 0 ≡ base = omega arith in rw e refl
    run_compared (suc count) base within p q =
        let e : total - base ≡ suc (total - (base + 1)) = omega arith in
        let c : base + suc count ≡ base + 1 + count = omega arith in
        let rest = run_compared count (base + 1) (omega arith) (λ i h. p i (omega arith)) (λ i h. q i (omega arith)) in
        rw (e, behind_behind a base 1, behind_behind b base 1, c)
        (one_pair (total - (base + 1)) (behind base a) (behind base b) (p base (omega arith)) (q base (omega arith))
        ∙ found_or (head (behind base a) == head (behind base b)) base _ _ _ _ refl (rw (behind_behind a base 1, behind_behind b base 1) rest))

or_read : (fill : ℕ) (r : Rest) (s t : State) (memory : List Area) (k l : ℕ → State → Accesses Leaf) → mode t ≡ mode s → ((x : ℕ) → outcome_of (k x t) memory ≡ outcome_of (l x s) memory) → outcome_of (byte_or fill r t k) memory ≡ outcome_of (byte_or fill r s l) memory
unfolding byte_or read_at outcome_of
or_read fill r s t memory k l same h = elim (cases_eq r.len 0) [
  | inl e ↦ rw (eq-eqb r.len 0 e) (h fill)
  | inr n ↦ rw (ne_eqb r.len 0 n, same) (ap (unless_violated (violation memory r.addr 1 (mode s) Read)) (h (number (byte_at memory) r.addr 1)))
]

some_room : (r : Rest) (page : ℕ) → 0 < string_room r page
unfolding string_room room_up
some_room r page = by (nat_le r.len (if page == r.addr / 512 + 1 then 512 else 512 - r.addr % 512)) (page == r.addr / 512 + 1)
  where
    by : (b c : Bool) → 0 < (if b then 512 else (if c then 512 else 512 - r.addr % 512))
    by true c = omega arith
    by false true = omega arith
    by false false = omega arith

unused_alike : (p : Progress) (n : ℕ) (layout : Layout) → layout ≡ Compares → AreUnusedZero layout p → AreUnusedZero layout (record p { done = p.done + n })
unused_alike p n Moves is u = u
unused_alike p n Compares is u = u
unused_alike p n Searches is u = absurd (cc)
unused_alike p n Scans is u = absurd (cc)
unused_alike p n Translates is u = u

compare_over : (fill : ℕ) (s t : State) (memory : List Area) (next : Flow → State → Accesses Leaf) → mode t ≡ mode s →
    ((a b : Rest) → outcome_of (equals a b t next) memory ≡ outcome_of (equals a b s next) memory) →
    ((a b : Rest) (x y : ℕ) → outcome_of (differs a b x y t next) memory ≡ outcome_of (differs a b x y s next) memory) →
    (pairs : ℕ) (a b : Rest) → outcome_of (compare fill pairs a b t next) memory ≡ outcome_of (compare fill pairs a b s next) memory
unfolding compare
compare_over fill s t memory next same e d zero a b = e a b
compare_over fill s t memory next same e d (suc pairs) a b =
    let further = compare_over fill s t memory next same e d pairs (behind 1 a) (behind 1 b) in
    or_read fill a s t memory _ _ same (λ x. or_read fill b s t memory _ _ same (λ y. by_test (x == y) x y further))
  where
    by_test : (test : Bool) (x y : ℕ) → outcome_of (compare fill pairs (behind 1 a) (behind 1 b) t next) memory ≡ outcome_of (compare fill pairs (behind 1 a) (behind 1 b) s next) memory → outcome_of (if test then compare fill pairs (behind 1 a) (behind 1 b) t next else differs a b x y t next) memory ≡ outcome_of (if test then compare fill pairs (behind 1 a) (behind 1 b) s next else differs a b x y s next) memory
    by_test true x y further = further
    by_test false x y further = d a b x y

-- how far the strings of a part stay in the pages of its first pair
in_room : (a : Rest) (page count i : ℕ) → a.addr < 2 ^ 32 → (page < 2 ^ 23) ⊎ (page ≡ 2 ^ 23 + 1) → count ≤ string_room a page → count ≤ 512 → i < count → i < a.len → (page_of (plus a.addr i) ≡ page_of a.addr) ⊎ (page_of (plus a.addr i) ≡ page)
unfolding string_room room_up
in_room a page count i small there few most h k = by (page == a.addr / 512 + 1) refl
  where
    within : i < (if page == a.addr / 512 + 1 then 512 else 512 - a.addr % 512)
    within = by_len (nat_le a.len (if page == a.addr / 512 + 1 then 512 else 512 - a.addr % 512)) refl few
      where
        by_len : (b : Bool) → nat_le a.len (if page == a.addr / 512 + 1 then 512 else 512 - a.addr % 512) ≡ b → count ≤ (if b then 512 else (if page == a.addr / 512 + 1 then 512 else 512 - a.addr % 512)) → i < (if page == a.addr / 512 + 1 then 512 else 512 - a.addr % 512)
        by_len true is most = grind (arith, nat_tests)
        by_len false is most = omega arith

    by : (b : Bool) → (page == a.addr / 512 + 1) ≡ b → (page_of (plus a.addr i) ≡ page_of a.addr) ⊎ (page_of (plus a.addr i) ≡ page)
    by true is = let e : page ≡ a.addr / 512 + 1 = eqb-true _ _ is in elim (cases_lt (a.addr % 512 + i) 512) [ inl l ↦ inl (omega arith) | inr g ↦ inr (omega arith) ]
    by false is = let w : i < 512 - a.addr % 512 = rw is at within in inl (omega arith)

nothing_compared : (fill : ℕ) (a b : Rest) (s : State) (next : Flow → State → Accesses Leaf) (memory : List Area) → outcome_of (compare fill 0 a b s next) memory ≡ outcome_of (equals a b s next) memory
unfolding compare
nothing_compared fill a b s next memory = refl

first_bad : (fill pairs : ℕ) (a b : Rest) (s : State) (next : Flow → State → Accesses Leaf) (memory : List Area) → 0 < a.len → may_access memory (page_of a.addr) (mode s) Read ≡ false → outcome_of (compare fill (suc pairs) a b s next) memory ≡ Raised (exception.Access (violation_at memory a.addr Read))
unfolding compare
first_bad fill pairs a b s next memory some bad = byte_barred fill memory s a _ some bad

second_bad : (fill pairs : ℕ) (a b : Rest) (s : State) (next : Flow → State → Accesses Leaf) (memory : List Area) → (0 < a.len → may_access memory (page_of a.addr) (mode s) Read ≡ true) → 0 < b.len → may_access memory (page_of b.addr) (mode s) Read ≡ false → outcome_of (compare fill (suc pairs) a b s next) memory ≡ Raised (exception.Access (violation_at memory b.addr Read))
unfolding compare
second_bad fill pairs a b s next memory good some bad = byte_is fill memory s a _ good ∙ byte_barred fill memory s b _ some bad

stays_open : (c d : Rest) (may : ℕ → Bool) (count i : ℕ) → c.addr < 2 ^ 32 → d.addr < 2 ^ 32 → count ≤ string_room c (first_page d) → count ≤ 512 → (0 < c.len → may (page_of c.addr) ≡ true) → (0 < d.len → may (page_of d.addr) ≡ true) → i < count → i < c.len → may (page_of (plus c.addr i)) ≡ true
stays_open c d may count i small1 small2 few most opens1 opens2 h k = by (d.len == 0) refl few
  where
    by : (b : Bool) → (d.len == 0) ≡ b → count ≤ string_room c (if b then 2 ^ 23 + 1 else d.addr / 512) → may (page_of (plus c.addr i)) ≡ true
    by true is few = elim (in_room c (2 ^ 23 + 1) count i small1 (inr refl) few most h k) [
      | inl e ↦ ap may e ∙ opens1 (omega arith)
      | inr e ↦ absurd (omega arith)
    ]
    by false is few = elim (in_room c (d.addr / 512) count i small1 (inl (omega arith)) few most h k) [
      | inl e ↦ ap may e ∙ opens1 (omega arith)
      | inr e ↦ ap may e ∙ opens2 (let n : (d.len ≡ 0 → ⊥) = λ z. (let t : (d.len == 0) ≡ true = eq-eqb _ _ z in cc) in above n)
    ]
      where
        above : (d.len ≡ 0 → ⊥) → 0 < d.len
        above n = omega arith

swapped : (o : Option ℕ) (f g : ℕ → Outcome Leaf) (y : Outcome Leaf) → ((i : ℕ) → o ≡ Some i → f i ≡ g i) → if_found o f y ≡ if_found o g y
swapped (Some i) f g y h = h i refl
swapped None f g y h = refl

-- CMPC3, CMPC5
module _ (p : Progress) (s : State) (memory : List Area) (next : Flow → State → Accesses Leaf) (is_behind : IsBehind next) (ready : IsReady s) (proper : IsProper p) (kind : layout_of p.op ≡ Compares) (small1 : p.addr1 < 2 ^ 32) (small2 : p.addr2 < 2 ^ 32) (short : p.delta < 2 ^ 8) where
  abbrev rest : State → Accesses Leaf
  rest t = from_registers p.op whole_compare t next

  abbrev a : Rest
  a = behind p.done (first_of p)

  abbrev b : Rest
  b = behind p.done (second_of p)

  abbrev total : ℕ
  total = pairs_of p - p.done

  abbrev readable : ℕ → Bool
  readable addr = may_access memory (page_of addr) (mode s) Read

  abbrev whole : Outcome Leaf
  whole = outcome_of (whole_compare p s next) memory

  small_a : a.addr < 2 ^ 32
  small_a = omega arith

  small_b : b.addr < 2 ^ 32
  small_b = omega arith

  done_equal : (c d : Rest) → LeavesNoPart (outcome_of (equals c d s next) memory)
  unfolding equals completed
  done_equal c d = is_behind.done _ memory

  done_differ : (c d : Rest) (x y : ℕ) → LeavesNoPart (outcome_of (differs c d x y s next) memory)
  unfolding differs completed
  done_differ c d x y = is_behind.done _ memory

  kept_list : (c d : Rest) (old : List ℕ) (q : Progress) → layout_of q.op ≡ Compares → compared_in c d (six (packed q old)) ≡ compared_in c d (six old)
  unfolding packed
  kept_list c d old q is = rw is refl

  kept : (q : Progress) → q.op ≡ p.op → (c d : Rest) (codes : Codes) → with_low (compared_in c d (low_registers (with_low (packed q (low_registers s)) s))) (with_conditions (with_low (packed q (low_registers s)) s) codes) ≡ with_low (compared_in c d (low_registers s)) (with_conditions s codes)
  kept q same c d codes =
      let xs = packed q (low_registers s) in
      ap (λ ys. with_low ys (with_conditions (with_low xs s) codes)) (ap (compared_in c d) (low_set s xs ready.full) ∙ kept_list c d (low_registers s) q (ap layout_of same ∙ kind))
      ∙ conditions_low s xs (compared_in c d (low_registers s)) codes ready.full

  equal_over : (q : Progress) → q.op ≡ p.op → (c d : Rest) → outcome_of (equals c d (with_low (packed q (low_registers s)) s) next) memory ≡ outcome_of (equals c d s next) memory
  unfolding equals completed
  equal_over q same c d = ap (λ t. outcome_of (next flow.Done t) memory) (kept q same c d _)

  differ_over : (q : Progress) → q.op ≡ p.op → (c d : Rest) (x y : ℕ) → outcome_of (differs c d x y (with_low (packed q (low_registers s)) s) next) memory ≡ outcome_of (differs c d x y s next) memory
  unfolding differs completed
  differ_over q same c d x y = ap (λ t. outcome_of (next flow.Done t) memory) (kept q same c d _)

  further : (n : ℕ) → outcome_of (rest (suspended (record p { done = p.done + n }) s)) memory ≡ outcome_of (compare p.byte (total - n) (behind n a) (behind n b) s next) memory
  further n =
      let q = record p { done = p.done + n } in
      let fits : IsProper q = record { len1 = proper.len1; byte = proper.byte; len2 = proper.len2; unused = unused_alike p n (layout_of p.op) kind proper.unused } in
      let e : pairs_of p - (p.done + n) ≡ total - n = omega arith in
      ap (λ r. outcome_of (whole_compare r (continued r.delta (suspended q s)) next) memory) (unpacked_suspended q s ready.full fits)
      ∙ (ap (λ t. outcome_of (whole_compare q t next) memory) (continued_suspended q s ready short)
      ∙ (compare_over p.byte s (with_low (packed q (low_registers s)) s) memory next (mode_low s _) (equal_over q refl) (differ_over q refl) (pairs_of p - (p.done + n)) (behind (p.done + n) (first_of p)) (behind (p.done + n) (second_of p))
      ∙ rw (behind_behind (first_of p) p.done n, behind_behind (second_of p) p.done n, e) refl))

  abbrev count : ℕ
  count = compare_room p

  room : (0 < total → 0 < count) × (count ≤ total) × (count ≤ 512) × (count ≤ string_room a (first_page b)) × (count ≤ string_room b (first_page a))
  unfolding compare_room
  room = (λ h. let l = some_room a (first_page b) in let m = some_room b (first_page a) in omega arith, omega arith, omega arith, omega arith, omega arith)

  abbrev xs : List ℕ
  xs = string_bytes p.byte memory s count a

  abbrev ys : List ℕ
  ys = string_bytes p.byte memory s count b

  open_a : (0 < a.len → readable a.addr ≡ true) → (0 < b.len → readable b.addr ≡ true) → (i : ℕ) → i < count → i < a.len → readable (plus a.addr i) ≡ true
  open_a opens1 opens2 i h k = stays_open a b (λ page. may_access memory page (mode s) Read) count i small_a small_b room.3 room.2 opens1 opens2 h k

  open_b : (0 < a.len → readable a.addr ≡ true) → (0 < b.len → readable b.addr ≡ true) → (i : ℕ) → i < count → i < b.len → readable (plus b.addr i) ≡ true
  open_b opens1 opens2 i h k = stays_open b a (λ page. may_access memory page (mode s) Read) count i small_b small_a room.4 room.2 opens2 opens1 h k

  head_open : (c : Rest) → c.addr < 2 ^ 32 → ((i : ℕ) → i < count → i < c.len → readable (plus c.addr i) ≡ true) → (i : ℕ) → i < 0 + count → 0 < (behind i c).len → readable (behind i c).addr ≡ true
  head_open c small each i h k = let e : min i c.len ≡ i = omega arith in rw e (each i (omega arith) (omega arith))

  abbrev tail : Accesses Leaf
  tail = if_found (first_difference xs ys) (λ i. differs (behind i a) (behind i b) (slice_index xs i) (slice_index ys i) s next) (if count == total then equals (behind count a) (behind count b) s next else leaves (record p { done = p.done + count }) count s next)

  part_open : (0 < a.len → readable a.addr ≡ true) → (0 < b.len → readable b.addr ≡ true) → outcome_of (compare_run p count s next) memory ≡ outcome_of tail memory
  unfolding compare_run compare_end
  part_open opens1 opens2 =
      first_is p.byte memory s a _ opens1
      ∙ (check_is p.byte memory s b _ opens2
      ∙ (filled_is p.byte memory s count a _ small_a (open_a opens1 opens2)
      ∙ filled_is p.byte memory s count b _ small_b (open_b opens1 opens2)))

  abbrev differing : ℕ → Outcome Leaf
  differing = differ p.byte memory s a b total next

  whole_open : (0 < a.len → readable a.addr ≡ true) → (0 < b.len → readable b.addr ≡ true) → whole ≡ if_found (first_difference xs ys) differing (outcome_of (compare p.byte (total - count) (behind count a) (behind count b) s next) memory)
  whole_open opens1 opens2 =
      let law = run_compared p.byte memory s a b total next count 0 (let h = room.1 in omega arith) (head_open a small_a (open_a opens1 opens2)) (head_open b small_b (open_b opens1 opens2)) in
      let zero_added : 0 + count ≡ count = omega arith in
      let all : total - 0 ≡ total = omega arith in
      rw (position_from-zero (λ (q : ℕ × ℕ). not (q.0 == q.1)) (zip xs ys)) (rw (zero_added, all, behind_none a small_a, behind_none b small_b) at law)

  same_found : (i : ℕ) → first_difference xs ys ≡ Some i → differing i ≡ outcome_of (differs (behind i a) (behind i b) (slice_index xs i) (slice_index ys i) s next) memory
  same_found i is =
      let h = (position-Some (λ (q : ℕ × ℕ). not (q.0 == q.1)) (zip xs ys) i (0, 0) is).0 in
      let l = length-zip xs ys in
      let la = length_string p.byte memory s count a in
      let lb = length_string p.byte memory s count b in
      let k : i < count = omega arith in
      rw (string_at p.byte memory s count a i small_a k, string_at p.byte memory s count b i small_b k) refl

  agrees_open : (0 < a.len → readable a.addr ≡ true) → (0 < b.len → readable b.addr ≡ true) → whole ≡ and_rest rest (outcome_of (compare_run p count s next) memory)
  agrees_open opens1 opens2 =
      whole_open opens1 opens2
      ∙ (swapped (first_difference xs ys) differing _ _ same_found
      ∙ (ends s next memory rest (first_difference xs ys) (λ i. differs (behind i a) (behind i b) (slice_index xs i) (slice_index ys i) s next) _ _ (λ i. done_differ (behind i a) (behind i b) (slice_index xs i) (slice_index ys i))
      (last s next memory rest (count == total) _ _ _
      (λ is. let e : count ≡ total = eqb-true _ _ is in
      let z : total - count ≡ 0 = omega arith in
      ap (λ n. outcome_of (compare p.byte n (behind count a) (behind count b) s next) memory) z ∙ (nothing_compared p.byte (behind count a) (behind count b) s next memory ∙ sym (rest_of_whole rest _ (done_equal (behind count a) (behind count b)))))
      (λ isn't. sym (further count) ∙ sym (left_so s next memory rest is_behind (record p { done = p.done + count }) count)))
      ∙ ap (and_rest rest) (sym (part_open opens1 opens2))))

  whole_first : 0 < total → 0 < a.len → readable a.addr ≡ false → whole ≡ Raised (exception.Access (violation_at memory a.addr Read))
  whole_first more some bad = let e : total ≡ suc (total - 1) = omega arith in ap (λ n. outcome_of (compare p.byte n a b s next) memory) e ∙ first_bad p.byte (total - 1) a b s next memory some bad

  whole_second : 0 < total → (0 < a.len → readable a.addr ≡ true) → 0 < b.len → readable b.addr ≡ false → whole ≡ Raised (exception.Access (violation_at memory b.addr Read))
  whole_second more good some bad = let e : total ≡ suc (total - 1) = omega arith in ap (λ n. outcome_of (compare p.byte n a b s next) memory) e ∙ second_bad p.byte (total - 1) a b s next memory good some bad

  part_first : 0 < a.len → readable a.addr ≡ false → outcome_of (compare_run p count s next) memory ≡ Raised (exception.Access (violation_at memory a.addr Read))
  unfolding compare_run
  part_first some bad = first_stops p.byte memory s a _ some bad

  part_second : (0 < a.len → readable a.addr ≡ true) → 0 < b.len → readable b.addr ≡ false → outcome_of (compare_run p count s next) memory ≡ Raised (exception.Access (violation_at memory b.addr Read))
  unfolding compare_run
  part_second good some bad = first_is p.byte memory s a _ good ∙ check_stops p.byte memory s b _ some bad

  opened : (r : Rest) → ((0 < r.len) × (readable r.addr ≡ false)) ⊎ (0 < r.len → readable r.addr ≡ true)
  opened r = elim (cases_Bool (readable r.addr)) [
    | inl good ↦ inr (λ h. good)
    | inr bad ↦ elim (cases_lt 0 r.len) [ inl h ↦ inl (h, bad) | inr l ↦ inr (λ h. absurd (omega arith)) ]
  ]

  agrees_some : 0 < total → whole ≡ and_rest rest (outcome_of (compare_run p count s next) memory)
  agrees_some more = elim (opened a) [
    | inl f ↦ whole_first more f.0 f.1 ∙ ap (and_rest rest) (sym (part_first f.0 f.1))
    | inr good ↦ elim (opened b) [
      | inl f ↦ whole_second more good f.0 f.1 ∙ ap (and_rest rest) (sym (part_second good f.0 f.1))
      | inr fine ↦ agrees_open good fine
    ]
  ]

  pub compare_agrees : whole ≡ and_rest rest (outcome_of (compare_part p s next) memory)
  unfolding compare_part
  compare_agrees = elim (cases_eq total 0) [
    | inl e ↦ rw (eq-eqb total 0 e) (ap (λ n. outcome_of (compare p.byte n a b s next) memory) e ∙ (nothing_compared p.byte a b s next memory ∙ sym (rest_of_whole rest _ (done_equal a b))))
    | inr n ↦ rw (ne_eqb total 0 n) (agrees_some (omega arith))
  ]
