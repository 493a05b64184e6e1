-- A search in parts is the search.
use Rattle.std.proofs.Common.{ℕ, zero, suc, ◌≡◌, ◌+◌, ◌-◌, ◌%◌, ◌^◌, ◌<◌, ◌≤◌, Bool, true, false, cond, not, ◌==◌, if◌then◌else◌, Option, Some, None, List, [], ◌∷◌, length, refl, sym, ap, ◌∙◌, inl, inr, arith}
use Rattle.std.specs.List.{position, position_from}
use Rattle.std.proofs.lemmas.Bool.{cases_Bool, eqb-true, eq-eqb, ne_eqb, cases_eq}
use Rattle.std.proofs.lemmas.Iterator.Adapters.{position_from-zero}
use Rattle.vax_space.specs.declared.Access.{Access}
use Rattle.vax_space.specs.declared.Access.TheVariants.{Read}
use Rattle.vax_space.specs.declared.Area.{Area}
use Rattle.vax_space.specs.Reference.{page_of, may_access, violation, violation_at}
use Rattle.vax_strpart.specs.declared.packing.Progress.{Progress}
use Rattle.vax_strpart.specs.declared.packing.Layout.{Layout}
use Rattle.vax_strpart.specs.declared.packing.Layout.TheVariants.{Moves, Compares, Searches, Scans, Translates}
use Rattle.vax_strpart.specs.Packing.{layout_of, packed, IsProper, AreUnusedZero}
use Rattle.vax_flat.specs.declared.Flow.{Flow}
use Rattle.vax_flat.specs.declared.Flow.TheVariants as flow
use Rattle.vax_flat.specs.declared.Exception.TheVariants as exception
use Rattle.vax_flat.specs.Memory.{after, byte_at, number, bytes_from}
use Rattle.vax_flat.specs.State.{State, mode, with_conditions}
use Rattle.vax_flat.specs.Accesses.{Accesses, Leaf, Went, Found}
use Rattle.vax_flat.specs.Outcome.{Outcome, Ends, Raised, outcome_of, unless_violated}
use Rattle.vax_flat.specs.Operand.{plus, read_at}
use Rattle.vax_flat.specs.Bound.{LeavesNoPart}
use Rattle.vax_flat.specs.String.{low_registers, with_low, suspended, continued, leaves, completed, read_run_at, from_registers, IsReady}
use Rattle.vax_flat.specs.StringSearch.{Examines, Finishes, located, by_byte, is_sought, sought, whole_search, searched, search_room, if_found, search_end, search_run, search_part, found_in, found_codes}
use Rattle.vax_flat.specs.StringAgree.{and_rest, IsBehind}
use Rattle.vax_flat.proofs.Memory.{allowed_first}
use Rattle.vax_flat.proofs.StringState.{six, low_set, mode_low, conditions_low, continued_suspended, unpacked_suspended}

-- a range within one page
pub page_allowed : (areas : List Area) (addr len mode : ℕ) (access : Access) → addr < 2 ^ 32 → addr % 512 + len ≤ 512 → may_access areas (page_of addr) mode access ≡ true → violation areas addr len mode access ≡ None
unfolding violation
page_allowed areas addr zero mode access small within may = refl
page_allowed areas addr (suc zero) mode access small within may = rw may refl
page_allowed areas addr (suc (suc len)) mode access small within may =
    let same : page_of (after addr) ≡ page_of addr = omega arith in
    rw may (page_allowed areas (after addr) (suc len) mode access (omega arith) (omega arith) (ap (λ page. may_access areas page mode access) same ∙ may))

pub first_barred : (areas : List Area) (addr len mode : ℕ) (access : Access) → 0 < len → may_access areas (page_of addr) mode access ≡ false → violation areas addr len mode access ≡ Some (violation_at areas addr access)
unfolding violation
first_barred areas addr zero mode access some may = absurd (omega arith)
first_barred areas addr (suc len) mode access some may = rw may refl

pub number_one : (byte : ℕ → ℕ) (addr : ℕ) → number byte addr 1 ≡ byte addr
unfolding number
number_one byte addr = omega arith

pub length_run : (byte : ℕ → ℕ) (addr len : ℕ) → length (bytes_from byte addr len) ≡ len
unfolding bytes_from
length_run byte addr zero = refl
length_run byte addr (suc len) = ap suc (length_run byte (after addr) len)

pub allowed_one : (areas : List Area) (addr mode : ℕ) → may_access areas (page_of addr) mode Read ≡ true → violation areas addr 1 mode Read ≡ None
unfolding violation
allowed_one areas addr mode may = rw may refl

-- a property of each byte
pub data Each (P : ℕ → Type 0) : List ℕ → Type 0 where
  none : Each P []
  more : (x : ℕ) (xs : List ℕ) → P x → Each P xs → Each P (x ∷ xs)

pub each_head : (P : ℕ → Type 0) (x : ℕ) (xs : List ℕ) → Each P (x ∷ xs) → P x
each_head P x xs (more _ _ h r) = h

pub each_tail : (P : ℕ → Type 0) (x : ℕ) (xs : List ℕ) → Each P (x ∷ xs) → Each P xs
each_tail P x xs (more _ _ h r) = r

-- bytes that may be read are examined one after another
module _ (examine : Examines) (finish : Finishes) (test : ℕ → Bool) (s : State) (next : Flow → State → Accesses Leaf) (memory : List Area) where
  abbrev pub Tells : ℕ → Type 0
  Tells x = (k : Bool → State → Accesses Leaf) → outcome_of (examine x s k) memory ≡ outcome_of (k (test x) s) memory

  abbrev at : ℕ → ℕ → ℕ → Outcome Leaf
  at total addr i = outcome_of (finish (total - i) (plus addr i) s next) memory

  found_or : (b : Bool) (i : ℕ) (o : Option ℕ) (f : ℕ → Outcome Leaf) (x y : Outcome Leaf) (t u : Accesses Leaf) → x ≡ f i → outcome_of t memory ≡ x → outcome_of u memory ≡ if_found o f y → outcome_of (if b then t else u) memory ≡ if_found (cond b (Some i) o) f y
  found_or true i o f x y t u e g h = g ∙ e
  found_or false i o f x y t u e g h = h

  unfolded : (left place : ℕ) → may_access memory (page_of place) (mode s) Read ≡ true → Tells (byte_at memory place) → outcome_of (sought examine finish (suc left) place s next) memory ≡ outcome_of (if test (byte_at memory place) then finish (suc left) place s next else sought examine finish left (after place) s next) memory
  unfolding sought read_at outcome_of
  unfolded left place may tells = rw (allowed_one memory place (mode s) may, number_one (byte_at memory) place) (tells _)

  pub run_sought : (count base total addr : ℕ) → addr < 2 ^ 32 → base + count ≤ total → violation memory (plus addr base) count (mode s) Read ≡ None → Each Tells (bytes_from (byte_at memory) (plus addr base) count) →
      outcome_of (sought examine finish (total - base) (plus addr base) s next) memory ≡ if_found (position_from test base (bytes_from (byte_at memory) (plus addr base) count)) (at total addr) (outcome_of (sought examine finish (total - (base + count)) (plus addr (base + count)) s next) memory)
  unfolding bytes_from
  run_sought zero base total addr small within allowed all = let e : base + 0 ≡ base = omega arith in rw e refl
  run_sought (suc count) base total addr small within allowed all =
      let e : total - base ≡ suc (total - (base + 1)) = omega arith in
      let a : after (plus addr base) ≡ plus addr (base + 1) = omega arith in
      let c : base + suc count ≡ base + 1 + count = omega arith in
      let g = allowed_first memory (plus addr base) count (mode s) Read allowed in
      let x = byte_at memory (plus addr base) in
      let rest = run_sought count (base + 1) total addr small (omega arith) (ap (λ b. violation memory b count (mode s) Read) (sym a) ∙ g.1) (rw a at (each_tail Tells x _ all)) in
      rw (e, a, c) (unfolded (total - (base + 1)) (plus addr base) g.0 (each_head Tells x _ all)
      ∙ found_or (test x) base _ (at total addr) _ _ _ _ refl (ap (λ n. outcome_of (finish n (plus addr base) s next) memory) (sym e)) (rw a rest))

pub whole_barred : (examine : Examines) (finish : Finishes) (s : State) (next : Flow → State → Accesses Leaf) (memory : List Area) (left addr : ℕ) → 0 < left → may_access memory (page_of addr) (mode s) Read ≡ false → outcome_of (sought examine finish left addr s next) memory ≡ Raised (exception.Access (violation_at memory addr Read))
unfolding sought read_at outcome_of
whole_barred examine finish s next memory zero addr some may = absurd (omega arith)
whole_barred examine finish s next memory (suc left) addr some may = rw (first_barred memory addr 1 (mode s) Read (omega arith) may) refl

pub nothing_sought : (examine : Examines) (finish : Finishes) (s : State) (next : Flow → State → Accesses Leaf) (memory : List Area) (addr : ℕ) → outcome_of (sought examine finish 0 addr s next) memory ≡ outcome_of (finish 0 addr s next) memory
unfolding sought
nothing_sought examine finish s next memory addr = refl

-- what is left where a search goes on with other low registers
module _ (examine : Examines) (finish : Finishes) (s t : State) (next : Flow → State → Accesses Leaf) (memory : List Area) where
  abbrev pub Alike : Type 0
  Alike = (x : ℕ) (k l : Bool → State → Accesses Leaf) → ((b : Bool) → outcome_of (k b t) memory ≡ outcome_of (l b s) memory) → outcome_of (examine x t k) memory ≡ outcome_of (examine x s l) memory

  by_test : (b : Bool) (x x' y y' : Accesses Leaf) → outcome_of x memory ≡ outcome_of x' memory → outcome_of y memory ≡ outcome_of y' memory → outcome_of (if b then x else y) memory ≡ outcome_of (if b then x' else y') memory
  by_test true x x' y y' e f = e
  by_test false x x' y y' e f = f

  pub sought_over : mode t ≡ mode s → Alike → ((left addr : ℕ) → outcome_of (finish left addr t next) memory ≡ outcome_of (finish left addr s next) memory) → (left addr : ℕ) → outcome_of (sought examine finish left addr t next) memory ≡ outcome_of (sought examine finish left addr s next) memory
  unfolding sought read_at outcome_of
  sought_over same alike ends zero addr = ends 0 addr
  sought_over same alike ends (suc left) addr =
      rw same (ap (unless_violated (violation memory addr 1 (mode s) Read))
      (alike (number (byte_at memory) addr 1) _ _ (λ b. by_test b _ _ _ _ (ends (suc left) addr) (sought_over same alike ends left (after addr)))))

pub rest_of_whole : (rest : State → Accesses Leaf) (o : Outcome Leaf) → LeavesNoPart o → and_rest rest o ≡ o
rest_of_whole rest (Ends (Went flow.Done s) memory) h = refl
rest_of_whole rest (Ends (Went flow.Clocked s) memory) h = refl
rest_of_whole rest (Ends (Went (flow.Trap kind) s) memory) h = refl
rest_of_whole rest (Ends (Went (flow.More opcode units) s) memory) h = absurd h
rest_of_whole rest (Ends (Went (flow.Ended e) s) memory) h = refl
rest_of_whole rest (Ends (Found operand s) memory) h = refl
rest_of_whole rest (Raised e) h = refl

-- the end of a part
module _ (s : State) (next : Flow → State → Accesses Leaf) (memory : List Area) (rest : State → Accesses Leaf) where
  pub ends : (o : Option ℕ) (f : ℕ → Accesses Leaf) (t : Accesses Leaf) (whole : Outcome Leaf) → ((i : ℕ) → LeavesNoPart (outcome_of (f i) memory)) → whole ≡ and_rest rest (outcome_of t memory) → if_found o (λ i. outcome_of (f i) memory) whole ≡ and_rest rest (outcome_of (if_found o f t) memory)
  ends (Some i) f t whole done e = sym (rest_of_whole rest (outcome_of (f i) memory) (done i))
  ends None f t whole done e = e

  pub last : (b : Bool) (x y : Accesses Leaf) (whole : Outcome Leaf) → (b ≡ true → whole ≡ and_rest rest (outcome_of x memory)) → (b ≡ false → whole ≡ and_rest rest (outcome_of y memory)) → whole ≡ and_rest rest (outcome_of (if b then x else y) memory)
  last true x y whole e f = e refl
  last false x y whole e f = f refl

  pub left_so : IsBehind next → (q : Progress) (units : ℕ) → and_rest rest (outcome_of (leaves q units s next) memory) ≡ outcome_of (rest (suspended q s)) memory
  unfolding leaves outcome_of
  left_so behind q units = rw (behind.more q.op units (suspended q s)) refl

module _ (finish : Finishes) (test : ℕ → Bool) (p : Progress) (s : State) (next : Flow → State → Accesses Leaf) (memory : List Area) (rest : State → Accesses Leaf) where
  pub ended : (examine : Examines) (bytes : List ℕ) → IsBehind next → length bytes ≤ p.len1 →
      ((left addr : ℕ) → LeavesNoPart (outcome_of (finish left addr s next) memory)) →
      (length bytes < p.len1 → outcome_of (rest (suspended (searched p (length bytes)) s)) memory ≡ outcome_of (sought examine finish (p.len1 - length bytes) (plus p.addr1 (length bytes)) s next) memory) →
      if_found (position test bytes) (λ i. outcome_of (finish (p.len1 - i) (plus p.addr1 i) s next) memory) (outcome_of (sought examine finish (p.len1 - length bytes) (plus p.addr1 (length bytes)) s next) memory)
      ≡ and_rest rest (outcome_of (search_end finish test p bytes s next) memory)
  unfolding search_end
  ended examine bytes behind few done goes =
      ends s next memory rest (position test bytes) (λ i. finish (p.len1 - i) (plus p.addr1 i) s next) _ _ (λ i. done (p.len1 - i) (plus p.addr1 i))
      (last s next memory rest (length bytes == p.len1) _ _ _
      (λ is. let e : length bytes ≡ p.len1 = eqb-true _ _ is in
      ap (λ n. outcome_of (sought examine finish n (plus p.addr1 (length bytes)) s next) memory) (let z : p.len1 - length bytes ≡ 0 = omega arith in z)
      ∙ (nothing_sought examine finish s next memory (plus p.addr1 (length bytes)) ∙ sym (rest_of_whole rest _ (done 0 (plus p.addr1 (length bytes))))))
      (λ isn't. sym (goes (let n : (length bytes ≡ p.len1 → ⊥) = λ e. (let y : (length bytes == p.len1) ≡ true = eq-eqb _ _ e in cc) in less n few)) ∙ sym (left_so s next memory rest behind (searched p (length bytes)) (length bytes))))
    where
      less : (length bytes ≡ p.len1 → ⊥) → length bytes ≤ p.len1 → length bytes < p.len1
      less n l = omega arith

pub unused_alike : (p : Progress) (n : ℕ) (layout : Layout) → AreUnusedZero layout p → AreUnusedZero layout (searched p n)
unused_alike p n Moves u = u
unused_alike p n Compares u = u
unused_alike p n Searches u = u
unused_alike p n Scans u = u
unused_alike p n Translates u = u

-- LOCC, SKPC
module _ (equal : Bool) (p : Progress) (s : State) (memory : List Area) (next : Flow → State → Accesses Leaf) (behind : IsBehind next) (ready : IsReady s) (proper : IsProper p) (kind : layout_of p.op ≡ Searches) (small : p.addr1 < 2 ^ 32) (short : p.delta < 2 ^ 8) where
  abbrev rest : State → Accesses Leaf
  rest t = from_registers p.op (whole_search equal) t next

  done : (left addr : ℕ) → LeavesNoPart (outcome_of (located left addr s next) memory)
  unfolding located completed
  done left addr = behind.done _ memory

  room : (0 < p.len1 → 0 < search_room p) × (search_room p ≤ p.len1) × (p.addr1 % 512 + search_room p ≤ 512)
  unfolding search_room
  room = (λ h. omega arith, omega arith, omega arith)

  alike : (t : State) → Alike (by_byte equal p.byte) located s t next memory
  unfolding by_byte
  alike t x k l h = h (is_sought equal p.byte x)

  kept_list : (left addr : ℕ) (old : List ℕ) (q : Progress) → layout_of q.op ≡ Searches → found_in left addr (six (packed q old)) ≡ found_in left addr (six old)
  unfolding packed
  kept_list left addr old q is = rw is refl

  found_over : (q : Progress) → q.op ≡ p.op → (left addr : ℕ) → outcome_of (located left addr (with_low (packed q (low_registers s)) s) next) memory ≡ outcome_of (located left addr s next) memory
  unfolding located completed
  found_over q same left addr =
      let xs = packed q (low_registers s) in
      let kept : found_in left addr (low_registers (with_low xs s)) ≡ found_in left addr (low_registers s) = ap (found_in left addr) (low_set s xs ready.full) ∙ kept_list left addr (low_registers s) q (ap layout_of same ∙ kind) in
      ap (λ t. outcome_of (next flow.Done t) memory)
      (ap (λ ys. with_low ys (with_conditions (with_low xs s) (found_codes left))) kept ∙ conditions_low s xs (found_in left addr (low_registers s)) (found_codes left) ready.full)

  goes_on : (n : ℕ) → outcome_of (rest (suspended (searched p n) s)) memory ≡ outcome_of (sought (by_byte equal p.byte) located (p.len1 - n) (plus p.addr1 n) s next) memory
  goes_on n =
      let q = searched p n in
      let fits : IsProper q = record { len1 = (let h = proper.len1 in omega arith); byte = proper.byte; len2 = proper.len2; unused = unused_alike p n (layout_of p.op) proper.unused } in
      ap (λ r. outcome_of (whole_search equal r (continued r.delta (suspended q s)) next) memory) (unpacked_suspended q s ready.full fits)
      ∙ (ap (λ t. outcome_of (whole_search equal q t next) memory) (continued_suspended q s ready short)
      ∙ sought_over (by_byte equal p.byte) located s (with_low (packed q (low_registers s)) s) next memory (mode_low s _) (alike _) (found_over q refl) (p.len1 - n) (plus p.addr1 n))

  tells : (xs : List ℕ) → Each (Tells (by_byte equal p.byte) located (is_sought equal p.byte) s next memory) xs
  unfolding by_byte
  tells [] = none
  tells (x ∷ xs) = more x xs (λ k. refl) (tells xs)

  abbrev run : List ℕ
  run = bytes_from (byte_at memory) p.addr1 (search_room p)

  abbrev whole : Outcome Leaf
  whole = outcome_of (whole_search equal p s next) memory

  free : may_access memory (page_of p.addr1) (mode s) Read ≡ true → violation memory p.addr1 (search_room p) (mode s) Read ≡ None
  free may = page_allowed memory p.addr1 (search_room p) (mode s) Read small room.2 may

  here : plus p.addr1 0 ≡ p.addr1
  here = omega arith

  len : length run ≡ search_room p
  len = length_run (byte_at memory) p.addr1 (search_room p)

  read_readable : may_access memory (page_of p.addr1) (mode s) Read ≡ true → outcome_of (search_run equal p (search_room p) s next) memory ≡ outcome_of (search_end located (is_sought equal p.byte) p run s next) memory
  unfolding search_run read_run_at outcome_of
  read_readable may = rw (free may) refl

  whole_readable : may_access memory (page_of p.addr1) (mode s) Read ≡ true → whole ≡ if_found (position (is_sought equal p.byte) run) (λ i. outcome_of (located (p.len1 - i) (plus p.addr1 i) s next) memory) (outcome_of (sought (by_byte equal p.byte) located (p.len1 - length run) (plus p.addr1 (length run)) s next) memory)
  whole_readable may =
      let law = run_sought (by_byte equal p.byte) located (is_sought equal p.byte) s next memory (search_room p) 0 p.len1 p.addr1 small (let h = room.1 in omega arith) (rw here (free may)) (tells _) in
      let zero_added : 0 + search_room p ≡ search_room p = omega arith in
      let all : p.len1 - 0 ≡ p.len1 = omega arith in
      rw (position_from-zero (is_sought equal p.byte) run, len) (rw (here, zero_added, all) at law)

  part_readable : may_access memory (page_of p.addr1) (mode s) Read ≡ true → whole ≡ and_rest rest (outcome_of (search_run equal p (search_room p) s next) memory)
  part_readable may =
      whole_readable may
      ∙ (ended located (is_sought equal p.byte) p s next memory rest (by_byte equal p.byte) run behind (let h = room.1 in omega (arith, len)) done (λ less. goes_on (length run))
      ∙ ap (and_rest rest) (sym (read_readable may)))

  part_barred : 0 < p.len1 → may_access memory (page_of p.addr1) (mode s) Read ≡ false → whole ≡ and_rest rest (outcome_of (search_run equal p (search_room p) s next) memory)
  unfolding search_run read_run_at outcome_of
  part_barred some may =
      rw (first_barred memory p.addr1 (search_room p) (mode s) Read (room.0 some) may) (whole_barred (by_byte equal p.byte) located s next memory p.len1 p.addr1 some may)

  pub search_agrees : whole ≡ and_rest rest (outcome_of (search_part equal p s next) memory)
  unfolding search_part
  search_agrees = elim (cases_eq p.len1 0) [
    | inl e ↦ rw (eq-eqb p.len1 0 e) (ap (λ n. outcome_of (sought (by_byte equal p.byte) located n p.addr1 s next) memory) e ∙ (nothing_sought (by_byte equal p.byte) located s next memory p.addr1 ∙ sym (rest_of_whole rest _ (done 0 p.addr1))))
    | inr n ↦ rw (ne_eqb p.len1 0 n) (elim (cases_Bool (may_access memory (page_of p.addr1) (mode s) Read)) [
      | inl may ↦ part_readable may
      | inr not ↦ part_barred (omega arith) not
    ])
  ]
