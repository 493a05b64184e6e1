-- A search by a table in parts is the search.
use Rattle.std.proofs.Common.{ℕ, zero, suc, ◌≡◌, ◌+◌, ◌-◌, ◌%◌, ◌^◌, ◌<◌, ◌≤◌, Bool, true, false, not, if◌then◌else◌, Option, None, List, ◌∷◌, ◌++◌, length, take, replicate, slice_index, refl, sym, ap, subst, ◌∙◌, inl, inr, arith}
use Rattle.std.specs.List.{position, position_or_len}
use Rattle.std.proofs.lemmas.Bool.{cases_Bool, cases_lt, eq-eqb, ne_eqb, cases_eq}
use Rattle.std.proofs.lemmas.Bool.Decides.{nat_tests}
use Rattle.std.proofs.lemmas.List.{length-replicate, get_or_append_left, get_or-append_right}
use Rattle.std.proofs.lemmas.List.Sums.{prefix_len_passes, prefix_len_stops, prefix_len-le-length}
use Rattle.std.proofs.lemmas.Iterator.Adapters.{position_from-zero}
use Rattle.vax_space.specs.declared.Access.TheVariants.{Read}
use Rattle.vax_space.specs.declared.Area.{Area}
use Rattle.vax_space.specs.declared.Violation.{Violation}
use Rattle.vax_space.specs.Reference.{page_of, may_access, violation, violation_at}
use Rattle.vax_strpart.specs.declared.packing.Progress.{Progress}
use Rattle.vax_strpart.specs.declared.packing.Layout.TheVariants.{Scans}
use Rattle.vax_strpart.specs.Packing.{layout_of, packed, IsProper}
use Rattle.vax_flat.specs.declared.Flow.{Flow}
use Rattle.vax_flat.specs.declared.Flow.TheVariants as flow
use Rattle.vax_flat.specs.declared.Exception.TheVariants as exception
use Rattle.vax_flat.specs.Memory.{after, byte_at, number, bytes_from}
use Rattle.vax_flat.specs.State.{State, mode, with_conditions}
use Rattle.vax_flat.specs.Accesses.{Accesses, Leaf}
use Rattle.vax_flat.specs.Outcome.{Outcome, Raised, outcome_of, unless_violated, is_allowed}
use Rattle.vax_flat.specs.Operand.{plus, read_at, check_at, asked}
use Rattle.vax_flat.specs.Bound.{LeavesNoPart}
use Rattle.vax_flat.specs.String.{low_registers, with_low, suspended, continued, completed, read_run_at, from_registers, IsReady}
use Rattle.vax_flat.specs.StringSearch.{scanned, by_entry, is_masked, sought, whole_scan, searched, search_room, if_found, search_end, scan_end, scan_run, scan_part, piece_read, table_read, table_split, known_from, known_to, is_unknown, is_masked_entry, found_by, found_codes}
use Rattle.vax_flat.specs.StringAgree.{and_rest, IsBehind}
use Rattle.vax_flat.proofs.StringState.{six, low_set, mode_low, conditions_low, continued_suspended, unpacked_suspended}
use Rattle.vax_flat.proofs.StringSearch.{page_allowed, first_barred, number_one, length_run, allowed_one, Each, none, more, Tells, run_sought, Alike, sought_over, rest_of_whole, whole_barred, nothing_sought, unused_alike, ended}

-- the bytes of a run by their places
pub byte_in_run : (byte : ℕ → ℕ) (len addr i : ℕ) → addr < 2 ^ 32 → i < len → slice_index (bytes_from byte addr len) i ≡ byte (plus addr i)
unfolding bytes_from
byte_in_run byte zero addr i small within = absurd (omega arith)
byte_in_run byte (suc len) addr zero small within = let e : (addr + 0) % 2 ^ 32 ≡ addr = omega arith in rw e refl
byte_in_run byte (suc len) addr (suc i) small within =
    let e : ((addr + 1) % 2 ^ 32 + i) % 2 ^ 32 ≡ (addr + suc i) % 2 ^ 32 = omega arith in
    byte_in_run byte len (after addr) i (omega arith) (omega arith) ∙ ap byte e

pub take_run : (byte : ℕ → ℕ) (addr count len : ℕ) → count ≤ len → take count (bytes_from byte addr len) ≡ bytes_from byte addr count
unfolding bytes_from
take_run byte addr zero len few = refl
take_run byte addr (suc count) zero few = absurd (omega arith)
take_run byte addr (suc count) (suc len) few = ap (λ xs. byte addr ∷ xs) (take_run byte (after addr) count len (omega arith))

-- what a table is known to hold
pub record Known (memory : List Area) (s : State) (table from to : ℕ) (entries : List ℕ) : Type 0 where
  pub allowed : (x : ℕ) → x < 256 → is_unknown from to x ≡ false → may_access memory (page_of (plus table x)) (mode s) Read ≡ true
  pub entry : (x : ℕ) → x < 256 → is_unknown from to x ≡ false → slice_index entries x ≡ byte_at memory (plus table x)
  pub barred : (x : ℕ) → x < 256 → is_unknown from to x ≡ true → may_access memory (page_of (plus table x)) (mode s) Read ≡ false
  pub end : to ≤ 256

pub record Reads (memory : List Area) (s : State) (table : ℕ) : Type 0 where
  pub from : ℕ
  pub to : ℕ
  pub entries : List ℕ
  pub read : (next : ℕ → ℕ → List ℕ → State → Accesses Leaf) → outcome_of (table_read table s next) memory ≡ outcome_of (next from to entries s) memory
  pub known : Known memory s table from to entries

module _ (memory : List Area) (s : State) (table : ℕ) (small : table < 2 ^ 32) where
  abbrev may : ℕ → Bool
  may addr = may_access memory (page_of addr) (mode s) Read

  abbrev split : ℕ
  split = table_split table

  abbrev piece : Bool → ℕ → ℕ → List ℕ
  piece allowed addr len = if allowed then bytes_from (byte_at memory) addr len else replicate len 0

  abbrev by_violation : ℕ → ℕ → (Bool → List ℕ → State → Accesses Leaf) → Option Violation → Outcome Leaf
  by_violation addr len next v = outcome_of (if is_allowed v then read_run_at addr len s (λ bytes s. next true bytes s) else next false (replicate len 0) s) memory

  piece_asked : (addr len : ℕ) (next : Bool → List ℕ → State → Accesses Leaf) → outcome_of (piece_read addr len s next) memory ≡ by_violation addr len next (violation memory addr len (mode s) Read)
  unfolding piece_read asked outcome_of
  piece_asked addr len next = refl

  piece_run : (addr len : ℕ) (next : List ℕ → State → Accesses Leaf) → violation memory addr len (mode s) Read ≡ None → outcome_of (read_run_at addr len s next) memory ≡ outcome_of (next (bytes_from (byte_at memory) addr len) s) memory
  unfolding read_run_at outcome_of
  piece_run addr len next free = rw free refl

  piece_is : (addr len : ℕ) (next : Bool → List ℕ → State → Accesses Leaf) → addr < 2 ^ 32 → 0 < len → addr % 512 + len ≤ 512 → outcome_of (piece_read addr len s next) memory ≡ outcome_of (next (may addr) (piece (may addr) addr len) s) memory
  piece_is addr len next below some within = elim (cases_Bool (may addr)) [
    | inl good ↦
        let free = page_allowed memory addr len (mode s) Read below within good in
        piece_asked addr len next ∙ (ap (by_violation addr len next) free ∙ (piece_run addr len (λ bytes s. next true bytes s) free ∙ ap (λ b. outcome_of (next b (piece b addr len) s) memory) (sym good)))
    | inr bad ↦ piece_asked addr len next ∙ (ap (by_violation addr len next) (first_barred memory addr len (mode s) Read some bad) ∙ ap (λ b. outcome_of (next b (piece b addr len) s) memory) (sym bad))
  ]

  same_page : (x : ℕ) → x < split → page_of (plus table x) ≡ page_of table
  same_page x h = omega arith

  next_page : (x : ℕ) → split ≤ x → x < 256 → page_of (plus table x) ≡ page_of (plus table split)
  next_page x h k = omega arith

  in_next : (x : ℕ) → split ≤ x → x < 256 → plus (plus table split) (x - split) ≡ plus table x
  in_next x h k = omega arith

  -- the whole table in one page
  one : split ≡ 256 → Known memory s table (known_from (may table) 256) 256 (piece (may table) table 256)
  one all = by (may table) refl
    where
      by : (b : Bool) → may table ≡ b → Known memory s table (known_from b 256) 256 (piece b table 256)
      by true good = record {
        allowed = λ x few is. ap (λ page. may_access memory page (mode s) Read) (same_page x (omega arith)) ∙ good;
        entry = λ x few is. byte_in_run (byte_at memory) 256 table x small few;
        barred = λ x few is. absurd (grind (arith, nat_tests));
        end = omega arith;
      }
      by false bad = record {
        allowed = λ x few is. absurd (grind (arith, nat_tests));
        entry = λ x few is. absurd (grind (arith, nat_tests));
        barred = λ x few is. ap (λ page. may_access memory page (mode s) Read) (same_page x (omega arith)) ∙ bad;
        end = omega arith;
      }

  abbrev low : Bool → List ℕ
  low b = piece b table split

  abbrev high : Bool → List ℕ
  high b = piece b (plus table split) (256 - split)

  low_length : (b : Bool) → length (low b) ≡ split
  low_length true = length_run (byte_at memory) table split
  low_length false = length-replicate split 0

  low_entry : (x : ℕ) (c : Bool) → x < split → slice_index (low true ++ high c) x ≡ byte_at memory (plus table x)
  low_entry x c h = get_or_append_left (low true) (high c) 0 x (omega (arith, low_length true)) ∙ byte_in_run (byte_at memory) split table x small h

  high_entry : (x : ℕ) (b : Bool) → split ≤ x → x < 256 → slice_index (low b ++ high true) x ≡ byte_at memory (plus table x)
  high_entry x b h k =
      get_or-append_right (low b) (high true) split x 0 (low_length b) h
      ∙ (byte_in_run (byte_at memory) (256 - split) (plus table split) (x - split) (omega arith) (omega arith)
      ∙ ap (byte_at memory) (in_next x h k))

  -- a table in two pages
  two : split < 256 → Known memory s table (known_from (may table) split) (known_to (may (plus table split)) split) (low (may table) ++ high (may (plus table split)))
  two part = by (may table) (may (plus table split)) refl refl
    where
      first : (x : ℕ) → x < split → may (plus table x) ≡ may table
      first x h = ap (λ page. may_access memory page (mode s) Read) (same_page x h)

      second : (x : ℕ) → split ≤ x → x < 256 → may (plus table x) ≡ may (plus table split)
      second x h k = ap (λ page. may_access memory page (mode s) Read) (next_page x h k)

      by : (b c : Bool) → may table ≡ b → may (plus table split) ≡ c → Known memory s table (known_from b split) (known_to c split) (low b ++ high c)
      by true true p q = record {
        allowed = λ x few is. elim (cases_lt x split) [ inl l ↦ first x l ∙ p | inr g ↦ second x g few ∙ q ];
        entry = λ x few is. elim (cases_lt x split) [ inl l ↦ low_entry x true l | inr g ↦ high_entry x true g few ];
        barred = λ x few is. absurd (grind (arith, nat_tests));
        end = omega arith;
      }
      by true false p q = record {
        allowed = λ x few is. first x (grind (arith, nat_tests)) ∙ p;
        entry = λ x few is. low_entry x false (grind (arith, nat_tests));
        barred = λ x few is. second x (grind (arith, nat_tests)) few ∙ q;
        end = omega arith;
      }
      by false true p q = record {
        allowed = λ x few is. second x (grind (arith, nat_tests)) few ∙ q;
        entry = λ x few is. high_entry x false (grind (arith, nat_tests)) few;
        barred = λ x few is. first x (grind (arith, nat_tests)) ∙ p;
        end = omega arith;
      }
      by false false p q = record {
        allowed = λ x few is. absurd (grind (arith, nat_tests));
        entry = λ x few is. absurd (grind (arith, nat_tests));
        barred = λ x few is. elim (cases_lt x split) [ inl l ↦ first x l ∙ p | inr g ↦ second x g few ∙ q ];
        end = omega arith;
      }

  one_read : split ≡ 256 → (next : ℕ → ℕ → List ℕ → State → Accesses Leaf) → outcome_of (table_read table s next) memory ≡ outcome_of (next (known_from (may table) 256) 256 (piece (may table) table 256) s) memory
  unfolding table_read
  one_read all next = rw (eq-eqb split 256 all) (piece_is table 256 _ small (omega arith) (omega arith))

  two_read : (split ≡ 256 → ⊥) → (next : ℕ → ℕ → List ℕ → State → Accesses Leaf) → outcome_of (table_read table s next) memory ≡ outcome_of (next (known_from (may table) split) (known_to (may (plus table split)) split) (low (may table) ++ high (may (plus table split))) s) memory
  unfolding table_read
  two_read part next = rw (ne_eqb split 256 part) (piece_is table split _ small (omega arith) (omega arith) ∙ piece_is (plus table split) (256 - split) _ (omega arith) (omega arith) (omega arith))

  pub reads : Reads memory s table
  reads = elim (cases_eq split 256) [
    | inl all ↦ record {
      from = known_from (may table) 256;
      to = 256;
      entries = piece (may table) table 256;
      read = one_read all;
      known = one all;
    }
    | inr part ↦ record {
      from = known_from (may table) split;
      to = known_to (may (plus table split)) split;
      entries = low (may table) ++ high (may (plus table split));
      read = two_read part;
      known = two (omega arith);
    }
  ]

-- SCANC, SPANC
module _ (some : Bool) (p : Progress) (s : State) (memory : List Area) (next : Flow → State → Accesses Leaf) (behind : IsBehind next) (ready : IsReady s) (proper : IsProper p) (kind : layout_of p.op ≡ Scans) (small : p.addr1 < 2 ^ 32) (near : p.table < 2 ^ 32) (short : p.delta < 2 ^ 8) where
  abbrev rest : State → Accesses Leaf
  rest t = from_registers p.op (whole_scan some) t next

  abbrev examine : ℕ → State → (Bool → State → Accesses Leaf) → Accesses Leaf
  examine = by_entry some p.byte p.table

  done : (left addr : ℕ) → LeavesNoPart (outcome_of (scanned p.table left addr s next) memory)
  unfolding scanned completed
  done left addr = behind.done _ memory

  room : (0 < p.len1 → 0 < search_room p) × (search_room p ≤ p.len1) × (p.addr1 % 512 + search_room p ≤ 512)
  unfolding search_room
  room = (λ h. omega arith, omega arith, omega arith)

  alike : (t : State) → mode t ≡ mode s → Alike examine (scanned p.table) s t next memory
  unfolding by_entry read_at outcome_of
  alike t same x k l h = rw same (ap (unless_violated (violation memory (plus p.table x) 1 (mode s) Read)) (h (is_masked some p.byte (number (byte_at memory) (plus p.table x) 1))))

  kept_list : (left addr : ℕ) (old : List ℕ) (q : Progress) → layout_of q.op ≡ Scans → found_by p.table left addr (six (packed q old)) ≡ found_by p.table left addr (six old)
  unfolding packed
  kept_list left addr old q is = rw is refl

  found_over : (q : Progress) → q.op ≡ p.op → (left addr : ℕ) → outcome_of (scanned p.table left addr (with_low (packed q (low_registers s)) s) next) memory ≡ outcome_of (scanned p.table left addr s next) memory
  unfolding scanned completed
  found_over q same left addr =
      let xs = packed q (low_registers s) in
      let kept : found_by p.table left addr (low_registers (with_low xs s)) ≡ found_by p.table left addr (low_registers s) = ap (found_by p.table left addr) (low_set s xs ready.full) ∙ kept_list left addr (low_registers s) q (ap layout_of same ∙ kind) in
      ap (λ t. outcome_of (next flow.Done t) memory)
      (ap (λ ys. with_low ys (with_conditions (with_low xs s) (found_codes left))) kept ∙ conditions_low s xs (found_by p.table left addr (low_registers s)) (found_codes left) ready.full)

  goes_on : (n : ℕ) → outcome_of (rest (suspended (searched p n) s)) memory ≡ outcome_of (sought examine (scanned p.table) (p.len1 - n) (plus p.addr1 n) s next) memory
  goes_on n =
      let q = searched p n in
      let fits : IsProper q = record { len1 = (let h = proper.len1 in omega arith); byte = proper.byte; len2 = proper.len2; unused = unused_alike p n (layout_of p.op) proper.unused } in
      ap (λ r. outcome_of (whole_scan some r (continued r.delta (suspended q s)) next) memory) (unpacked_suspended q s ready.full fits)
      ∙ (ap (λ t. outcome_of (whole_scan some q t next) memory) (continued_suspended q s ready short)
      ∙ sought_over examine (scanned p.table) s (with_low (packed q (low_registers s)) s) next memory (mode_low s _) (alike _ (mode_low s _)) (found_over q refl) (p.len1 - n) (plus p.addr1 n))

  abbrev run : List ℕ
  run = bytes_from (byte_at memory) p.addr1 (search_room p)

  abbrev whole : Outcome Leaf
  whole = outcome_of (whole_scan some p s next) memory

  len : length run ≡ search_room p
  len = length_run (byte_at memory) p.addr1 (search_room p)

  abbrev held : Reads memory s p.table
  held = reads memory s p.table near

  abbrev count : ℕ
  count = position_or_len (is_unknown held.from held.to) run

  abbrev test : ℕ → Bool
  test = is_masked_entry some held.entries p.byte

  -- a byte whose entry is known is one of a table
  known_few : (x : ℕ) → is_unknown held.from held.to x ≡ false → x < 256
  known_few x is = let e = held.known.end in grind (arith, nat_tests)

  tells_one : (x : ℕ) → is_unknown held.from held.to x ≡ false → Tells examine (scanned p.table) test s next memory x
  unfolding by_entry read_at outcome_of
  tells_one x is k = rw (allowed_one memory (plus p.table x) (mode s) (held.known.allowed x (known_few x is) is), number_one (byte_at memory) (plus p.table x), held.known.entry x (known_few x is) is) refl

  all_tell : (len addr : ℕ) → addr < 2 ^ 32 → ((i : ℕ) → i < len → is_unknown held.from held.to (byte_at memory (plus addr i)) ≡ false) → Each (Tells examine (scanned p.table) test s next memory) (bytes_from (byte_at memory) addr len)
  unfolding bytes_from
  all_tell zero addr below each = none
  all_tell (suc len) addr below each =
      let here : plus addr 0 ≡ addr = omega arith in
      more (byte_at memory addr) _ (tells_one (byte_at memory addr) (ap (λ a. is_unknown held.from held.to (byte_at memory a)) (sym here) ∙ each 0 (omega arith)))
      (all_tell len (after addr) (omega arith) (λ i h. let e : plus (after addr) i ≡ plus addr (suc i) = omega arith in ap (λ a. is_unknown held.from held.to (byte_at memory a)) e ∙ each (suc i) (omega arith)))

  free : (n : ℕ) → n ≤ search_room p → may_access memory (page_of p.addr1) (mode s) Read ≡ true → violation memory p.addr1 n (mode s) Read ≡ None
  free n few good = page_allowed memory p.addr1 n (mode s) Read small (let h = room.2 in omega arith) good

  here : plus p.addr1 0 ≡ p.addr1
  here = omega arith

  count_few : count ≤ search_room p
  count_few = omega (arith, prefix_len-le-length (λ x. not (is_unknown held.from held.to x)) run, len)

  known_before : (i : ℕ) → i < count → is_unknown held.from held.to (slice_index run i) ≡ false
  known_before i h = not_back _ (prefix_len_passes (λ x. not (is_unknown held.from held.to x)) run i 0 h)
    where
      not_back : (b : Bool) → not b ≡ true → b ≡ false
      not_back true e = cc
      not_back false e = refl

  unknown_at : count < search_room p → is_unknown held.from held.to (slice_index run count) ≡ true
  unknown_at h = not_on _ (prefix_len_stops (λ x. not (is_unknown held.from held.to x)) run 0 (omega (arith, len)))
    where
      not_on : (b : Bool) → not b ≡ false → b ≡ true
      not_on true e = refl
      not_on false e = cc

  first_is : 0 < search_room p → slice_index run 0 ≡ byte_at memory p.addr1
  first_is h = byte_in_run (byte_at memory) (search_room p) p.addr1 0 small h ∙ ap (byte_at memory) here

  part_read : may_access memory (page_of p.addr1) (mode s) Read ≡ true → outcome_of (scan_run some p (search_room p) s next) memory ≡ outcome_of (check_at (plus p.table (slice_index run 0)) 1 Read s (λ s. scan_end some p count held.entries run s next)) memory
  unfolding scan_run read_run_at outcome_of
  part_read good = rw (free (search_room p) (omega arith) good) (held.read _)

  checked_out : (k : State → Accesses Leaf) → may_access memory (page_of (plus p.table (slice_index run 0))) (mode s) Read ≡ true → outcome_of (check_at (plus p.table (slice_index run 0)) 1 Read s k) memory ≡ outcome_of (k s) memory
  unfolding check_at outcome_of
  checked_out k good = rw (allowed_one memory (plus p.table (slice_index run 0)) (mode s) good) refl

  checked_in : (k : State → Accesses Leaf) → may_access memory (page_of (plus p.table (slice_index run 0))) (mode s) Read ≡ false → outcome_of (check_at (plus p.table (slice_index run 0)) 1 Read s k) memory ≡ Raised (exception.Access (violation_at memory (plus p.table (slice_index run 0)) Read))
  unfolding check_at outcome_of
  checked_in k bad = rw (first_barred memory (plus p.table (slice_index run 0)) 1 (mode s) Read (omega arith) bad) refl

  taken : take count run ≡ bytes_from (byte_at memory) p.addr1 count
  taken = take_run (byte_at memory) p.addr1 count (search_room p) count_few

  taken_length : length (take count run) ≡ count
  taken_length = ap length taken ∙ length_run (byte_at memory) p.addr1 count

  whole_known : may_access memory (page_of p.addr1) (mode s) Read ≡ true → whole ≡ if_found (position test (take count run)) (λ i. outcome_of (scanned p.table (p.len1 - i) (plus p.addr1 i) s next) memory) (outcome_of (sought examine (scanned p.table) (p.len1 - length (take count run)) (plus p.addr1 (length (take count run))) s next) memory)
  whole_known good =
      let law = run_sought examine (scanned p.table) test s next memory count 0 p.len1 p.addr1 small (let h = room.1 in let g = count_few in omega arith) (rw here (free count count_few good))
      (rw here (all_tell count p.addr1 small (λ i h. let g = count_few in ap (is_unknown held.from held.to) (sym (byte_in_run (byte_at memory) (search_room p) p.addr1 i small (omega arith))) ∙ known_before i h))) in
      let zero_added : 0 + count ≡ count = omega arith in
      let all : p.len1 - 0 ≡ p.len1 = omega arith in
      rw (taken, position_from-zero test (bytes_from (byte_at memory) p.addr1 count), length_run (byte_at memory) p.addr1 count) (rw (here, zero_added, all) at law)

  known_agrees : may_access memory (page_of p.addr1) (mode s) Read ≡ true → whole ≡ and_rest rest (outcome_of (search_end (scanned p.table) test p (take count run) s next) memory)
  known_agrees good =
      whole_known good
      ∙ ended (scanned p.table) test p s next memory rest examine (take count run) behind (let h = room.1 in let g = count_few in omega (arith, taken_length)) done (λ less. goes_on (length (take count run)))

  -- the first byte by its own entry
  abbrev own_entry : ℕ
  own_entry = number (byte_at memory) (plus p.table (slice_index run 0)) 1

  abbrev own : ℕ → Bool
  own byte = is_masked some p.byte own_entry

  read_own : (k : ℕ → State → Accesses Leaf) → may_access memory (page_of (plus p.table (slice_index run 0))) (mode s) Read ≡ true → outcome_of (read_at (plus p.table (slice_index run 0)) 1 s k) memory ≡ outcome_of (k own_entry s) memory
  unfolding read_at outcome_of
  read_own k allowed = rw (allowed_one memory (plus p.table (slice_index run 0)) (mode s) allowed) refl

  own_tells_run : may_access memory (page_of (plus p.table (slice_index run 0))) (mode s) Read ≡ true → Tells examine (scanned p.table) own s next memory (slice_index run 0)
  unfolding by_entry read_at outcome_of
  own_tells_run allowed k = rw (allowed_one memory (plus p.table (slice_index run 0)) (mode s) allowed) refl

  own_tells : 0 < search_room p → may_access memory (page_of (plus p.table (slice_index run 0))) (mode s) Read ≡ true → Each (Tells examine (scanned p.table) own s next memory) (bytes_from (byte_at memory) p.addr1 1)
  unfolding bytes_from
  own_tells any allowed = more (byte_at memory p.addr1) _ (subst (Tells examine (scanned p.table) own s next memory) (first_is any) (own_tells_run allowed)) none

  one_taken : 0 < search_room p → take 1 run ≡ bytes_from (byte_at memory) p.addr1 1
  one_taken any = take_run (byte_at memory) p.addr1 1 (search_room p) any

  one_length : 0 < search_room p → length (take 1 run) ≡ 1
  one_length any = ap length (one_taken any) ∙ length_run (byte_at memory) p.addr1 1

  whole_own : 0 < search_room p → may_access memory (page_of p.addr1) (mode s) Read ≡ true → may_access memory (page_of (plus p.table (slice_index run 0))) (mode s) Read ≡ true → whole ≡ if_found (position own (take 1 run)) (λ i. outcome_of (scanned p.table (p.len1 - i) (plus p.addr1 i) s next) memory) (outcome_of (sought examine (scanned p.table) (p.len1 - length (take 1 run)) (plus p.addr1 (length (take 1 run))) s next) memory)
  whole_own any good allowed =
      let law = run_sought examine (scanned p.table) own s next memory 1 0 p.len1 p.addr1 small (let h = room.1 in omega arith) (rw here (free 1 any good)) (rw here (own_tells any allowed)) in
      let zero_added : 0 + 1 ≡ 1 = refl in
      let all : p.len1 - 0 ≡ p.len1 = omega arith in
      rw (one_taken any, position_from-zero own (bytes_from (byte_at memory) p.addr1 1), length_run (byte_at memory) p.addr1 1) (rw (here, zero_added, all) at law)

  own_agrees : 0 < search_room p → may_access memory (page_of p.addr1) (mode s) Read ≡ true → may_access memory (page_of (plus p.table (slice_index run 0))) (mode s) Read ≡ true → whole ≡ and_rest rest (outcome_of (search_end (scanned p.table) own p (take 1 run) s next) memory)
  own_agrees any good allowed =
      whole_own any good allowed
      ∙ ended (scanned p.table) own p s next memory rest examine (take 1 run) behind (let h = room.1 in let l = one_length any in omega arith) done (λ less. goes_on (length (take 1 run)))

  end_agrees : 0 < search_room p → may_access memory (page_of p.addr1) (mode s) Read ≡ true → may_access memory (page_of (plus p.table (slice_index run 0))) (mode s) Read ≡ true → whole ≡ and_rest rest (outcome_of (scan_end some p count held.entries run s next) memory)
  unfolding scan_end
  end_agrees any good allowed = elim (cases_eq count 0) [
    | inl e ↦ rw (eq-eqb count 0 e) (own_agrees any good allowed ∙ ap (and_rest rest) (sym (read_own (λ entry s. search_end (scanned p.table) (λ byte. is_masked some p.byte entry) p (take 1 run) s next) allowed)))
    | inr n ↦ rw (ne_eqb count 0 n) (known_agrees good)
  ]

  part_allowed : 0 < search_room p → may_access memory (page_of p.addr1) (mode s) Read ≡ true → may_access memory (page_of (plus p.table (slice_index run 0))) (mode s) Read ≡ true → whole ≡ and_rest rest (outcome_of (scan_run some p (search_room p) s next) memory)
  part_allowed any good allowed =
      end_agrees any good allowed ∙ ap (and_rest rest) (sym (part_read good ∙ checked_out _ allowed))

  barred_entry : (left addr x : ℕ) → byte_at memory addr ≡ x → may_access memory (page_of addr) (mode s) Read ≡ true → may_access memory (page_of (plus p.table x)) (mode s) Read ≡ false → outcome_of (sought examine (scanned p.table) (suc left) addr s next) memory ≡ Raised (exception.Access (violation_at memory (plus p.table x) Read))
  unfolding sought by_entry read_at outcome_of
  barred_entry left addr x is good bad = rw (allowed_one memory addr (mode s) good, number_one (byte_at memory) addr, is, first_barred memory (plus p.table x) 1 (mode s) Read (omega arith) bad) refl

  part_forbidden : 0 < search_room p → may_access memory (page_of p.addr1) (mode s) Read ≡ true → may_access memory (page_of (plus p.table (slice_index run 0))) (mode s) Read ≡ false → whole ≡ and_rest rest (outcome_of (scan_run some p (search_room p) s next) memory)
  part_forbidden any good bad =
      let more_left : p.len1 ≡ suc (p.len1 - 1) = (let h = room.1 in omega arith) in
      ap (λ n. outcome_of (sought examine (scanned p.table) n p.addr1 s next) memory) more_left
      ∙ (barred_entry (p.len1 - 1) p.addr1 (slice_index run 0) (sym (first_is any)) good bad
      ∙ ap (and_rest rest) (sym (part_read good ∙ checked_in _ bad)))

  part_barred : 0 < p.len1 → may_access memory (page_of p.addr1) (mode s) Read ≡ false → whole ≡ and_rest rest (outcome_of (scan_run some p (search_room p) s next) memory)
  unfolding scan_run read_run_at outcome_of
  part_barred any bad =
      rw (first_barred memory p.addr1 (search_room p) (mode s) Read (room.0 any) bad) (whole_barred examine (scanned p.table) s next memory p.len1 p.addr1 any bad)

  pub scan_agrees : whole ≡ and_rest rest (outcome_of (scan_part some p s next) memory)
  unfolding scan_part
  scan_agrees = elim (cases_eq p.len1 0) [
    | inl e ↦ rw (eq-eqb p.len1 0 e) (ap (λ n. outcome_of (sought examine (scanned p.table) n p.addr1 s next) memory) e ∙ (nothing_sought examine (scanned p.table) s next memory p.addr1 ∙ sym (rest_of_whole rest _ (done 0 p.addr1))))
    | inr n ↦ rw (ne_eqb p.len1 0 n) (elim (cases_Bool (may_access memory (page_of p.addr1) (mode s) Read)) [
      | inl good ↦ elim (cases_Bool (may_access memory (page_of (plus p.table (slice_index run 0))) (mode s) Read)) [
        | inl allowed ↦ part_allowed (room.0 (omega arith)) good allowed
        | inr bad ↦ part_forbidden (room.0 (omega arith)) good bad
      ]
      | inr bad ↦ part_barred (omega arith) bad
    ])
  ]
