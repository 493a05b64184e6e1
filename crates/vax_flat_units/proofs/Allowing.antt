-- No unit of a part of a search or of a comparison violates, where it leaves something.
use Rattle.std.proofs.Common.{◌≡◌, ℕ, ◌+◌, ◌-◌, ◌^◌, ◌<◌, ◌≤◌, min, Bool, true, false, not, ◌||◌, ◌==◌, nat_lt, List, length, slice_index, refl, sym, ap, subst, ◌∙◌, inl, inr, arith}
use Rattle.std.specs.List.{position_or_len, zip}
use Rattle.std.proofs.lemmas.Bool.{cases_Bool, eqb-true}
use Rattle.std.proofs.lemmas.Bool.Decides.{nat_tests}
use Rattle.std.proofs.lemmas.List.Sums.{prefix_len_passes, prefix_len-le-length}
use Rattle.vax_space.specs.declared.Access.TheVariants.{Read}
use Rattle.vax_space.specs.declared.Area.{Area}
use Rattle.vax_space.specs.Reference.{may_access, page_of}
use Rattle.vax_strpart.specs.declared.packing.Progress.{Progress}
use Rattle.vax_strpart.specs.declared.packing.Layout.TheVariants.{Compares}
use Rattle.vax_strpart.specs.Packing.{layout_of, IsProper}
use Rattle.vax_flat.specs.declared.Flow.{Flow}
use Rattle.vax_flat.specs.declared.Rest.{Rest}
use Rattle.vax_flat.specs.Memory.{byte_at, bytes_from, number}
use Rattle.vax_flat.specs.State.{State, mode}
use Rattle.vax_flat.specs.Accesses.{Accesses, Leaf}
use Rattle.vax_flat.specs.Outcome.{outcome_of}
use Rattle.vax_flat.specs.Operand.{plus}
use Rattle.vax_flat.specs.Bound.{LeavesNoPart}
use Rattle.vax_flat.specs.String.{completed}
use Rattle.vax_flat.specs.StringAgree.{IsBehind}
use Rattle.vax_flat.specs.StringSearch.{Finishes, located, scanned, is_sought, is_masked, searched, search_room, search_end, search_run, search_part, is_unknown, is_masked_entry, scan_end, scan_run, scan_part}
use Rattle.vax_flat.specs.StringCompare.{behind, first_of, second_of, pairs_of, differs, equals, filled_run, first_read, first_checked, compare_room, compare_end, compare_run, compare_part}
use Rattle.vax_flat.proofs.Memory.{allowed_first}
use Rattle.vax_flat.proofs.StringMemory.{allowed_at}
use Rattle.vax_flat.proofs.StringSearch.{length_run}
use Rattle.vax_flat.proofs.StringScan.{byte_in_run, take_run, Reads, reads}
use Rattle.vax_flat_units.specs.Violations.{is_barred, search_violates, scan_violates, string_violates, compare_violates}
use Rattle.vax_flat_units.proofs.Searching.{searched_proper, none_left, room}
use Rattle.vax_flat_units.proofs.Comparing.{done_proper}
use Rattle.vax_flat_units.proofs.Reaching.{Clears, Clear, not_barred, none_clear, if_clear, found_clear, run_clear, byte_clear, check_clear, span_clear, left_clear}

-- the end of a part of a search
module _ (violates : Progress → ℕ → Bool) (finish : Finishes) (p : Progress) (s : State) (m : List Area) (next : Flow → State → Accesses Leaf) (behind_it : IsBehind next) (full : length s.core.regs ≡ 16) (proper : IsProper p)
    (done : (left addr : ℕ) → LeavesNoPart (outcome_of (finish left addr s next) m)) (shift : (n i : ℕ) → violates (searched p n) i ≡ violates p (n + i)) where
  end_clear : (test : ℕ → Bool) (n : ℕ) → ((i : ℕ) → i < n → violates p i ≡ false) → Clear violates p.op (violates p) s m (search_end finish test p (bytes_from (byte_at m) p.addr1 n) s next)
  unfolding search_end
  end_clear test n clear =
      let xs = bytes_from (byte_at m) p.addr1 n in
      let len : length xs ≡ n = length_run (byte_at m) p.addr1 n in
      found_clear violates p.op (violates p) s m test xs _ _ (λ i. none_clear violates p.op (violates p) s m _ (done (p.len1 - i) (plus p.addr1 i)))
      (if_clear violates p.op (violates p) s m (length xs == p.len1) _ _ (λ all. none_clear violates p.op (violates p) s m _ (done 0 (plus p.addr1 (length xs))))
      (λ part. left_clear violates p.op (violates p) s m next behind_it full (searched p (length xs)) (length xs) refl (searched_proper p (length xs) proper)
      (record { clear = λ i h. clear i (omega (arith, len)); shift = λ i. shift (length xs) i })))

-- LOCC, SKPC
module _ (equal : Bool) (p : Progress) (s : State) (m : List Area) (next : Flow → State → Accesses Leaf) (behind_it : IsBehind next) (full : length s.core.regs ≡ 16) (proper : IsProper p) (small : p.addr1 < 2 ^ 32) where
  abbrev bad : Progress → ℕ → Bool
  bad q = search_violates q (mode s) m

  located_done : (left addr : ℕ) → LeavesNoPart (outcome_of (located left addr s next) m)
  unfolding located completed
  located_done left addr = behind_it.done _ m

  search_shift : (n i : ℕ) → bad (searched p n) i ≡ bad p (n + i)
  search_shift n i = let e : plus (plus p.addr1 n) i ≡ plus p.addr1 (n + i) = omega arith in ap (is_barred m (mode s)) e

  pub search_clear : Clear bad p.op (bad p) s m (search_part equal p s next)
  unfolding search_part search_run
  search_clear =
      if_clear bad p.op (bad p) s m (p.len1 == 0) _ _ (λ none. none_clear bad p.op (bad p) s m _ (located_done 0 p.addr1))
      (λ some. run_clear bad p.op (bad p) s m p.addr1 (search_room p) _ (λ free.
      end_clear bad located p s m next behind_it full proper located_done search_shift (is_sought equal p.byte) (search_room p)
      (λ i h. not_barred m (mode s) (plus p.addr1 i) (allowed_at m p.addr1 (search_room p) i (mode s) Read small h free))))

pub neither : (a b : Bool) → a ≡ false → b ≡ false → (a || b) ≡ false
neither a b e f = rw (e, f) refl

-- SCANC, SPANC
module _ (some : Bool) (p : Progress) (s : State) (m : List Area) (next : Flow → State → Accesses Leaf) (behind_it : IsBehind next) (full : length s.core.regs ≡ 16) (proper : IsProper p) (small : p.addr1 < 2 ^ 32) (near : p.table < 2 ^ 32) where
  abbrev marked : Progress → ℕ → Bool
  marked q = scan_violates q (mode s) m

  scanned_done : (left addr : ℕ) → LeavesNoPart (outcome_of (scanned p.table left addr s next) m)
  unfolding scanned completed
  scanned_done left addr = behind_it.done _ m

  scan_shift : (n i : ℕ) → marked (searched p n) i ≡ marked p (n + i)
  scan_shift n i = let e : plus (plus p.addr1 n) i ≡ plus p.addr1 (n + i) = omega arith in ap (λ a. is_barred m (mode s) a || is_barred m (mode s) (plus p.table (byte_at m a))) e

  abbrev run : List ℕ
  run = bytes_from (byte_at m) p.addr1 (search_room p)

  abbrev held : Reads m s p.table
  held = reads m s p.table near

  abbrev known : ℕ
  known = position_or_len (is_unknown held.from held.to) run

  known_few : known ≤ search_room p
  known_few = omega (arith, prefix_len-le-length (λ x. not (is_unknown held.from held.to x)) run, length_run (byte_at m) p.addr1 (search_room p))

  is_known : (i : ℕ) → i < known → is_unknown held.from held.to (byte_at m (plus p.addr1 i)) ≡ false
  is_known i h = ap (is_unknown held.from held.to) (sym (byte_in_run (byte_at m) (search_room p) p.addr1 i small (let k = known_few in omega arith))) ∙ not_back _ (prefix_len_passes (λ x. not (is_unknown held.from held.to x)) run i 0 h)
    where
      not_back : (b : Bool) → not b ≡ true → b ≡ false
      not_back true e = cc
      not_back false e = refl

  one_of_table : (x : ℕ) → is_unknown held.from held.to x ≡ false → x < 256
  one_of_table x is = let e = held.known.end in grind (arith, nat_tests)

  abbrev Fine : Accesses Leaf → Type 0
  Fine tree = Clear marked p.op (marked p) s m tree

  abbrev ends : (test : ℕ → Bool) (n : ℕ) → ((i : ℕ) → i < n → marked p i ≡ false) → Fine (search_end (scanned p.table) test p (bytes_from (byte_at m) p.addr1 n) s next)
  ends test n clear = end_clear marked (scanned p.table) p s m next behind_it full proper scanned_done scan_shift test n clear

  scan_end_clear : 0 < p.len1 → ((i : ℕ) → i < search_room p → is_barred m (mode s) (plus p.addr1 i) ≡ false) → is_barred m (mode s) (plus p.table (slice_index run 0)) ≡ false → Fine (scan_end some p known held.entries run s next)
  unfolding scan_end
  scan_end_clear left free entry =
      let r = room p left in
      let first : slice_index run 0 ≡ byte_at m (plus p.addr1 0) = byte_in_run (byte_at m) (search_room p) p.addr1 0 small r.0 in
      if_clear marked p.op (marked p) s m (known == 0) _ _
      (λ none. byte_clear marked p.op (marked p) s m _ _ (λ one.
      subst (λ xs. Fine (search_end (scanned p.table) (λ byte. is_masked some p.byte (number (byte_at m) (plus p.table (slice_index run 0)) 1)) p xs s next)) (sym (take_run (byte_at m) p.addr1 1 (search_room p) r.0))
      (ends _ 1 (λ i h.
      let z : 0 ≡ i = omega arith in
      ap (marked p) (sym z) ∙ neither _ _ (free 0 r.0) (ap (λ b. is_barred m (mode s) (plus p.table b)) (sym first) ∙ entry)))))
      (λ any.
      subst (λ xs. Fine (search_end (scanned p.table) (is_masked_entry some held.entries p.byte) p xs s next)) (sym (take_run (byte_at m) p.addr1 known (search_room p) known_few))
      (ends _ known (λ i h.
      let x = byte_at m (plus p.addr1 i) in
      let k = is_known i h in
      neither _ _ (free i (let f = known_few in omega arith)) (not_barred m (mode s) (plus p.table x) (held.known.allowed x (one_of_table x k) k)))))

  scan_run_clear : 0 < p.len1 → Fine (scan_run some p (search_room p) s next)
  unfolding scan_run
  scan_run_clear left =
      run_clear marked p.op (marked p) s m p.addr1 (search_room p) _ (λ free.
      subst (λ o. Clears marked p.op (marked p) o) (sym (held.read _))
      (check_clear marked p.op (marked p) s m _ 1 Read _ (λ one.
      scan_end_clear left (λ i h. not_barred m (mode s) (plus p.addr1 i) (allowed_at m p.addr1 (search_room p) i (mode s) Read small h free))
      (not_barred m (mode s) (plus p.table (slice_index run 0)) (allowed_first m (plus p.table (slice_index run 0)) 0 (mode s) Read one).0))))

  pub scan_clear : Fine (scan_part some p s next)
  unfolding scan_part
  scan_clear =
      if_clear marked p.op (marked p) s m (p.len1 == 0) _ _ (λ none. none_clear marked p.op (marked p) s m _ (scanned_done 0 p.addr1))
      (λ any. scan_run_clear (none_left p any))

-- CMPC3, CMPC5
module _ (p : Progress) (s : State) (m : List Area) (next : Flow → State → Accesses Leaf) (is_behind : IsBehind next) (full : length s.core.regs ≡ 16) (proper : IsProper p) (layout : layout_of p.op ≡ Compares) where
  abbrev unread : Progress → ℕ → Bool
  unread q = compare_violates q (mode s) m

  abbrev Good : Accesses Leaf → Type 0
  Good tree = Clear unread p.op (unread p) s m tree

  abbrev a : Rest
  a = behind p.done (first_of p)

  abbrev b : Rest
  b = behind p.done (second_of p)

  done_equal : (c d : Rest) → LeavesNoPart (outcome_of (equals c d s next) m)
  unfolding equals completed
  done_equal c d = is_behind.done _ m

  done_differ : (c d : Rest) (x y : ℕ) → LeavesNoPart (outcome_of (differs c d x y s next) m)
  unfolding differs completed
  done_differ c d x y = is_behind.done _ m

  -- so many bytes of a string may be read
  abbrev AreRead : ℕ → Rest → Type 0
  AreRead count r = (i : ℕ) → i < min count r.len → may_access m (page_of (plus r.addr i)) (mode s) Read ≡ true

  filled_clear : (count : ℕ) (r : Rest) (k : List ℕ → State → Accesses Leaf) → r.addr < 2 ^ 32 → ((bytes : List ℕ) → AreRead count r → Good (k bytes s)) → Good (filled_run p.byte count r s k)
  unfolding filled_run
  filled_clear count r k small g =
      if_clear unread p.op (unread p) s m (r.len == 0) _ _
      (λ none. let e : r.len ≡ 0 = eqb-true _ _ none in g _ (λ i h. absurd (omega arith)))
      (λ some. span_clear unread p.op (unread p) s m r.addr (min count r.len) _ small (λ free. g _ free))

  first_clear : (r : Rest) (k : State → Accesses Leaf) → Good (k s) → Good (first_read r s k)
  unfolding first_read
  first_clear r k g = if_clear unread p.op (unread p) s m (r.len == 0) _ _ (λ none. g) (λ some. byte_clear unread p.op (unread p) s m r.addr _ (λ free. g))

  checked_clear : (r : Rest) (k : State → Accesses Leaf) → Good (k s) → Good (first_checked r s k)
  unfolding first_checked
  checked_clear r k g = if_clear unread p.op (unread p) s m (r.len == 0) _ _ (λ none. g) (λ some. check_clear unread p.op (unread p) s m r.addr 1 Read _ (λ free. g))

  -- a byte of a string that is among those
  string_free : (count i : ℕ) (r : Rest) → AreRead count (behind p.done r) → i < count → string_violates r (mode s) m (p.done + i) ≡ false
  string_free count i r free h = elim (cases_Bool (nat_lt (p.done + i) r.len)) [
    | inl inside ↦
        let l : p.done + i < r.len = grind (arith, nat_tests) in
        let e : plus (plus r.addr (min p.done r.len)) i ≡ plus r.addr (p.done + i) = omega arith in
        let good = free i (omega arith) in
        rw inside (ap (is_barred m (mode s)) (sym e) ∙ not_barred m (mode s) _ good)
    | inr outside ↦ rw outside refl
  ]

  end_good : (count : ℕ) (xs ys : List ℕ) → AreRead count a → AreRead count b → Good (compare_end p count a b xs ys s next)
  unfolding compare_end
  end_good count xs ys x y =
      found_clear unread p.op (unread p) s m (λ (x : ℕ × ℕ). not (x.0 == x.1)) (zip xs ys) _ _ (λ i. none_clear unread p.op (unread p) s m _ (done_differ (behind i a) (behind i b) (slice_index xs i) (slice_index ys i)))
      (if_clear unread p.op (unread p) s m (count == pairs_of p - p.done) _ _ (λ all. none_clear unread p.op (unread p) s m _ (done_equal (behind count a) (behind count b)))
      (λ part. left_clear unread p.op (unread p) s m next is_behind full (record p { done = p.done + count }) count refl (done_proper p (p.done + count) layout proper)
      (record {
        clear = λ i h. neither _ _ (string_free count i (first_of p) x h) (string_free count i (second_of p) y h);
        shift = λ i. let e : p.done + count + i ≡ p.done + (count + i) = omega arith in ap (λ n. string_violates (first_of p) (mode s) m n || string_violates (second_of p) (mode s) m n) e;
      })))

  pub compare_clear : Good (compare_part p s next)
  unfolding compare_part compare_run
  compare_clear =
      if_clear unread p.op (unread p) s m (pairs_of p - p.done == 0) _ _ (λ all. none_clear unread p.op (unread p) s m _ (done_equal a b))
      (λ part. first_clear a _ (checked_clear b _
      (filled_clear (compare_room p) a _ (omega arith) (λ xs x.
      filled_clear (compare_room p) b _ (omega arith) (λ ys y. end_good (compare_room p) xs ys x y)))))
