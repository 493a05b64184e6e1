-- A part of a search counts right.
use Rattle.std.proofs.Common.{◌≡◌, ℕ, suc, zero, ◌+◌, ◌-◌, ◌^◌, ◌<◌, ◌≤◌, Bool, true, false, not, if◌then◌else◌, ◌==◌, List, [], ◌∷◌, ◌++◌, length, slice_index, refl, sym, ap, subst, ◌∙◌, arith}
use Rattle.std.specs.List.{position_or_len}
use Rattle.std.proofs.lemmas.Bool.Decides.{nat_tests}
use Rattle.std.proofs.lemmas.List.Sums.{prefix_len_passes, prefix_len-le-length}
use Rattle.vax_space.specs.declared.Access.TheVariants.{Read}
use Rattle.vax_space.specs.declared.Area.{Area}
use Rattle.vax_strpart.specs.declared.packing.Progress.{Progress}
use Rattle.vax_strpart.specs.Packing.{layout_of, IsProper}
use Rattle.vax_flat.specs.declared.Flow.{Flow}
use Rattle.vax_flat.specs.Memory.{after, byte_at, bytes_from, number}
use Rattle.vax_flat.specs.State.{State}
use Rattle.vax_flat.specs.Accesses.{Accesses, Leaf}
use Rattle.vax_flat.specs.Outcome.{outcome_of}
use Rattle.vax_flat.specs.Operand.{plus}
use Rattle.vax_flat.specs.Bound.{LeavesNoPart}
use Rattle.vax_flat.specs.String.{completed}
use Rattle.vax_flat.specs.StringAgree.{IsBehind}
use Rattle.vax_flat.specs.StringSearch.{Finishes, located, scanned, is_sought, is_masked, searched, search_room, search_end, search_run, search_part, is_unknown, is_masked_entry, scan_end, scan_run, scan_part}
use Rattle.vax_flat.proofs.StringSearch.{length_run, number_one, unused_alike}
use Rattle.vax_flat.proofs.StringScan.{byte_in_run, take_run, Reads, reads}
use Rattle.vax_flat.proofs.StringCompare.{run_append}
use Rattle.vax_flat_units.specs.Units.{Counts, to_first, search_units, scan_units, is_marked}
use Rattle.vax_flat_units.proofs.Counting.{Right, none_right, if_right, found_right, run_right, byte_right, check_right, left_right}

-- bytes of which none is found
pub passed_over : (test own : ℕ → Bool) (xs ys : List ℕ) → ((i : ℕ) → i < length xs → test (slice_index xs i) ≡ own (slice_index xs i)) → length xs ≤ position_or_len test xs → to_first own (xs ++ ys) ≡ length xs + to_first own ys
unfolding to_first
passed_over test own [] ys same none = omega arith
passed_over test own (x ∷ xs) ys same none = by (test x) refl (λ few. passed_over test own xs ys (λ i h. same (suc i) (omega arith)) few)
  where
    by : (b : Bool) → test x ≡ b → (length xs ≤ position_or_len test xs → to_first own (xs ++ ys) ≡ length xs + to_first own ys) → (if own x then 1 else suc (to_first own (xs ++ ys))) ≡ suc (length xs) + to_first own ys
    by true is again = let few = rw is at none in absurd (omega arith)
    by false is again =
        let few = rw is at none in
        let here : own x ≡ false = sym (same 0 (omega arith)) ∙ is in
        let rest = again (omega arith) in
        rw here (omega arith)

some_or : (b : Bool) (n : ℕ) → 1 ≤ (if b then 1 else suc n)
some_or true n = omega arith
some_or false n = omega arith

-- where there are bytes, one is tested
pub some_first : (found : ℕ → Bool) (byte : ℕ → ℕ) (addr n : ℕ) → 0 < n → 1 ≤ to_first found (bytes_from byte addr n)
unfolding to_first bytes_from
some_first found byte addr zero h = absurd (omega arith)
some_first found byte addr (suc n) h = some_or (found (byte addr)) (to_first found (bytes_from byte (after addr) n))

pub searched_proper : (p : Progress) (n : ℕ) → IsProper p → IsProper (searched p n)
searched_proper p n proper = record { len1 = (let h = proper.len1 in omega arith); byte = proper.byte; len2 = proper.len2; unused = unused_alike p n (layout_of p.op) proper.unused }

pub none_left : (p : Progress) → (p.len1 == 0) ≡ false → 0 < p.len1
none_left p e = grind (arith, nat_tests)

pub room : (p : Progress) → 0 < p.len1 → (0 < search_room p) × (search_room p ≤ p.len1)
unfolding search_room
room p h = (omega arith, omega arith)

module _ (units : Progress → List Area → ℕ) (own : ℕ → Bool) (finish : Finishes) (p : Progress) (s : State) (m : List Area) (next : Flow → State → Accesses Leaf) (behind : IsBehind next) (full : length s.core.regs ≡ 16) (proper : IsProper p) (small : p.addr1 < 2 ^ 32)
    (done : (left addr : ℕ) → LeavesNoPart (outcome_of (finish left addr s next) m)) (is : (n : ℕ) → units (searched p n) m ≡ to_first own (bytes_from (byte_at m) (plus p.addr1 n) (p.len1 - n))) where
  abbrev total : ℕ
  total = to_first own (bytes_from (byte_at m) p.addr1 p.len1)

  abbrev Fine : Accesses Leaf → Type 0
  Fine tree = Right units p.op total s tree m

  end_right : (test : ℕ → Bool) (n : ℕ) → ((i : ℕ) → i < n → test (byte_at m (plus p.addr1 i)) ≡ own (byte_at m (plus p.addr1 i))) → 0 < n → n ≤ p.len1 → Fine (search_end finish test p (bytes_from (byte_at m) p.addr1 n) s next)
  unfolding search_end
  end_right test n same some few =
      let xs = bytes_from (byte_at m) p.addr1 n in
      let ys = bytes_from (byte_at m) (plus p.addr1 n) (p.len1 - n) in
      let len : length xs ≡ n = length_run (byte_at m) p.addr1 n in
      found_right units p.op total s test xs _ _ m (λ i. none_right units p.op total s _ (done (p.len1 - i) (plus p.addr1 i)))
      (λ none. if_right units p.op total s (length xs == p.len1) _ _ m (λ all. none_right units p.op total s _ (done 0 (plus p.addr1 (length xs))))
      (λ part.
      let fewer : length xs < p.len1 = grind (arith, nat_tests) in
      let e : n + (p.len1 - n) ≡ p.len1 = omega arith in
      let split : total ≡ to_first own (xs ++ ys) = ap (to_first own) (sym (run_append (byte_at m) n (p.len1 - n) p.addr1 small ∙ ap (bytes_from (byte_at m) p.addr1) e)) in
      let passed : to_first own (xs ++ ys) ≡ length xs + to_first own ys = passed_over test own xs ys (λ i h. let at = byte_in_run (byte_at m) n p.addr1 i small (omega arith) in ap test at ∙ (same i (omega arith) ∙ ap own (sym at))) none in
      let after : to_first own ys ≡ units (searched p (length xs)) m = sym (ap (λ k. units (searched p k) m) len ∙ is n) in
      left_right units p.op total s next behind full (searched p (length xs)) (length xs) m refl (searched_proper p (length xs) proper) (omega arith) (subst (λ k. 1 ≤ k) after (some_first own (byte_at m) (plus p.addr1 n) (p.len1 - n) (omega (arith, len, fewer))))
      (split ∙ (passed ∙ ap (λ k. length xs + k) after))))

-- LOCC, SKPC
located_done : (left addr : ℕ) (s : State) (m : List Area) (next : Flow → State → Accesses Leaf) → IsBehind next → LeavesNoPart (outcome_of (located left addr s next) m)
unfolding located completed
located_done left addr s m next behind = behind.done _ m

pub search_right : (equal : Bool) (p : Progress) (s : State) (m : List Area) (next : Flow → State → Accesses Leaf) → IsBehind next → length s.core.regs ≡ 16 → IsProper p → p.addr1 < 2 ^ 32 → Right (search_units equal) p.op (search_units equal p m) s (search_part equal p s next) m
unfolding search_part search_run search_units
search_right equal p s m next behind full proper small =
    if_right (search_units equal) p.op _ s (p.len1 == 0) _ _ m (λ none. none_right (search_units equal) p.op _ s _ (located_done 0 p.addr1 s m next behind))
    (λ some.
    let r = room p (none_left p some) in
    run_right (search_units equal) p.op _ s p.addr1 (search_room p) _ m
    (end_right (search_units equal) (is_sought equal p.byte) located p s m next behind full proper small (λ left addr. located_done left addr s m next behind) (λ n. refl) (is_sought equal p.byte) (search_room p) (λ i h. refl) r.0 r.1))

by_entry_is : (some : Bool) (entries : List ℕ) (mask byte : ℕ) → is_masked_entry some entries mask byte ≡ is_masked some mask (slice_index entries byte)
by_entry_is true entries mask byte = refl
by_entry_is false entries mask byte = refl

-- SCANC, SPANC
module _ (some : Bool) (p : Progress) (s : State) (m : List Area) (next : Flow → State → Accesses Leaf) (behind : IsBehind next) (full : length s.core.regs ≡ 16) (proper : IsProper p) (small : p.addr1 < 2 ^ 32) (near : p.table < 2 ^ 32) where
  done : (left addr : ℕ) → LeavesNoPart (outcome_of (scanned p.table left addr s next) m)
  unfolding scanned completed
  done left addr = behind.done _ m

  left_is : (n : ℕ) → scan_units some (searched p n) m ≡ to_first (is_marked some p m) (bytes_from (byte_at m) (plus p.addr1 n) (p.len1 - n))
  unfolding scan_units
  left_is n = refl

  abbrev all : ℕ
  all = to_first (is_marked some p m) (bytes_from (byte_at m) p.addr1 p.len1)

  abbrev IsRight : Accesses Leaf → Type 0
  IsRight tree = Right (scan_units some) p.op all s tree m

  abbrev ends : (test : ℕ → Bool) (n : ℕ) → ((i : ℕ) → i < n → test (byte_at m (plus p.addr1 i)) ≡ is_marked some p m (byte_at m (plus p.addr1 i))) → 0 < n → n ≤ p.len1 → IsRight (search_end (scanned p.table) test p (bytes_from (byte_at m) p.addr1 n) s next)
  ends test n same any few = end_right (scan_units some) (is_marked some p m) (scanned p.table) p s m next behind full proper small done left_is test n same any few

  abbrev run : List ℕ
  run = bytes_from (byte_at m) p.addr1 (search_room p)

  abbrev held : Reads m s p.table
  held = reads m s p.table near

  abbrev known : ℕ
  known = position_or_len (is_unknown held.from held.to) run

  known_few : known ≤ search_room p
  known_few = omega (arith, prefix_len-le-length (λ x. not (is_unknown held.from held.to x)) run, length_run (byte_at m) p.addr1 (search_room p))

  is_known : (i : ℕ) → i < known → is_unknown held.from held.to (byte_at m (plus p.addr1 i)) ≡ false
  is_known i h = ap (is_unknown held.from held.to) (sym (byte_in_run (byte_at m) (search_room p) p.addr1 i small (let k = known_few in omega arith))) ∙ not_back _ (prefix_len_passes (λ x. not (is_unknown held.from held.to x)) run i 0 h)
    where
      not_back : (b : Bool) → not b ≡ true → b ≡ false
      not_back true e = cc
      not_back false e = refl

  one_of_table : (x : ℕ) → is_unknown held.from held.to x ≡ false → x < 256
  one_of_table x is = let e = held.known.end in grind (arith, nat_tests)

  same_known : (i : ℕ) → i < known → is_masked_entry some held.entries p.byte (byte_at m (plus p.addr1 i)) ≡ is_marked some p m (byte_at m (plus p.addr1 i))
  same_known i h =
      let x = byte_at m (plus p.addr1 i) in
      let k = is_known i h in
      by_entry_is some held.entries p.byte x ∙ ap (is_masked some p.byte) (held.known.entry x (one_of_table x k) k)

  scan_end_right : 0 < p.len1 → IsRight (scan_end some p known held.entries run s next)
  unfolding scan_end
  scan_end_right left =
      let r = room p left in
      let few = known_few in
      if_right (scan_units some) p.op all s (known == 0) _ _ m
      (λ none.
      let one = take_run (byte_at m) p.addr1 1 (search_room p) r.0 in
      let first : slice_index run 0 ≡ byte_at m (plus p.addr1 0) = byte_in_run (byte_at m) (search_room p) p.addr1 0 small r.0 in
      let entry : number (byte_at m) (plus p.table (slice_index run 0)) 1 ≡ byte_at m (plus p.table (byte_at m (plus p.addr1 0))) = number_one (byte_at m) (plus p.table (slice_index run 0)) ∙ ap (λ x. byte_at m (plus p.table x)) first in
      byte_right (scan_units some) p.op all s _ _ m
      (subst (λ xs. IsRight (search_end (scanned p.table) (λ byte. is_masked some p.byte (number (byte_at m) (plus p.table (slice_index run 0)) 1)) p xs s next)) (sym one)
      (ends _ 1 (λ i h. let z : i ≡ 0 = omega arith in ap (is_masked some p.byte) entry ∙ ap (λ k. is_marked some p m (byte_at m (plus p.addr1 k))) (sym z)) (omega arith) (omega arith))))
      (λ any.
      let k : 0 < known = grind (arith, nat_tests) in
      subst (λ xs. IsRight (search_end (scanned p.table) (is_masked_entry some held.entries p.byte) p xs s next)) (sym (take_run (byte_at m) p.addr1 known (search_room p) few))
      (ends _ known same_known k (omega arith)))

  scan_run_right : 0 < p.len1 → IsRight (scan_run some p (search_room p) s next)
  unfolding scan_run
  scan_run_right left =
      run_right (scan_units some) p.op all s p.addr1 (search_room p) _ m
      (subst (λ o. Counts (scan_units some) p.op all o) (sym (held.read _))
      (check_right (scan_units some) p.op all s _ 1 Read _ m (scan_end_right left)))

  pub scan_right : Right (scan_units some) p.op (scan_units some p m) s (scan_part some p s next) m
  unfolding scan_part scan_units
  scan_right =
      if_right (scan_units some) p.op all s (p.len1 == 0) _ _ m (λ none. none_right (scan_units some) p.op all s _ (done 0 p.addr1))
      (λ any. scan_run_right (none_left p any))
