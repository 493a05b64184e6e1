-- What a part of a string instruction adds to what is touched: at most four windows beside those of its operands.
use Rattle.std.proofs.Common.{◌≡◌, ℕ, suc, zero, ◌+◌, ◌-◌, ◌*◌, ◌/◌, ◌%◌, ◌^◌, ◌<◌, ◌≤◌, Bool, true, false, ◌==◌, ◌&&◌, ◌||◌, Option, Some, None, List, ◌∷◌, ◌++◌, length, take, drop, replicate, refl, ap, ◌∙◌, inl, inr, arith, length-append}
use Rattle.std.specs.Prelude.{nat_lt, nat_le, min, slice_index}
use Rattle.std.specs.List.{position, position_or_len}
use Rattle.std.proofs.lemmas.Bool.{cases_Bool, eqb-true}
use Rattle.std.proofs.lemmas.Bool.Decides.{nat_tests}
use Rattle.std.proofs.lemmas.List.{length-map, length-replicate}
use Rattle.std.proofs.Common.{length-take, length-drop}
use Rattle.vax_word.specs.declared.Codes.{Codes}
use Rattle.vax_isa.specs.declared.actions.Text.{Text}
use Rattle.vax_isa.specs.declared.actions.Text.TheVariants as text
use Rattle.vax_strpart.specs.declared.packing.Progress.{Progress}
use Rattle.vax_strpart.specs.Kernels.{translated, is_escape, first_difference}
use Rattle.vax_flat.specs.declared.Exception.TheVariants as exception
use Rattle.vax_flat.specs.declared.Flow.{Flow}
use Rattle.vax_flat.specs.declared.Flow.TheVariants as flow
use Rattle.vax_flat.specs.declared.Rest.{Rest}
use Rattle.vax_flat.specs.State.{State}
use Rattle.vax_flat.specs.Accesses.{Accesses, Leaf}
use Rattle.vax_flat.specs.Operand.{plus, read_at, check_at, asked}
use Rattle.vax_flat.specs.Bound.{place, IsWithin, IsCovered, IsClosed}
use Rattle.vax_flat.specs.String.{completed, leaves, read_run_at, write_run_at, read_span, to_page_end}
use Rattle.vax_flat.specs.StringSearch.{located, scanned, Finishes, search_room, if_found, search_end, scan_end, search_run, search_part, piece_read, table_read, table_split, scan_run, scan_part}
use Rattle.vax_flat.specs.StringCompare.{differs, equals, filled_run, first_read, first_checked, compare_room, compare_end, compare_run, compare_part, first_of, second_of, behind, pairs_of}
use Rattle.vax_flat.specs.StringMove.{moved, moved_count, is_reserved, table_checked, by_table, move_checked, write_pieces, pieces_of, write_high_last, write_low_last, write_span, move_room, move_end, table_applied, move_run, fill_room, fill_run, move_part, move_start}
use Rattle.vax_flat.specs.StringEscape.{escaped, is_escape_reserved, source_room, written_some, escape_close, escape_end, escape_run, escape_part, escape_start}
use Rattle.vax_flat.specs.StringMatch.{matched, unmatched, match_unit, is_near, match_end, match_on, match_part}
use Rattle.vax_flat.specs.StringParts.{resumed}
use Rattle.vax_flat.proofs.Windows.{place_behind, either}
use Rattle.vax_flat.proofs.Listed.{first_by}

place_plus : (addr k : ℕ) → 1 ≤ k → plus addr k ≡ place addr k
place_plus addr zero h = absurd (omega arith)
place_plus addr (suc k) h = refl

-- an address is in the window at its page's first byte
in_page : (page addr : ℕ) → addr < 2 ^ 32 → addr / 512 ≡ page → IsWithin (512 * page) addr 1
in_page page addr small e = record { offset = addr % 512; begins = by (addr % 512) refl; ends = omega arith }
  where
    by : (k : ℕ) → addr % 512 ≡ k → addr ≡ place (512 * page) k
    by zero r = omega arith
    by (suc k) r = omega arith

split_length : (len n : ℕ) (low high : List ℕ) → n ≤ len → length low ≡ n → length high ≡ len - n → length (low ++ high) ≡ len
split_length len n low high few l h = simp length-append (omega arith)

by_or : (a b : Bool) → (a || b) ≡ true → (b ≡ false → a ≡ true)
by_or true b e f = refl
by_or false true e f = absurd (cc)
by_or false false e f = absurd (cc)

first_and : (a b : Bool) → (a && b) ≡ true → a ≡ true
first_and true b e = refl
first_and false b e = absurd (cc)

second_and : (a b : Bool) → (a && b) ≡ true → b ≡ true
second_and true b e = e
second_and false b e = absurd (cc)

module _ (Q : List ℕ → ℕ → Accesses Leaf → Type 0) (c : IsClosed Q) where
  run_adds : (ws : List ℕ) (n addr len : ℕ) (s : State) (next : List ℕ → State → Accesses Leaf) → IsCovered ws addr len → ((bytes : List ℕ) → length bytes ≡ len → Q ws n (next bytes s)) → Q ws n (read_run_at addr len s next)
  unfolding read_run_at
  run_adds ws n addr len s next covered q = c.reads_run ws n addr len _ _ covered q

  written_adds : (ws : List ℕ) (n addr : ℕ) (bytes : List ℕ) (s : State) (next : State → Accesses Leaf) → IsCovered ws addr (length bytes) → Q ws n (next s) → Q ws n (write_run_at addr bytes s next)
  unfolding write_run_at
  written_adds ws n addr bytes s next covered q = c.writes_run ws n addr bytes _ _ covered q

  here : (addr len : ℕ) (ws : List ℕ) → len ≤ 512 → IsCovered (addr ∷ ws) addr len
  here addr len ws h = inl (record { offset = 0; begins = refl; ends = (omega arith) })

  beyond : (addr skip len : ℕ) (ws : List ℕ) → 1 ≤ skip → skip + len ≤ 512 → IsCovered (addr ∷ ws) (plus addr skip) len
  beyond addr skip len ws some h = inl (record { offset = skip; begins = place_plus addr skip some; ends = h })

  -- a run of its own
  own_run : (ws : List ℕ) (n addr len : ℕ) (s : State) (next : List ℕ → State → Accesses Leaf) → len ≤ 512 → ((bytes : List ℕ) → length bytes ≡ len → Q ws n (next bytes s)) → Q ws (suc n) (read_run_at addr len s next)
  own_run ws n addr len s next few q = c.opens addr ws n _ (run_adds (addr ∷ ws) n addr len s next (here addr len ws few) (λ bytes l. c.wider addr ws n _ (q bytes l)))

  own_byte : (ws : List ℕ) (n addr : ℕ) (s : State) (next : ℕ → State → Accesses Leaf) → ((x : ℕ) → Q ws n (next x s)) → Q ws (suc n) (read_at addr 1 s next)
  unfolding read_at
  own_byte ws n addr s next q = c.opens addr ws n _ (c.reads _ n addr 1 _ _ (here addr 1 ws (omega arith)) (λ x. c.wider addr ws n _ (q x)))

  own_write : (ws : List ℕ) (n addr : ℕ) (bytes : List ℕ) (s : State) (next : State → Accesses Leaf) → length bytes ≤ 512 → Q ws n (next s) → Q ws (suc n) (write_run_at addr bytes s next)
  own_write ws n addr bytes s next few q = c.opens addr ws n _ (written_adds (addr ∷ ws) n addr bytes s next (here addr (length bytes) ws few) (c.wider addr ws n _ q))

  -- a run that may go on in the next page lies in one window
  span_adds : (ws : List ℕ) (n addr len : ℕ) (s : State) (next : List ℕ → State → Accesses Leaf) → len ≤ 512 → ((bytes : List ℕ) → length bytes ≡ len → Q ws n (next bytes s)) → Q ws (suc n) (read_span addr len s next)
  unfolding read_span
  span_adds ws n addr len s next few q = c.opens addr ws n _ (either Q c (addr ∷ ws) n (nat_le len (to_page_end addr)) _ _
      (λ fits. run_adds (addr ∷ ws) n addr len s next (here addr len ws few) (λ bytes l. c.wider addr ws n _ (q bytes l)))
      (λ more. let m : to_page_end addr ≤ len = grind (arith, nat_tests) in
      run_adds (addr ∷ ws) n addr (to_page_end addr) s _ (here addr (to_page_end addr) ws (omega arith)) (λ low l.
      run_adds (addr ∷ ws) n (plus addr (to_page_end addr)) (len - to_page_end addr) s _ (beyond addr (to_page_end addr) (len - to_page_end addr) ws (omega arith) (omega arith)) (λ high h.
      c.wider addr ws n _ (q (low ++ high) (split_length len (to_page_end addr) low high m l h))))))

  -- pieces lie in the window of the run
  pieces_add : (w : ℕ) (ws : List ℕ) (n count addr offset : ℕ) (bytes : List ℕ) (s : State) (next : State → Accesses Leaf) → addr ≡ place w offset → 8 * count ≤ length bytes + 7 → (0 < count → offset + length bytes ≤ 512) → Q (w ∷ ws) n (next s) → Q (w ∷ ws) n (write_pieces count addr bytes s next)
  unfolding write_pieces
  pieces_add w ws n zero addr offset bytes s next is few fits q = q
  pieces_add w ws n (suc count) addr offset bytes s next is few fits q =
      let l = length-take 8 bytes in
      let d = length-drop 8 bytes in
      let f = fits (omega arith) in
      written_adds (w ∷ ws) n addr (take 8 bytes) s _ (inl (record { offset = offset; begins = is; ends = (omega arith) }))
      (pieces_add w ws n count (plus addr 8) (offset + 8) (drop 8 bytes) s next (ap (λ a. plus a 8) is ∙ place_behind w offset 8 (omega arith)) (omega arith) (λ some. omega arith) q)

  write_span_adds : (ws : List ℕ) (n addr : ℕ) (bytes : List ℕ) (s : State) (next : State → Accesses Leaf) → length bytes ≤ 512 → Q ws n (next s) → Q ws (suc n) (write_span addr bytes s next)
  unfolding write_span write_high_last write_low_last
  write_span_adds ws n addr bytes s next few q =
      let k = to_page_end addr in
      let l = length-take k bytes in
      let d = length-drop k bytes in
      let o = length-take 1 bytes in
      c.opens addr ws n _ (either Q c (addr ∷ ws) n (nat_le (length bytes) k) _ _
      (λ fits. written_adds (addr ∷ ws) n addr bytes s next (here addr (length bytes) ws few) (c.wider addr ws n _ q))
      (λ more. let m : k < length bytes = grind (arith, nat_tests) in
      either Q c (addr ∷ ws) n (nat_le k 256) _ _
      (λ low. pieces_add addr ws n (pieces_of (take k bytes)) addr 0 (take k bytes) s _ refl (omega arith) (λ some. omega arith)
      (written_adds (addr ∷ ws) n (plus addr k) (drop k bytes) s next (beyond addr k (length (drop k bytes)) ws (omega arith) (omega arith)) (c.wider addr ws n _ q)))
      (λ high. written_adds (addr ∷ ws) n addr (take 1 bytes) s _ (here addr (length (take 1 bytes)) ws (omega arith))
      (pieces_add addr ws n (pieces_of (drop k bytes)) (plus addr k) k (drop k bytes) s _ (place_plus addr k (omega arith)) (omega arith) (λ some. omega arith)
      (written_adds (addr ∷ ws) n addr (take k bytes) s next (here addr (length (take k bytes)) ws (omega arith)) (c.wider addr ws n _ q))))))

  found_adds : (ws : List ℕ) (n : ℕ) (place : Option ℕ) (found : ℕ → Accesses Leaf) (none : Accesses Leaf) → ((i : ℕ) → Q ws n (found i)) → Q ws n none → Q ws n (if_found place found none)
  found_adds ws n (Some i) found none f g = f i
  found_adds ws n None found none f g = g

  module _ (ws : List ℕ) (n : ℕ) (next : Flow → State → Accesses Leaf) (done : (t : State) → Q ws n (next flow.Done t)) (more : (opcode units : ℕ) (t : State) → Q ws n (next (flow.More opcode units) t)) where
    one_more : (tree : Accesses Leaf) → Q ws (suc (suc (suc n))) tree → Q ws (suc (suc (suc (suc n)))) tree
    one_more tree q = c.fewer ws (suc (suc (suc n))) tree q

    two_more : (tree : Accesses Leaf) → Q ws (suc n) tree → Q ws (suc (suc (suc (suc n)))) tree
    two_more tree q = one_more tree (c.fewer ws (suc (suc n)) tree (c.fewer ws (suc n) tree q))

    all_more : (tree : Accesses Leaf) → Q ws n tree → Q ws (suc (suc (suc (suc n)))) tree
    all_more tree q = two_more tree (c.fewer ws n tree q)

    completed_adds : (values : List ℕ) (codes : Codes) (s : State) → Q ws n (completed values codes s next)
    unfolding completed
    completed_adds values codes s = done _

    leaves_adds : (p : Progress) (units : ℕ) (s : State) → Q ws n (leaves p units s next)
    unfolding leaves
    leaves_adds p units s = more _ _ _

    -- LOCC, SKPC
    located_adds : (left addr : ℕ) (s : State) → Q ws n (located left addr s next)
    unfolding located
    located_adds left addr s = completed_adds _ _ s

    scanned_adds : (table left addr : ℕ) (s : State) → Q ws n (scanned table left addr s next)
    unfolding scanned
    scanned_adds table left addr s = completed_adds _ _ s

    end_adds : (finish : Finishes) (is_found : ℕ → Bool) (p : Progress) (bytes : List ℕ) (s : State) → ((left addr : ℕ) → Q ws n (finish left addr s next)) → Q ws n (search_end finish is_found p bytes s next)
    unfolding search_end
    end_adds finish is_found p bytes s f =
        found_adds ws n (position is_found bytes) _ _ (λ i. f _ _) (either Q c ws n (length bytes == p.len1) _ _ (λ all. f _ _) (λ part. leaves_adds _ _ s))

    pub search_adds : (equal : Bool) (p : Progress) (s : State) → Q ws (suc (suc (suc (suc n)))) (search_part equal p s next)
    unfolding search_part search_run search_room
    search_adds equal p s =
        either Q c ws _ (p.len1 == 0) _ _ (λ none. all_more _ (located_adds _ _ s))
        (λ some. two_more _ (own_run ws n p.addr1 _ s _ (omega arith) (λ bytes l. end_adds located _ p bytes s (λ left addr. located_adds left addr s))))

    -- SCANC, SPANC
    piece_adds : (m addr len : ℕ) (s : State) (follow : Bool → List ℕ → State → Accesses Leaf) → len ≤ 512 → ((b : Bool) (bytes : List ℕ) → Q ws m (follow b bytes s)) → Q ws (suc m) (piece_read addr len s follow)
    unfolding piece_read asked
    piece_adds m addr len s follow few q = c.asks _ _ _ _ _ _ _ (λ allowed. either Q c ws (suc m) allowed _ _ (λ yes. own_run ws m addr len s _ few (λ bytes l. q true bytes)) (λ no. c.fewer ws m _ (q false _)))

    table_adds : (m table : ℕ) (s : State) (follow : ℕ → ℕ → List ℕ → State → Accesses Leaf) → ((from to : ℕ) (entries : List ℕ) → Q ws m (follow from to entries s)) → Q ws (suc (suc m)) (table_read table s follow)
    unfolding table_read
    table_adds m table s follow q =
        either Q c ws _ (table_split table == 256) _ _ (λ one. c.fewer ws (suc m) _ (piece_adds m table 256 s _ (omega arith) (λ b bytes. q _ _ _)))
        (λ two. piece_adds (suc m) table _ s _ (omega arith) (λ b low. piece_adds m _ _ s _ (omega arith) (λ b high. q _ _ _)))

    scan_end_adds : (some : Bool) (p : Progress) (known : ℕ) (entries bytes : List ℕ) (s : State) → Q ws (suc n) (scan_end some p known entries bytes s next)
    unfolding scan_end
    scan_end_adds some p known entries bytes s =
        either Q c ws (suc n) (known == 0) _ _
        (λ none. own_byte ws n _ s _ (λ entry. end_adds (scanned p.table) _ p _ s (λ left addr. scanned_adds p.table left addr s)))
        (λ some. c.fewer ws n _ (end_adds (scanned p.table) _ p _ s (λ left addr. scanned_adds p.table left addr s)))

    pub scan_adds : (some : Bool) (p : Progress) (s : State) → Q ws (suc (suc (suc (suc n)))) (scan_part some p s next)
    unfolding scan_part scan_run search_room check_at
    scan_adds some p s =
        either Q c ws _ (p.len1 == 0) _ _ (λ none. all_more _ (scanned_adds _ _ _ s))
        (λ left. own_run ws (suc (suc (suc n))) p.addr1 _ s _ (omega arith) (λ bytes l.
        table_adds (suc n) p.table s _ (λ from to entries. c.checks ws (suc n) _ _ _ _ _ (scan_end_adds some p _ entries bytes s))))

    -- CMPC3, CMPC5
    first_adds : (m : ℕ) (r : Rest) (s : State) (follow : State → Accesses Leaf) → Q ws m (follow s) → Q ws (suc m) (first_read r s follow)
    unfolding first_read
    first_adds m r s follow q = either Q c ws (suc m) (r.len == 0) _ _ (λ none. c.fewer ws m _ q) (λ some. own_byte ws m r.addr s _ (λ x. q))

    checked_adds : (m : ℕ) (r : Rest) (s : State) (follow : State → Accesses Leaf) → Q ws m (follow s) → Q ws m (first_checked r s follow)
    unfolding first_checked check_at
    checked_adds m r s follow q = either Q c ws m (r.len == 0) _ _ (λ none. q) (λ some. c.checks ws m _ _ _ _ _ q)

    filled_adds : (m fill count : ℕ) (r : Rest) (s : State) (follow : List ℕ → State → Accesses Leaf) → count ≤ 512 → ((bytes : List ℕ) → Q ws m (follow bytes s)) → Q ws (suc m) (filled_run fill count r s follow)
    unfolding filled_run
    filled_adds m fill count r s follow few q = either Q c ws (suc m) (r.len == 0) _ _ (λ none. c.fewer ws m _ (q _)) (λ some. span_adds ws m r.addr _ s _ (omega arith) (λ bytes l. q _))

    compare_end_adds : (p : Progress) (count : ℕ) (a b : Rest) (xs ys : List ℕ) (s : State) → Q ws n (compare_end p count a b xs ys s next)
    unfolding compare_end differs equals
    compare_end_adds p count a b xs ys s =
        found_adds ws n (first_difference xs ys) _ _ (λ i. completed_adds _ _ s) (either Q c ws n (count == pairs_of p - p.done) _ _ (λ all. completed_adds _ _ s) (λ part. leaves_adds _ _ s))

    compare_few : (p : Progress) → compare_room p ≤ 512
    unfolding compare_room
    compare_few p = omega arith

    pub compare_adds : (p : Progress) (s : State) → Q ws (suc (suc (suc (suc n)))) (compare_part p s next)
    unfolding compare_part compare_run equals
    compare_adds p s =
        either Q c ws _ (pairs_of p - p.done == 0) _ _ (λ none. all_more _ (completed_adds _ _ s))
        (λ some. one_more _ (first_adds (suc (suc n)) (behind p.done (first_of p)) s _ (checked_adds (suc (suc n)) (behind p.done (second_of p)) s _
        (filled_adds (suc n) p.byte (compare_room p) (behind p.done (first_of p)) s _ (compare_few p) (λ xs.
        filled_adds n p.byte (compare_room p) (behind p.done (second_of p)) s _ (compare_few p) (λ ys. compare_end_adds p _ _ _ xs ys s))))))

    -- MOVC3, MOVC5, MOVTC
    moved_adds : (translate : Bool) (p : Progress) (s : State) → Q ws n (moved translate p s next)
    unfolding moved
    moved_adds translate p s = completed_adds _ _ s

    move_end_adds : (translate : Bool) (p : Progress) (count : ℕ) (s : State) → Q ws n (move_end translate p count s next)
    unfolding move_end
    move_end_adds translate p count s = either Q c ws n (p.done + count == p.len2) _ _ (λ all. moved_adds translate p s) (λ part. leaves_adds _ _ s)

    applied_adds : (m : ℕ) (translate : Bool) (p : Progress) (bytes : List ℕ) (s : State) (follow : List ℕ → State → Accesses Leaf) → length bytes ≤ 512 → ((xs : List ℕ) → length xs ≤ 512 → Q ws m (follow xs s)) → Q ws (suc m) (table_applied translate p bytes s follow)
    unfolding table_applied
    applied_adds m true p bytes s follow few q = span_adds ws m p.table 256 s _ (omega arith) (λ table l. q _ (let e : length (translated table bytes) ≡ length bytes = length-map bytes _ in omega arith))
    applied_adds m false p bytes s follow few q = c.fewer ws m _ (q bytes few)

    move_few : (p : Progress) → move_room p ≤ 512
    unfolding move_room
    move_few p = omega arith

    fill_few : (p : Progress) → fill_room p ≤ 512
    unfolding fill_room
    fill_few p = omega arith

    pub move_adds : (translate : Bool) (p : Progress) (s : State) → Q ws (suc (suc (suc (suc n)))) (move_part translate p s next)
    unfolding move_part move_run fill_run
    move_adds translate p s =
        let room = move_few p in
        let fill = fill_few p in
        let filled : length (replicate (fill_room p) p.byte) ≡ fill_room p = length-replicate (fill_room p) p.byte in
        either Q c ws _ (p.done == p.len2) _ _ (λ all. all_more _ (moved_adds translate p s)) (λ part.
        either Q c ws _ (nat_lt p.done (moved_count p)) _ _
        (λ less. one_more _ (span_adds ws (suc (suc n)) _ (move_room p) s _ room (λ bytes l.
        applied_adds (suc n) translate p bytes s _ (omega arith) (λ xs few.
        write_span_adds ws n _ xs s _ few (move_end_adds translate p _ s)))))
        (λ past. two_more _ (own_write ws n _ _ s _ (omega arith) (move_end_adds translate p _ s))))

    table_checked_adds : (m : ℕ) (translate : Bool) (p : Progress) (s : State) (follow : State → Accesses Leaf) → Q ws m (follow s) → Q ws m (table_checked translate p s follow)
    unfolding table_checked check_at
    table_checked_adds m translate p s follow q = either Q c ws m (by_table translate p) _ _ (λ yes. c.checks ws m _ _ _ _ _ q) (λ no. q)

    move_checked_adds : (m : ℕ) (translate : Bool) (p : Progress) (written : ℕ) (s : State) (follow : State → Accesses Leaf) → Q ws m (follow s) → Q ws m (move_checked translate p written s follow)
    unfolding move_checked check_at
    move_checked_adds m translate p written s follow q = c.checks ws m _ _ _ _ _ (table_checked_adds m translate p s _ (c.checks ws m _ _ _ _ _ q))

    move_start_adds : (translate : Bool) (p : Progress) (s : State) → Q ws (suc (suc (suc (suc n)))) (move_start translate p s next)
    unfolding move_start
    move_start_adds translate p s = either Q c ws _ (is_reserved translate p) _ _ (λ yes. c.raises _ _ exception.Operand) (λ fine. move_checked_adds _ translate p _ s _ (move_adds translate p s))

    -- MOVTUC
    escaped_adds : (p : Progress) (count : ℕ) (escape : Bool) (s : State) → Q ws n (escaped p count escape s next)
    unfolding escaped
    escaped_adds p count escape s = completed_adds _ _ s

    close_adds : (p : Progress) (count room len : ℕ) (s : State) → Q ws n (escape_close p count room len s next)
    close_adds p count room len s =
        either Q c ws n (nat_le count room && nat_lt count len) _ _ (λ found. escaped_adds p _ _ s) (λ none.
        either Q c ws n (p.done + min count room == moved_count p) _ _ (λ all. escaped_adds p _ _ s) (λ part. leaves_adds _ _ s))

    some_adds : (addr : ℕ) (bytes : List ℕ) (s : State) (follow : State → Accesses Leaf) → length bytes ≤ 512 → Q ws n (follow s) → Q ws (suc n) (written_some addr bytes s follow)
    unfolding written_some
    some_adds addr bytes s follow few q = either Q c ws (suc n) (length bytes == 0) _ _ (λ none. c.fewer ws n _ q) (λ some. write_span_adds ws n addr bytes s follow few q)

    escape_end_adds : (p : Progress) (room : ℕ) (bytes table : List ℕ) (s : State) → length bytes ≤ 512 → Q ws (suc n) (escape_end p room bytes table s next)
    unfolding escape_end
    escape_end_adds p room bytes table s few =
        let moves = min (position_or_len (is_escape table p.byte) bytes) room in
        let l = length-take moves bytes in
        let e : length (translated table (take moves bytes)) ≡ length (take moves bytes) = length-map (take moves bytes) _ in
        some_adds _ _ s _ (omega arith) (close_adds p _ room _ s)

    source_few : (p : Progress) → source_room p ≤ 512
    unfolding source_room
    source_few p = omega arith

    pub escape_adds : (p : Progress) (s : State) → Q ws (suc (suc (suc (suc n)))) (escape_part p s next)
    unfolding escape_part escape_run
    escape_adds p s =
        let few = source_few p in
        either Q c ws _ (p.done == moved_count p) _ _ (λ all. all_more _ (escaped_adds p _ _ s))
        (λ part. span_adds ws (suc (suc (suc n))) _ 1 s _ (omega arith) (λ first l.
        span_adds ws (suc (suc n)) p.table 256 s _ (omega arith) (λ table h.
        either Q c ws _ (is_escape table p.byte (slice_index first 0)) _ _ (λ stop. c.fewer ws (suc n) _ (c.fewer ws n _ (escaped_adds p _ _ s))) (λ on.
        span_adds ws (suc n) _ (source_room p) s _ few (λ bytes l. escape_end_adds p _ bytes table s (omega arith))))))

    escape_start_adds : (p : Progress) (s : State) → Q ws (suc (suc (suc (suc n)))) (escape_start p s next)
    unfolding escape_start
    escape_start_adds p s = either Q c ws _ (is_escape_reserved p) _ _ (λ yes. c.raises _ _ exception.Operand) (λ fine. move_checked_adds _ true p _ s _ (escape_adds p s))

    -- MATCHC: both bytes of a unit are in the windows of the part's first pages
    none_adds : (p : Progress) (s : State) → Q ws n (unmatched p s next)
    unfolding unmatched
    none_adds p s = completed_adds _ _ s

    all_adds : (p : Progress) (s : State) → Q ws n (matched p s next)
    unfolding matched
    all_adds p s = completed_adds _ _ s

    match_end_adds : (p : Progress) (units : ℕ) (s : State) → Q ws n (match_end p units s next)
    match_end_adds p units s =
        either Q c ws n (nat_lt p.len2 p.len1) _ _ (λ none. none_adds p s) (λ some.
        either Q c ws n (p.done == p.len1) _ _ (λ all. all_adds p s) (λ part. leaves_adds _ _ s))

    module _ (first second : ℕ) where
      abbrev both : List ℕ
      both = 512 * second ∷ 512 * first ∷ ws

      wide : (tree : Accesses Leaf) → Q ws n tree → Q both n tree
      wide tree q = c.wider (512 * second) (512 * first ∷ ws) n tree (c.wider (512 * first) ws n tree q)

      covered_near : (addr : ℕ) → addr < 2 ^ 32 → (addr / 512 == first || addr / 512 == second) ≡ true → IsCovered both addr 1
      covered_near addr small e = elim (cases_Bool (addr / 512 == second)) [
        | inl s ↦ inl (in_page second addr small (eqb-true (addr / 512) second s))
        | inr other ↦ inr (inl (in_page first addr small (eqb-true (addr / 512) first (by_or (addr / 512 == first) (addr / 512 == second) e other))))
      ]

      unit_adds : (p : Progress) (s : State) (follow : Progress → State → Accesses Leaf) → is_near first second p ≡ true → ((q : Progress) → Q both n (follow q s)) → Q both n (match_unit p s follow)
      unfolding match_unit read_at
      unit_adds p s follow near q =
          let a = plus p.addr1 p.done in
          let b = plus p.addr2 p.done in
          c.reads _ n a 1 _ _ (covered_near a (omega arith) (first_and _ _ near)) (λ x.
          c.reads _ n b 1 _ _ (covered_near b (omega arith) (second_and (a / 512 == first || a / 512 == second) _ near)) (λ y.
          either Q c both n (x == y) _ _ (λ same. q _) (λ other. q _)))

      on_adds : (count units : ℕ) (p : Progress) (s : State) → Q both n (match_on count units first second p s next)
      unfolding match_on
      on_adds zero units p s = wide _ (match_end_adds p units s)
      on_adds (suc count) units p s =
          either Q c both n (nat_lt p.len2 p.len1) _ _ (λ none. wide _ (none_adds p s)) (λ some.
          either Q c both n (p.done == p.len1) _ _ (λ all. wide _ (all_adds p s)) (λ part.
          either Q c both n (is_near first second p) _ _ (λ near. unit_adds p s _ near (λ q. on_adds count (units + 1) q s)) (λ far. wide _ (leaves_adds _ _ s))))

    pub match_adds : (p : Progress) (s : State) → Q ws (suc (suc (suc (suc n)))) (match_part p s next)
    unfolding match_part
    match_adds p s =
        let first = plus p.addr1 p.done / 512 in
        let second = plus p.addr2 p.done / 512 in
        one_more _ (c.fewer ws (suc (suc n)) _ (c.opens (512 * first) ws (suc n) _ (c.opens (512 * second) (512 * first ∷ ws) n _ (on_adds first second 512 0 p s))))

    -- the first part, behind the operands
    pub first_by_adds : (t : Text) (p : Progress) (s : State) → Q ws (suc (suc (suc (suc n)))) (first_by t p s next)
    unfolding first_by
    first_by_adds text.Move p s = move_start_adds false p s
    first_by_adds text.MoveFilled p s = move_start_adds false p s
    first_by_adds text.MoveTranslated p s = move_start_adds true p s
    first_by_adds text.MoveTranslatedUntil p s = escape_start_adds p s
    first_by_adds text.Compare p s = compare_adds p s
    first_by_adds text.CompareFilled p s = compare_adds p s
    first_by_adds text.Locate p s = search_adds true p s
    first_by_adds text.Skip p s = search_adds false p s
    first_by_adds text.Scan p s = scan_adds true p s
    first_by_adds text.Span p s = scan_adds false p s
    first_by_adds text.Match p s = match_adds p s

    -- a later part
    pub resumed_adds : (opcode : ℕ) (s : State) → Q ws (suc (suc (suc (suc n)))) (resumed opcode s next)
    unfolding resumed
    resumed_adds opcode s =
        either Q c ws _ (opcode == 0x28 || opcode == 0x2C) _ _ (λ is. move_adds false _ _) (λ other.
        either Q c ws _ (opcode == 0x2E) _ _ (λ is. move_adds true _ _) (λ other.
        either Q c ws _ (opcode == 0x2F) _ _ (λ is. escape_adds _ _) (λ other.
        either Q c ws _ (opcode == 0x3A) _ _ (λ is. search_adds true _ _) (λ other.
        either Q c ws _ (opcode == 0x3B) _ _ (λ is. search_adds false _ _) (λ other.
        either Q c ws _ (opcode == 0x2A) _ _ (λ is. scan_adds true _ _) (λ other.
        either Q c ws _ (opcode == 0x2B) _ _ (λ is. scan_adds false _ _) (λ other.
        either Q c ws _ (opcode == 0x39) _ _ (λ is. match_adds _ _) (λ other. compare_adds _ _))))))))
