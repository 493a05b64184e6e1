-- What reads strings leaves memory.
use Rattle.std.proofs.Common.{ℕ, suc, zero, ◌+◌, ◌-◌, ◌==◌, Bool, true, false, Option, Some, None, List, length, refl}
use Rattle.std.specs.Prelude.{if◌then◌else◌, nat_le, nat_lt, min}
use Rattle.vax_space.specs.declared.Access.{Access}
use Rattle.vax_space.specs.declared.Access.TheVariants.{Read}
use Rattle.vax_space.specs.declared.Area.{Area}
use Rattle.vax_space.specs.declared.Violation.{Violation}
use Rattle.vax_space.specs.Reference.{violation}
use Rattle.vax_strpart.specs.declared.packing.Progress.{Progress}
use Rattle.vax_flat.specs.declared.Flow.{Flow}
use Rattle.vax_flat.specs.declared.Rest.{Rest}
use Rattle.vax_flat.specs.Memory.{after, byte_at, number, bytes_from}
use Rattle.vax_flat.specs.State.{State, mode}
use Rattle.vax_flat.specs.Accesses.{Accesses, Leaf}
use Rattle.vax_flat.specs.Outcome.{Outcome, outcome_of, is_allowed, unless_violated}
use Rattle.vax_flat.specs.Operand.{read_at, check_at, asked}
use Rattle.vax_flat.specs.Step.{leaf}
use Rattle.vax_flat.specs.String.{leaves, completed, to_page_end, read_run_at, read_span}
use Rattle.vax_flat.specs.StringSearch.{Examines, Finishes, by_byte, by_entry, sought, located, scanned, if_found, search_end, search_run, search_part, search_room, piece_read, table_split, table_read, scan_end, scan_run, scan_part}
use Rattle.vax_flat.specs.StringCompare.{behind, byte_or, compare, differs, equals, filled_run, first_read, first_checked, compare_end, compare_run, compare_part, pairs_of}
use Rattle.vax_flat.specs.StringMatch.{agreeing, matched, unmatched, match, at_next_place, is_near, match_unit, match_on, match_part}
use Rattle.vax_flat_laws.specs.Maximal.{IsKept}

module _ (m : List Area) where
  abbrev K : Accesses Leaf → Type 0
  K tree = IsKept m (outcome_of tree m)

  k_violated : (v : Option Violation) (outcome : Outcome Leaf) → IsKept m outcome → IsKept m (unless_violated v outcome)
  k_violated (Some v) outcome q = tt
  k_violated None outcome q = q

  k_if : (b : Bool) (x y : Accesses Leaf) → K x → K y → K (if b then x else y)
  k_if true x y qx qy = qx
  k_if false x y qx qy = qy

  k_found : (o : Option ℕ) (found : ℕ → Accesses Leaf) (none : Accesses Leaf) → ((i : ℕ) → K (found i)) → K none → K (if_found o found none)
  k_found (Some i) found none q r = q i
  k_found None found none q r = r

  k_leaf : (how : Flow) (s : State) → K (leaf how s)
  unfolding outcome_of
  k_leaf how s = refl

  k_read : (addr len : ℕ) (s : State) (next : ℕ → State → Accesses Leaf) → ((x : ℕ) → K (next x s)) → K (read_at addr len s next)
  unfolding read_at outcome_of
  k_read addr len s next q = k_violated (violation m addr len (mode s) Read) _ (q (number (byte_at m) addr len))

  k_check : (addr len : ℕ) (kind : Access) (s : State) (next : State → Accesses Leaf) → K (next s) → K (check_at addr len kind s next)
  unfolding check_at outcome_of
  k_check addr len kind s next q = k_violated (violation m addr len (mode s) kind) _ q

  k_asked : (addr len mode : ℕ) (kind : Access) (s : State) (next : Bool → State → Accesses Leaf) → ((b : Bool) → K (next b s)) → K (asked addr len mode kind s next)
  unfolding asked outcome_of
  k_asked addr len mode kind s next q = q (is_allowed (violation m addr len mode kind))

  k_read_run : (addr len : ℕ) (s : State) (next : List ℕ → State → Accesses Leaf) → ((bytes : List ℕ) → K (next bytes s)) → K (read_run_at addr len s next)
  unfolding read_run_at outcome_of
  k_read_run addr len s next q = k_violated (violation m addr len (mode s) Read) _ (q (bytes_from (byte_at m) addr len))

  k_span : (addr len : ℕ) (s : State) (next : List ℕ → State → Accesses Leaf) → ((bytes : List ℕ) → K (next bytes s)) → K (read_span addr len s next)
  unfolding read_span
  k_span addr len s next q = k_if (nat_le len (to_page_end addr)) _ _ (k_read_run addr len s next q) (k_read_run _ _ s _ (λ low. k_read_run _ _ s _ (λ high. q _)))

  -- ---- wholes

  k_sought : (examine : Examines) (finish : Finishes) (s : State) → ((byte : ℕ) (k : Bool → State → Accesses Leaf) → ((b : Bool) → K (k b s)) → K (examine byte s k)) →
      ((left addr : ℕ) → K (finish left addr s leaf)) → (left addr : ℕ) → K (sought examine finish left addr s leaf)
  unfolding sought
  k_sought examine finish s examines finishes zero addr = finishes 0 addr
  k_sought examine finish s examines finishes (suc left) addr =
      k_read addr 1 s _ (λ byte. examines byte _ (λ b. k_if b _ _ (finishes (suc left) addr) (k_sought examine finish s examines finishes left (after addr))))

  pub search_whole_kept : (equal : Bool) (p : Progress) (s : State) → K (sought (by_byte equal p.byte) located p.len1 p.addr1 s leaf)
  unfolding by_byte located completed
  search_whole_kept equal p s = k_sought (by_byte equal p.byte) located s (λ byte k q. q _) (λ left addr. k_leaf _ _) p.len1 p.addr1

  pub scan_whole_kept : (some : Bool) (p : Progress) (s : State) → K (sought (by_entry some p.byte p.table) (scanned p.table) p.len1 p.addr1 s leaf)
  unfolding by_entry scanned completed
  scan_whole_kept some p s = k_sought (by_entry some p.byte p.table) (scanned p.table) s (λ byte k q. k_read _ 1 s _ (λ entry. q _)) (λ left addr. k_leaf _ _) p.len1 p.addr1

  k_byte_or : (fill : ℕ) (r : Rest) (s : State) (next : ℕ → State → Accesses Leaf) → ((x : ℕ) → K (next x s)) → K (byte_or fill r s next)
  unfolding byte_or
  k_byte_or fill r s next q = k_if (r.len == 0) _ _ (q fill) (k_read r.addr 1 s next q)

  pub compare_whole_kept : (fill pairs : ℕ) (a b : Rest) (s : State) → K (compare fill pairs a b s leaf)
  unfolding compare equals differs completed
  compare_whole_kept fill zero a b s = k_leaf _ _
  compare_whole_kept fill (suc pairs) a b s =
      k_byte_or fill a s _ (λ x. k_byte_or fill b s _ (λ y. k_if (x == y) _ _ (compare_whole_kept fill pairs (behind 1 a) (behind 1 b) s) (k_leaf _ _)))

  k_agreeing : (count a b : ℕ) (s : State) (next : Bool → State → Accesses Leaf) → ((x : Bool) → K (next x s)) → K (agreeing count a b s next)
  unfolding agreeing
  k_agreeing zero a b s next q = q true
  k_agreeing (suc count) a b s next q = k_read a 1 s _ (λ x. k_read b 1 s _ (λ y. k_if (x == y) _ _ (k_agreeing count (after a) (after b) s next q) (q false)))

  pub match_whole_kept : (places : ℕ) (p : Progress) (s : State) → K (match places p s leaf)
  unfolding match matched unmatched completed
  match_whole_kept zero p s = k_leaf _ _
  match_whole_kept (suc places) p s = k_agreeing _ _ _ s _ (λ agree. k_if agree _ _ (k_leaf _ _) (match_whole_kept places (at_next_place p) s))

  -- ---- parts

  k_search_end : (finish : Finishes) (is_found : ℕ → Bool) (p : Progress) (bytes : List ℕ) (s : State) → ((left addr : ℕ) → K (finish left addr s leaf)) → K (search_end finish is_found p bytes s leaf)
  unfolding search_end leaves
  k_search_end finish is_found p bytes s finishes = k_found _ _ _ (λ i. finishes _ _) (k_if (length bytes == p.len1) _ _ (finishes _ _) (k_leaf _ _))

  k_located : (s : State) (left addr : ℕ) → K (located left addr s leaf)
  unfolding located completed
  k_located s left addr = k_leaf _ _

  k_scanned : (table : ℕ) (s : State) (left addr : ℕ) → K (scanned table left addr s leaf)
  unfolding scanned completed
  k_scanned table s left addr = k_leaf _ _

  pub search_kept : (equal : Bool) (p : Progress) (s : State) → K (search_part equal p s leaf)
  unfolding search_part search_run
  search_kept equal p s = k_if (p.len1 == 0) _ _ (k_located s _ _) (k_read_run p.addr1 (search_room p) s _ (λ bytes. k_search_end located _ p bytes s (k_located s)))

  k_piece : (addr len : ℕ) (s : State) (next : Bool → List ℕ → State → Accesses Leaf) → ((b : Bool) (bytes : List ℕ) → K (next b bytes s)) → K (piece_read addr len s next)
  unfolding piece_read
  k_piece addr len s next q = k_asked addr len (mode s) Read s _ (λ b. k_if b _ _ (k_read_run addr len s _ (λ bytes. q true bytes)) (q false _))

  k_table : (table : ℕ) (s : State) (next : ℕ → ℕ → List ℕ → State → Accesses Leaf) → ((from to : ℕ) (bytes : List ℕ) → K (next from to bytes s)) → K (table_read table s next)
  unfolding table_read
  k_table table s next q =
      k_if (table_split table == 256) _ _ (k_piece table 256 s _ (λ b bytes. q _ _ _)) (k_piece table (table_split table) s _ (λ b low. k_piece _ _ s _ (λ c high. q _ _ _)))

  pub scan_kept : (some : Bool) (p : Progress) (s : State) → K (scan_part some p s leaf)
  unfolding scan_part scan_run scan_end
  scan_kept some p s =
      k_if (p.len1 == 0) _ _ (k_scanned p.table s _ _)
      (k_read_run p.addr1 (search_room p) s _ (λ bytes. k_table p.table s _ (λ from to entries. k_check _ 1 Read s _
      (k_if _ _ _ (k_read _ 1 s _ (λ entry. k_search_end (scanned p.table) _ p _ s (k_scanned p.table s))) (k_search_end (scanned p.table) _ p _ s (k_scanned p.table s))))))

  k_filled : (fill count : ℕ) (r : Rest) (s : State) (next : List ℕ → State → Accesses Leaf) → ((bytes : List ℕ) → K (next bytes s)) → K (filled_run fill count r s next)
  unfolding filled_run
  k_filled fill count r s next q = k_if (r.len == 0) _ _ (q _) (k_span r.addr (min count r.len) s _ (λ bytes. q _))

  pub compare_kept : (p : Progress) (s : State) → K (compare_part p s leaf)
  unfolding compare_part compare_run compare_end first_read first_checked differs equals completed leaves
  compare_kept p s =
      k_if (pairs_of p - p.done == 0) _ _ (k_leaf _ _)
      (k_if _ _ _ (k_if _ _ _ (runs _) (k_check _ 1 Read s _ (runs _))) (k_read _ 1 s _ (λ x. k_if _ _ _ (runs _) (k_check _ 1 Read s _ (runs _)))))
    where
      runs : (count : ℕ) → K (filled_run p.byte count (behind p.done (record { len = p.len1; addr = p.addr1 })) s (λ xs u. filled_run p.byte count (behind p.done (record { len = p.len2; addr = p.addr2 })) u (λ ys v. compare_end p count (behind p.done (record { len = p.len1; addr = p.addr1 })) (behind p.done (record { len = p.len2; addr = p.addr2 })) xs ys v leaf)))
      runs count = k_filled p.byte count _ s _ (λ xs. k_filled p.byte count _ s _ (λ ys. k_found _ _ _ (λ i. k_leaf _ _) (k_if _ _ _ (k_leaf _ _) (k_leaf _ _))))

  k_matched : (p : Progress) (s : State) → K (matched p s leaf)
  unfolding matched completed
  k_matched p s = k_leaf _ _

  k_unmatched : (p : Progress) (s : State) → K (unmatched p s leaf)
  unfolding unmatched completed
  k_unmatched p s = k_leaf _ _

  k_leaves : (p : Progress) (units : ℕ) (s : State) → K (leaves p units s leaf)
  unfolding leaves
  k_leaves p units s = k_leaf _ _

  k_end : (p : Progress) (units : ℕ) (s : State) → K (if nat_lt p.len2 p.len1 then unmatched p s leaf else if p.done == p.len1 then matched p s leaf else leaves p units s leaf)
  k_end p units s = k_if (nat_lt p.len2 p.len1) _ _ (k_unmatched p s) (k_if (p.done == p.len1) _ _ (k_matched p s) (k_leaves p units s))

  k_unit : (p : Progress) (s : State) (next : Progress → State → Accesses Leaf) → ((q : Progress) → K (next q s)) → K (match_unit p s next)
  unfolding match_unit
  k_unit p s next q = k_read _ 1 s _ (λ x. k_read _ 1 s _ (λ y. k_if (x == y) _ _ (q _) (q _)))

  k_on : (more units first second : ℕ) (p : Progress) (s : State) → K (match_on more units first second p s leaf)
  unfolding match_on leaves
  k_on zero units first second p s = k_end p units s
  k_on (suc more) units first second p s =
      k_if (nat_lt p.len2 p.len1) _ _ (k_unmatched p s) (k_if (p.done == p.len1) _ _ (k_matched p s) (k_if (is_near first second p) _ _ (k_unit p s _ (λ q. k_on more (units + 1) first second q s)) (k_leaf _ _)))

  pub match_kept : (p : Progress) (s : State) → K (match_part p s leaf)
  unfolding match_part
  match_kept p s = k_on 512 0 _ _ p s
