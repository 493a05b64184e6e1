-- How a part of a string instruction ends: it completes the instruction, or leaves what a later part can go on with, or raises an exception.
use Rattle.std.proofs.Common.{◌≡◌, ℕ, suc, zero, ◌+◌, ◌-◌, ◌/◌, ◌^◌, ◌<◌, ◌≤◌, Bool, true, false, ◌==◌, ◌||◌, Option, Some, None, List, ◌++◌, length, take, refl, sym, ap, subst, ◌∙◌, arith}
use Rattle.std.specs.Prelude.{nat_lt, nat_le, min, if◌then◌else◌}
use Rattle.std.specs.List.{position}
use Rattle.std.proofs.Common.{length-take}
use Rattle.std.proofs.lemmas.Bool.{eq-eqb}
use Rattle.std.proofs.lemmas.Bool.Decides.{nat_tests}
use Rattle.vax_word.specs.declared.Codes.{Codes}
use Rattle.vax_space.specs.declared.Access.{Access}
use Rattle.vax_space.specs.declared.Access.TheVariants.{Read}
use Rattle.vax_space.specs.declared.Area.{Area}
use Rattle.vax_space.specs.declared.Violation.{Violation}
use Rattle.vax_space.specs.Reference.{violation}
use Rattle.vax_strpart.specs.declared.packing.Progress.{Progress}
use Rattle.vax_strpart.specs.declared.packing.Layout.{Layout}
use Rattle.vax_strpart.specs.declared.packing.Layout.TheVariants.{Moves, Compares, Searches, Scans, Translates}
use Rattle.vax_strpart.specs.Packing.{layout_of, IsProper, AreUnusedZero}
use Rattle.vax_strpart.specs.Kernels.{first_difference}
use Rattle.vax_flat.specs.declared.Exception.{Exception}
use Rattle.vax_flat.specs.declared.Exception.TheVariants as exception
use Rattle.vax_flat.specs.declared.Flow.{Flow}
use Rattle.vax_flat.specs.declared.Flow.TheVariants as flow
use Rattle.vax_flat.specs.declared.Rest.{Rest}
use Rattle.vax_flat.specs.Memory.{byte_at, number, bytes_from, written_run}
use Rattle.vax_flat.specs.State.{State, mode}
use Rattle.vax_flat.specs.Accesses.{Accesses, Leaf, Went}
use Rattle.vax_flat.specs.Outcome.{Outcome, Ends, Raised, outcome_of, unless_violated, is_allowed}
use Rattle.vax_flat.specs.Operand.{plus, read_at, check_at, asked}
use Rattle.vax_flat.specs.Step.{finished, leaf}
use Rattle.vax_flat.specs.String.{suspended, completed, leaves, read_run_at, read_span, to_page_end, room_up, from_registers, IsReady}
use Rattle.vax_flat.specs.StringAgree.{and_rest, IsBehind}
use Rattle.vax_flat.specs.StringSearch.{located, scanned, Finishes, searched, search_room, if_found, search_end, scan_end, search_run, search_part, whole_search, piece_read, table_read, table_split, scan_run, scan_part, whole_scan}
use Rattle.vax_flat.specs.StringCompare.{differs, equals, filled_run, first_read, first_checked, compare_room, compare_end, compare_run, compare_part, whole_compare, first_of, second_of, first_page, string_room, behind, pairs_of}
use Rattle.vax_flat.specs.StringMove.{moved, moved_count, move_end, move_part, move_rest, IsMove, IsChecked}
use Rattle.vax_flat.specs.StringEscape.{escaped, escape_part, escape_rest, IsEscapeChecked}
use Rattle.vax_flat.specs.StringMatch.{matched, unmatched, at_next_place, match_unit, is_near, match_end, match_on, match_part, whole_match}
use Rattle.vax_flat.specs.StringParts.{done_within, remaining}
use Rattle.vax_flat.proofs.StringSearch.{length_run, search_agrees}
use Rattle.vax_flat.proofs.StringSearch.{unused_alike as unused_searched}
use Rattle.vax_flat.proofs.StringScan.{scan_agrees}
use Rattle.vax_flat.proofs.StringCompare.{compare_agrees}
use Rattle.vax_flat.proofs.StringMove.{move_agrees, some_up, unused_alike}
use Rattle.vax_flat.proofs.StringMove as moves
use Rattle.vax_flat.proofs.StringEscape.{escape_agrees}
use Rattle.vax_flat.proofs.StringEscape as escapes
use Rattle.vax_flat.proofs.StringMatch.{match_agrees}

-- the families of string instructions
pub data Family : Type 0 where
  Seeking : Bool → Family
  Scanning : Bool → Family
  Comparing : Family
  Moving : Bool → Family
  Escaping : Family
  Matching : Family

-- those that write nothing
abbrev pub only_reads : Family → Bool
only_reads (Seeking equal) = true
only_reads (Scanning some) = true
only_reads Comparing = true
only_reads (Moving translate) = false
only_reads Escaping = false
only_reads Matching = true

-- what follows an instruction in a step
abbrev pub fin : Flow → State → Accesses Leaf
fin how s = finished how s leaf

pub behind_fin : IsBehind fin
unfolding finished outcome_of
behind_fin = record { more = λ opcode units s. refl; done = λ s memory. tt }

abbrev pub part_of : Family → Progress → State → (Flow → State → Accesses Leaf) → Accesses Leaf
part_of (Seeking equal) p s next = search_part equal p s next
part_of (Scanning some) p s next = scan_part some p s next
part_of Comparing p s next = compare_part p s next
part_of (Moving translate) p s next = move_part translate p s next
part_of Escaping p s next = escape_part p s next
part_of Matching p s next = match_part p s next

-- a later part, where no more is taken as done than there is
abbrev pub later_of : Family → Progress → State → (Flow → State → Accesses Leaf) → Accesses Leaf
later_of (Seeking equal) p s next = search_part equal p s next
later_of (Scanning some) p s next = scan_part some p s next
later_of Comparing p s next = compare_part (done_within (pairs_of p) p) s next
later_of (Moving translate) p s next = move_part translate (done_within p.len2 p) s next
later_of Escaping p s next = escape_part (done_within (moved_count p) p) s next
later_of Matching p s next = match_part (done_within p.len1 p) s next

-- all that remains
abbrev pub all_of : Family → Progress → State → (Flow → State → Accesses Leaf) → Accesses Leaf
all_of (Seeking equal) p s next = whole_search equal p s next
all_of (Scanning some) p s next = whole_scan some p s next
all_of Comparing p s next = whole_compare p s next
all_of (Moving translate) p s next = move_rest translate p s next
all_of Escaping p s next = escape_rest p s next
all_of Matching p s next = whole_match p s next

-- what holds of a progress from its start on
abbrev pub Holds : Family → Progress → State → List Area → Type 0
Holds (Seeking equal) p s m = (layout_of p.op ≡ Searches) × (p.addr1 < 2 ^ 32)
Holds (Scanning some) p s m = (layout_of p.op ≡ Scans) × (p.addr1 < 2 ^ 32) × (p.table < 2 ^ 32)
Holds Comparing p s m = (layout_of p.op ≡ Compares) × (p.addr1 < 2 ^ 32) × (p.addr2 < 2 ^ 32) × (p.done ≤ pairs_of p)
Holds (Moving translate) p s m = IsMove translate p × IsChecked translate p s m × (p.done ≤ p.len2)
Holds Escaping p s m = IsMove true p × IsEscapeChecked p s m × (p.done ≤ moved_count p)
Holds Matching p s m = (layout_of p.op ≡ Compares) × (p.done ≤ p.len1)

pub record IsSound (f : Family) (p : Progress) (s : State) (m : List Area) : Type 0 where
  pub proper : IsProper p
  pub short : p.delta < 2 ^ 8
  pub holds : Holds f p s m

within_is : (most : ℕ) (p : Progress) → p.done ≤ most → done_within most p ≡ p
within_is most p few = let e : min p.done most ≡ p.done = omega arith in rw e refl

pub later_is : (f : Family) (p : Progress) (s : State) (m : List Area) (next : Flow → State → Accesses Leaf) → Holds f p s m → later_of f p s next ≡ part_of f p s next
later_is (Seeking equal) p s m next h = refl
later_is (Scanning some) p s m next h = refl
later_is Comparing p s m next h = ap (λ q. compare_part q s next) (within_is (pairs_of p) p h.3)
later_is (Moving translate) p s m next h = ap (λ q. move_part translate q s next) (within_is p.len2 p h.2)
later_is Escaping p s m next h = ap (λ q. escape_part q s next) (within_is (moved_count p) p h.2)
later_is Matching p s m next h = ap (λ q. match_part q s next) (within_is p.len1 p h.1)

-- one part, and then the rest by the registers, come to all that remains
pub agrees : (f : Family) (p : Progress) (s : State) (m : List Area) → IsReady s → IsSound f p s m → outcome_of (all_of f p s fin) m ≡ and_rest (λ t. from_registers p.op (all_of f) t fin) (outcome_of (part_of f p s fin) m)
agrees (Seeking equal) p s m ready i = search_agrees equal p s m fin behind_fin ready i.proper i.holds.0 i.holds.1 i.short
agrees (Scanning some) p s m ready i = scan_agrees some p s m fin behind_fin ready i.proper i.holds.0 i.holds.1 i.holds.2 i.short
agrees Comparing p s m ready i = compare_agrees p s m fin behind_fin ready i.proper i.holds.0 i.holds.1 i.holds.2 i.short
agrees (Moving translate) p s m ready i = move_agrees translate p s m fin behind_fin ready i.proper i.holds.0 i.holds.1 i.holds.2
agrees Escaping p s m ready i = escape_agrees p s m fin behind_fin ready i.proper i.holds.0 i.holds.1 i.holds.2
agrees Matching p s m ready i = match_agrees p s m fin behind_fin ready i.proper i.holds.0 i.short i.holds.1

-- the end of a part
pub data Goes (f : Family) (p : Progress) (s : State) (m : List Area) : Outcome Leaf → Type 0 where
  Completed : (t : State) (memory : List Area) → Goes f p s m (Ends (Went flow.Done t) memory)
  Leaving : (q : Progress) (units : ℕ) (memory : List Area) → q.op ≡ p.op → IsSound f q s memory → (only_reads f ≡ true → memory ≡ m) → remaining q < remaining p → Goes f p s m (Ends (Went (flow.More q.op units) (suspended q s)) memory)
  Failing : (e : Exception) → only_reads f ≡ true → Goes f p s m (Raised e)

unused_compares : (layout : Layout) (p q : Progress) → layout ≡ Compares → q.table ≡ p.table → AreUnusedZero layout p → AreUnusedZero layout q
unused_compares Moves p q is same u = absurd (cc)
unused_compares Compares p q is same u = same ∙ u
unused_compares Searches p q is same u = absurd (cc)
unused_compares Scans p q is same u = absurd (cc)
unused_compares Translates p q is same u = absurd (cc)

-- ends of any part
module _ (f : Family) (p : Progress) (s : State) (m : List Area) where
  completed_goes : (values : List ℕ) (codes : Codes) (memory : List Area) → Goes f p s m (outcome_of (completed values codes s fin) memory)
  unfolding completed finished outcome_of
  completed_goes values codes memory = Completed _ memory

  leaving_goes : (q : Progress) (units : ℕ) (memory : List Area) → q.op ≡ p.op → IsSound f q s memory → (only_reads f ≡ true → memory ≡ m) → remaining q < remaining p → Goes f p s m (outcome_of (leaves q units s fin) memory)
  unfolding leaves finished outcome_of
  leaving_goes q units memory same sound kept less = Leaving q units memory same sound kept less

  if_goes : (b : Bool) (x y : Accesses Leaf) (memory : List Area) → (b ≡ true → Goes f p s m (outcome_of x memory)) → (b ≡ false → Goes f p s m (outcome_of y memory)) → Goes f p s m (outcome_of (if b then x else y) memory)
  if_goes true x y memory g h = g refl
  if_goes false x y memory g h = h refl

-- of one that writes nothing
module _ (f : Family) (p : Progress) (s : State) (m : List Area) (reads : only_reads f ≡ true) where
  abbrev Ended : Accesses Leaf → Type 0
  Ended tree = Goes f p s m (outcome_of tree m)

  violated : (v : Option Violation) (outcome : Outcome Leaf) → Goes f p s m outcome → Goes f p s m (unless_violated v outcome)
  violated (Some v) outcome g = Failing (exception.Access v) reads
  violated None outcome g = g

  run_goes : (addr len : ℕ) (next : List ℕ → State → Accesses Leaf) → ((bytes : List ℕ) → length bytes ≡ len → Ended (next bytes s)) → Ended (read_run_at addr len s next)
  unfolding read_run_at outcome_of
  run_goes addr len next g = violated (violation m addr len (mode s) Read) _ (g (bytes_from (byte_at m) addr len) (length_run (byte_at m) addr len))

  byte_goes : (addr : ℕ) (next : ℕ → State → Accesses Leaf) → ((x : ℕ) → Ended (next x s)) → Ended (read_at addr 1 s next)
  unfolding read_at outcome_of
  byte_goes addr next g = violated (violation m addr 1 (mode s) Read) _ (g (number (byte_at m) addr 1))

  check_goes : (addr len : ℕ) (access : Access) (next : State → Accesses Leaf) → Ended (next s) → Ended (check_at addr len access s next)
  unfolding check_at outcome_of
  check_goes addr len access next g = violated (violation m addr len (mode s) access) _ g

  asked_goes : (addr len : ℕ) (access : Access) (next : Bool → State → Accesses Leaf) → ((b : Bool) → Ended (next b s)) → Ended (asked addr len (mode s) access s next)
  unfolding asked outcome_of
  asked_goes addr len access next g = g (is_allowed (violation m addr len (mode s) access))

  either_goes : (b : Bool) (x y : Accesses Leaf) → (b ≡ true → Ended x) → (b ≡ false → Ended y) → Ended (if b then x else y)
  either_goes b x y g h = if_goes f p s m b x y m g h

  done_goes : (values : List ℕ) (codes : Codes) → Ended (completed values codes s fin)
  done_goes values codes = completed_goes f p s m values codes m

  left_goes : (q : Progress) (units : ℕ) → q.op ≡ p.op → IsSound f q s m → remaining q < remaining p → Ended (leaves q units s fin)
  left_goes q units same sound less = leaving_goes f p s m q units m same sound (λ r. refl) less

  found_goes : (place : Option ℕ) (found : ℕ → Accesses Leaf) (none : Accesses Leaf) → ((i : ℕ) → Ended (found i)) → Ended none → Ended (if_found place found none)
  found_goes (Some i) found none g h = g i
  found_goes None found none g h = h

  span_goes : (addr len : ℕ) (next : List ℕ → State → Accesses Leaf) → ((bytes : List ℕ) → Ended (next bytes s)) → Ended (read_span addr len s next)
  unfolding read_span
  span_goes addr len next g = either_goes (nat_le len (to_page_end addr)) _ _ (λ fits. run_goes addr len next (λ bytes l. g bytes)) (λ more. run_goes addr (to_page_end addr) _ (λ low l. run_goes _ _ _ (λ high h. g (low ++ high))))

  located_goes : (left addr : ℕ) → Ended (located left addr s fin)
  unfolding located
  located_goes left addr = done_goes _ _

  scanned_goes : (table left addr : ℕ) → Ended (scanned table left addr s fin)
  unfolding scanned
  scanned_goes table left addr = done_goes _ _

  end_goes : (finish : Finishes) (is_found : ℕ → Bool) (bytes : List ℕ) → ((left addr : ℕ) → Ended (finish left addr s fin)) → IsSound f (searched p (length bytes)) s m → 0 < p.len1 → 0 < length bytes → Ended (search_end finish is_found p bytes s fin)
  unfolding search_end
  end_goes finish is_found bytes g sound left some =
      found_goes (position is_found bytes) _ _ (λ i. g _ _) (either_goes (length bytes == p.len1) _ _ (λ all. g _ _) (λ part. left_goes (searched p (length bytes)) _ refl sound (omega arith)))

  piece_goes : (addr len : ℕ) (next : Bool → List ℕ → State → Accesses Leaf) → ((b : Bool) (bytes : List ℕ) → Ended (next b bytes s)) → Ended (piece_read addr len s next)
  unfolding piece_read
  piece_goes addr len next g = asked_goes addr len Read _ (λ allowed. either_goes allowed _ _ (λ yes. run_goes addr len _ (λ bytes l. g true bytes)) (λ no. g false _))

  table_goes : (table : ℕ) (next : ℕ → ℕ → List ℕ → State → Accesses Leaf) → ((from to : ℕ) (entries : List ℕ) → Ended (next from to entries s)) → Ended (table_read table s next)
  unfolding table_read
  table_goes table next g = either_goes (table_split table == 256) _ _ (λ one. piece_goes table 256 _ (λ b bytes. g _ _ _)) (λ two. piece_goes table _ _ (λ b low. piece_goes _ _ _ (λ c high. g _ _ _)))

  first_goes : (r : Rest) (next : State → Accesses Leaf) → Ended (next s) → Ended (first_read r s next)
  unfolding first_read
  first_goes r next g = either_goes (r.len == 0) _ _ (λ none. g) (λ some. byte_goes r.addr _ (λ x. g))

  checked_goes : (r : Rest) (next : State → Accesses Leaf) → Ended (next s) → Ended (first_checked r s next)
  unfolding first_checked
  checked_goes r next g = either_goes (r.len == 0) _ _ (λ none. g) (λ some. check_goes r.addr 1 Read _ g)

  filled_goes : (fill count : ℕ) (r : Rest) (next : List ℕ → State → Accesses Leaf) → ((bytes : List ℕ) → Ended (next bytes s)) → Ended (filled_run fill count r s next)
  unfolding filled_run
  filled_goes fill count r next g = either_goes (r.len == 0) _ _ (λ none. g _) (λ some. span_goes r.addr _ _ (λ bytes. g _))

  compare_end_goes : (count : ℕ) (a b : Rest) (xs ys : List ℕ) → IsSound f (record p { done = p.done + count }) s m → 0 < count → p.done + count ≤ 2 ^ 17 → Ended (compare_end p count a b xs ys s fin)
  unfolding compare_end differs equals
  compare_end_goes count a b xs ys sound some few =
      found_goes (first_difference xs ys) _ _ (λ i. done_goes _ _) (either_goes (count == pairs_of p - p.done) _ _ (λ all. done_goes _ _) (λ part. left_goes (record p { done = p.done + count }) count refl sound (omega arith)))

sound_searched : (p : Progress) (n : ℕ) → IsProper p → IsProper (searched p n)
sound_searched p n proper = record { len1 = (let h = proper.len1 in omega arith); byte = proper.byte; len2 = proper.len2; unused = unused_searched p n (layout_of p.op) proper.unused }

not_none : (p : Progress) → (p.len1 == 0) ≡ false → 0 < p.len1
not_none p e = grind (arith, nat_tests)

search_some : (p : Progress) → 0 < p.len1 → 0 < search_room p
unfolding search_room
search_some p h = omega arith

search_goes : (equal : Bool) (p : Progress) (s : State) (m : List Area) → IsSound (Seeking equal) p s m → Goes (Seeking equal) p s m (outcome_of (search_part equal p s fin) m)
unfolding search_part search_run
search_goes equal p s m i =
    either_goes (Seeking equal) p s m refl (p.len1 == 0) _ _ (λ none. located_goes (Seeking equal) p s m refl _ _)
    (λ some. let left = not_none p some in let any = search_some p left in
    run_goes (Seeking equal) p s m refl p.addr1 _ _ (λ bytes l.
    end_goes (Seeking equal) p s m refl located _ bytes (λ left addr. located_goes (Seeking equal) p s m refl left addr)
    (record { proper = sound_searched p (length bytes) i.proper; short = i.short; holds = (i.holds.0, omega arith) }) left (omega arith)))

scan_sound : (some : Bool) (p : Progress) (s : State) (m : List Area) (n : ℕ) → IsSound (Scanning some) p s m → IsSound (Scanning some) (searched p n) s m
scan_sound some p s m n i = record { proper = sound_searched p n i.proper; short = i.short; holds = (i.holds.0, omega arith, i.holds.2) }

scan_end_goes : (some : Bool) (p : Progress) (s : State) (m : List Area) (known : ℕ) (entries bytes : List ℕ) → IsSound (Scanning some) p s m → 0 < p.len1 → 0 < length bytes → Goes (Scanning some) p s m (outcome_of (scan_end some p known entries bytes s fin) m)
unfolding scan_end
scan_end_goes some p s m known entries bytes i left any =
    let one = length-take 1 bytes in
    let more = length-take known bytes in
    either_goes (Scanning some) p s m refl (known == 0) _ _
    (λ none. byte_goes (Scanning some) p s m refl _ _ (λ entry.
    end_goes (Scanning some) p s m refl (scanned p.table) _ (take 1 bytes) (λ left addr. scanned_goes (Scanning some) p s m refl p.table left addr) (scan_sound some p s m (length (take 1 bytes)) i) left (omega arith)))
    (λ is. let k : 0 < known = grind (arith, nat_tests) in
    end_goes (Scanning some) p s m refl (scanned p.table) _ (take known bytes) (λ left addr. scanned_goes (Scanning some) p s m refl p.table left addr) (scan_sound some p s m (length (take known bytes)) i) left (omega arith))

scan_goes : (some : Bool) (p : Progress) (s : State) (m : List Area) → IsSound (Scanning some) p s m → Goes (Scanning some) p s m (outcome_of (scan_part some p s fin) m)
unfolding scan_part scan_run
scan_goes some p s m i =
    either_goes (Scanning some) p s m refl (p.len1 == 0) _ _ (λ none. scanned_goes (Scanning some) p s m refl _ _ _)
    (λ is. let left = not_none p is in let any = search_some p left in
    run_goes (Scanning some) p s m refl p.addr1 _ _ (λ bytes l.
    table_goes (Scanning some) p s m refl p.table _ (λ from to entries.
    check_goes (Scanning some) p s m refl _ 1 Read _ (scan_end_goes some p s m _ entries bytes i left (omega arith)))))

compare_sound : (p : Progress) (s : State) (m : List Area) → IsSound Comparing p s m → IsSound Comparing (record p { done = p.done + compare_room p }) s m
unfolding compare_room
compare_sound p s m i = record {
  proper = record { len1 = i.proper.len1; byte = i.proper.byte; len2 = i.proper.len2; unused = unused_compares (layout_of p.op) p _ i.holds.0 refl i.proper.unused };
  short = i.short;
  holds = (i.holds.0, i.holds.1, i.holds.2, (let h = i.holds.3 in omega arith));
}

string_some : (r : Rest) (page : ℕ) → 0 < string_room r page
unfolding string_room
string_some r page = let u = some_up r.addr page in by (nat_le r.len (room_up r.addr page)) u
  where
    by : (b : Bool) → 0 < room_up r.addr page → 0 < (if b then 512 else room_up r.addr page)
    by true u = omega arith
    by false u = u

compare_some : (p : Progress) → (pairs_of p - p.done == 0) ≡ false → (0 < compare_room p) × (compare_room p ≤ pairs_of p - p.done)
unfolding compare_room
compare_some p e =
    let left : 0 < pairs_of p - p.done = grind (arith, nat_tests) in
    let a = string_some (behind p.done (first_of p)) (first_page (behind p.done (second_of p))) in
    let b = string_some (behind p.done (second_of p)) (first_page (behind p.done (first_of p))) in
    (omega arith, omega arith)

compare_goes : (p : Progress) (s : State) (m : List Area) → IsSound Comparing p s m → Goes Comparing p s m (outcome_of (compare_part p s fin) m)
unfolding compare_part compare_run equals
compare_goes p s m i =
    either_goes Comparing p s m refl (pairs_of p - p.done == 0) _ _ (λ none. done_goes Comparing p s m refl _ _)
    (λ is. let some = compare_some p is in let l1 = i.proper.len1 in let l2 = i.proper.len2 in let d = i.holds.3 in
    first_goes Comparing p s m refl _ _ (checked_goes Comparing p s m refl _ _
    (filled_goes Comparing p s m refl p.byte (compare_room p) _ _ (λ xs.
    filled_goes Comparing p s m refl p.byte (compare_room p) _ _ (λ ys.
    compare_end_goes Comparing p s m refl (compare_room p) _ _ xs ys (compare_sound p s m i) some.0 (omega (arith, some.1)))))))

-- a match goes from unit to unit
module _ (o : Progress) (s : State) (m : List Area) where
  abbrev Matches : Progress → Type 0
  Matches p = (p.op ≡ o.op) × IsSound Matching p s m

  -- some unit was made
  abbrev Started : Progress → Type 0
  Started p = Matches p × (remaining p < remaining o)

  unmatched_goes : (p : Progress) → Goes Matching o s m (outcome_of (unmatched p s fin) m)
  unfolding unmatched
  unmatched_goes p = done_goes Matching o s m refl _ _

  matched_goes : (p : Progress) → Goes Matching o s m (outcome_of (matched p s fin) m)
  unfolding matched
  matched_goes p = done_goes Matching o s m refl _ _

  more_sound : (p : Progress) → Matches p → p.done < p.len1 → Matches (record p { done = p.done + 1 })
  more_sound p i h = (
    i.0,
    record {
      proper = record { len1 = i.1.proper.len1; byte = i.1.proper.byte; len2 = i.1.proper.len2; unused = unused_compares (layout_of p.op) p _ i.1.holds.0 refl i.1.proper.unused };
      short = i.1.short;
      holds = (i.1.holds.0, omega arith);
    },
  )

  next_sound : (p : Progress) → Matches p → Matches (at_next_place p)
  next_sound p i = (
    i.0,
    record {
      proper = record { len1 = i.1.proper.len1; byte = i.1.proper.byte; len2 = (let h = i.1.proper.len2 in omega arith); unused = unused_compares (layout_of p.op) p _ i.1.holds.0 refl i.1.proper.unused };
      short = i.1.short;
      holds = (i.1.holds.0, omega arith);
    },
  )

  more_less : (p : Progress) → Matches p → p.done < p.len1 → remaining (record p { done = p.done + 1 }) < remaining p
  more_less p i h = let l = i.1.proper.len1 in omega arith

  next_less : (p : Progress) → Matches p → p.done < p.len1 → p.len1 ≤ p.len2 → remaining (at_next_place p) < remaining p
  next_less p i h g = let l = i.1.proper.len1 in omega arith

  unit_goes : (p : Progress) (next : Progress → State → Accesses Leaf) → Matches p → p.done < p.len1 → p.len1 ≤ p.len2 → remaining p ≤ remaining o → ((q : Progress) → Started q → Goes Matching o s m (outcome_of (next q s) m)) → Goes Matching o s m (outcome_of (match_unit p s next) m)
  unfolding match_unit
  unit_goes p next i h l few g =
      byte_goes Matching o s m refl _ _ (λ x. byte_goes Matching o s m refl _ _ (λ y.
      either_goes Matching o s m refl (x == y) _ _ (λ same. g _ (more_sound p i h, (let r = more_less p i h in omega arith))) (λ other. g _ (next_sound p i, (let r = next_less p i h l in omega arith)))))

  not_all : (p : Progress) → Matches p → (p.done == p.len1) ≡ false → p.done < p.len1
  not_all p i e = let h = i.1.holds.1 in grind (arith, nat_tests)

  long_enough : (p : Progress) → nat_lt p.len2 p.len1 ≡ false → p.len1 ≤ p.len2
  long_enough p e = grind (arith, nat_tests)

  match_end_goes : (p : Progress) (units : ℕ) → Started p → Goes Matching o s m (outcome_of (match_end p units s fin) m)
  match_end_goes p units i =
      either_goes Matching o s m refl (nat_lt p.len2 p.len1) _ _ (λ none. unmatched_goes p) (λ some.
      either_goes Matching o s m refl (p.done == p.len1) _ _ (λ all. matched_goes p) (λ part. left_goes Matching o s m refl p units i.0.0 i.0.1 i.1))

  on_goes : (count units first second : ℕ) (p : Progress) → Started p → Goes Matching o s m (outcome_of (match_on count units first second p s fin) m)
  unfolding match_on
  on_goes zero units first second p i = match_end_goes p units i
  on_goes (suc count) units first second p i =
      either_goes Matching o s m refl (nat_lt p.len2 p.len1) _ _ (λ none. unmatched_goes p) (λ some.
      either_goes Matching o s m refl (p.done == p.len1) _ _ (λ all. matched_goes p) (λ part.
      either_goes Matching o s m refl (is_near first second p) _ _
      (λ near. unit_goes p _ i.0 (not_all p i.0 part) (long_enough p some) (let l = i.1 in omega arith) (λ q j. on_goes count (units + 1) first second q j))
      (λ far. left_goes Matching o s m refl p units i.0.0 i.0.1 i.1)))

  -- the first unit is near its own pages
  near_first : is_near (plus o.addr1 o.done / 512) (plus o.addr2 o.done / 512) o ≡ true
  near_first = let a : (plus o.addr1 o.done / 512 == plus o.addr1 o.done / 512) ≡ true = eq-eqb _ _ refl in let b : (plus o.addr2 o.done / 512 == plus o.addr2 o.done / 512) ≡ true = eq-eqb _ _ refl in rw (a, b) (by (plus o.addr2 o.done / 512 == plus o.addr1 o.done / 512))
    where
      by : (b : Bool) → (b || true) ≡ true
      by true = refl
      by false = refl

  begin_goes : (count : ℕ) → Matches o → Goes Matching o s m (outcome_of (match_on (suc count) 0 (plus o.addr1 o.done / 512) (plus o.addr2 o.done / 512) o s fin) m)
  unfolding match_on
  begin_goes count i =
      either_goes Matching o s m refl (nat_lt o.len2 o.len1) _ _ (λ none. unmatched_goes o) (λ some.
      either_goes Matching o s m refl (o.done == o.len1) _ _ (λ all. matched_goes o) (λ part.
      either_goes Matching o s m refl (is_near (plus o.addr1 o.done / 512) (plus o.addr2 o.done / 512) o) _ _
      (λ near. unit_goes o _ i (not_all o i part) (long_enough o some) (omega arith) (λ q j. on_goes count (0 + 1) _ _ q j))
      (λ far. let no : true ≡ false = sym near_first ∙ far in absurd (cc))))

match_goes : (p : Progress) (s : State) (m : List Area) → IsSound Matching p s m → Goes Matching p s m (outcome_of (match_part p s fin) m)
unfolding match_part
match_goes p s m i = begin_goes p s m 511 (refl, i)

-- moves
moved_goes : (f : Family) (o : Progress) (translate : Bool) (p : Progress) (s : State) (m memory : List Area) → Goes f o s m (outcome_of (moved translate p s fin) memory)
unfolding moved
moved_goes f o translate p s m memory = completed_goes f o s m _ _ memory

escaped_goes : (f : Family) (o : Progress) (p : Progress) (count : ℕ) (b : Bool) (s : State) (m memory : List Area) → Goes f o s m (outcome_of (escaped p count b s fin) memory)
unfolding escaped
escaped_goes f o p count b s m memory = completed_goes f o s m _ _ memory

move_goes : (translate : Bool) (p : Progress) (s : State) (m : List Area) → IsReady s → IsSound (Moving translate) p s m → Goes (Moving translate) p s m (outcome_of (move_part translate p s fin) m)
unfolding move_end
move_goes translate p s m ready i = by (moves.part_goes translate p s m fin behind_fin ready i.proper i.holds.0 i.holds.1 i.holds.2)
  where
    by : moves.PartOf translate p s m fin behind_fin ready i.proper i.holds.0 i.holds.1 i.holds.2 → Goes (Moving translate) p s m (outcome_of (move_part translate p s fin) m)
    by (moves.AllDone is) = subst (Goes (Moving translate) p s m) (sym is) (moved_goes (Moving translate) p translate p s m m)
    by (moves.Wrote j a xs some few is) = subst (Goes (Moving translate) p s m) (sym is)
        (if_goes (Moving translate) p s m (p.done + j == p.len2) _ _ (written_run m a xs) (λ all. moved_goes (Moving translate) p translate p s m (written_run m a xs))
        (λ part. leaving_goes (Moving translate) p s m (record p { done = p.done + j }) j (written_run m a xs) refl
        (record {
          proper = record { len1 = i.proper.len1; byte = i.proper.byte; len2 = i.proper.len2; unused = unused_alike p j (layout_of p.op) translate i.holds.0.layout i.proper.unused };
          short = i.short;
          holds = (moves.later_move translate p s m fin behind_fin ready i.proper i.holds.0 i.holds.1 i.holds.2 j, moves.checked_on translate p s m fin behind_fin ready i.proper i.holds.0 i.holds.1 i.holds.2 j a xs, few);
        }) (λ r. absurd (cc)) (let l = i.proper.len2 in omega arith)))

escape_goes : (p : Progress) (s : State) (m : List Area) → IsReady s → IsSound Escaping p s m → Goes Escaping p s m (outcome_of (escape_part p s fin) m)
escape_goes p s m ready i = by (escapes.part_goes p s m fin behind_fin ready i.proper i.holds.0 i.holds.1 i.holds.2)
  where
    by : escapes.PartOf p s m fin behind_fin ready i.proper i.holds.0 i.holds.1 i.holds.2 → Goes Escaping p s m (outcome_of (escape_part p s fin) m)
    by (escapes.AllDone is) = subst (Goes Escaping p s m) (sym is) (escaped_goes Escaping p p _ false s m m)
    by (escapes.Wrote j a k b xs some few is) = subst (Goes Escaping p s m) (sym is)
        (if_goes Escaping p s m b _ _ (written_run m a xs) (λ found. escaped_goes Escaping p p k true s m (written_run m a xs)) (λ none.
        if_goes Escaping p s m (p.done + j == moved_count p) _ _ (written_run m a xs) (λ all. escaped_goes Escaping p p _ false s m (written_run m a xs))
        (λ part. leaving_goes Escaping p s m (record p { done = p.done + j }) j (written_run m a xs) refl
        (record {
          proper = record { len1 = i.proper.len1; byte = i.proper.byte; len2 = i.proper.len2; unused = unused_alike p j (layout_of p.op) true i.holds.0.layout i.proper.unused };
          short = i.short;
          holds = (escapes.later_move p s m fin behind_fin ready i.proper i.holds.0 i.holds.1 i.holds.2 j, escapes.checked_on p s m fin behind_fin ready i.proper i.holds.0 i.holds.1 i.holds.2 j a xs, few);
        }) (λ r. absurd (cc)) (let l = i.proper.len2 in let z = some none in omega arith))))

pub goes : (f : Family) (p : Progress) (s : State) (m : List Area) → IsReady s → IsSound f p s m → Goes f p s m (outcome_of (part_of f p s fin) m)
goes (Seeking equal) p s m ready i = search_goes equal p s m i
goes (Scanning some) p s m ready i = scan_goes some p s m i
goes Comparing p s m ready i = compare_goes p s m i
goes (Moving translate) p s m ready i = move_goes translate p s m ready i
goes Escaping p s m ready i = escape_goes p s m ready i
goes Matching p s m ready i = match_goes p s m i
