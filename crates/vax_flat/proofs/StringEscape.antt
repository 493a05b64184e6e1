-- A move up to an escape, in parts, is the move.
use Rattle.std.proofs.Common.{ℕ, zero, suc, ◌≡◌, ◌+◌, ◌-◌, ◌/◌, ◌^◌, ◌<◌, ◌≤◌, ◌⊎◌, min, Bool, true, false, not, ◌&&◌, ◌||◌, ◌==◌, nat_lt, if◌then◌else◌, None, List, [], ◌∷◌, ◌++◌, length, take, slice_index, refl, sym, ap, ◌∙◌, inl, inr, arith}
use Rattle.std.specs.Prelude.{nat_le}
use Rattle.std.specs.List.{position_or_len}
use Rattle.std.proofs.lemmas.Bool.{cases_Bool, cases_lt, eqb-true, eq-eqb, ne_eqb, cases_eq}
use Rattle.std.proofs.lemmas.Bool.Decides.{nat_tests}
use Rattle.std.proofs.lemmas.List.{length-map, map-append, length-take-le}
use Rattle.std.proofs.lemmas.List.Sums.{prefix_len-le-length, position_or_len_is}
use Rattle.std.proofs.lemmas.List.Folds.{prefix_len-append}
use Rattle.std.proofs.Math.Seq.{take-append-add}
use Rattle.vax_space.specs.declared.Access.TheVariants.{Read, Write}
use Rattle.vax_space.specs.declared.Area.{Area}
use Rattle.vax_space.specs.Reference.{page_of, may_access, violation}
use Rattle.vax_strpart.specs.declared.packing.Progress.{Progress}
use Rattle.vax_strpart.specs.Packing.{layout_of, packed, IsProper}
use Rattle.vax_strpart.specs.Kernels.{translated, is_escape}
use Rattle.vax_flat.specs.declared.Flow.{Flow}
use Rattle.vax_flat.specs.declared.Flow.TheVariants as flow
use Rattle.vax_flat.specs.Memory.{byte_at, bytes_from, written_run}
use Rattle.vax_flat.specs.State.{State, mode}
use Rattle.vax_flat.specs.Accesses.{Accesses, Leaf}
use Rattle.vax_flat.specs.Outcome.{Outcome, outcome_of}
use Rattle.vax_flat.specs.Operand.{plus}
use Rattle.vax_flat.specs.Bound.{LeavesNoPart}
use Rattle.vax_flat.specs.String.{low_registers, with_low, suspended, continued, completed, leaves, read_span, from_registers, IsReady}
use Rattle.vax_flat.specs.StringMove.{distance, overlaps, moved_count, is_reserved, IsMove}
use Rattle.vax_flat.specs.StringEscape.{escaped_low, escaped, escape_rest, escape_room, source_room, written_some, escape_end, escape_run, escape_part, IsEscapeChecked}
use Rattle.vax_flat.specs.StringAgree.{and_rest, IsBehind}
use Rattle.vax_flat.proofs.StringState.{mode_low, conditions_low, continued_suspended, unpacked_suspended}
use Rattle.vax_flat.proofs.StringSearch.{length_run, rest_of_whole, last, left_so}
use Rattle.vax_flat.proofs.StringScan.{take_run}
use Rattle.vax_flat.proofs.StringCompare.{run_append, run_is, span_is}
use Rattle.vax_flat.proofs.StringMemory.{runs_commute, run-append, bytes_outside, still_allowed, allowed_part, allowed_at, nothing_written, run_written, span_written}
use Rattle.vax_flat.proofs.StringMove.{some_up, unused_alike}

-- what isn't reserved
parts_false : (a b : Bool) → (a || b) ≡ false → (a ≡ false) × (b ≡ false)
parts_false true b e = absurd (cc)
parts_false false b e = (refl, e)

strings_apart : (p : Progress) → 0 < moved_count p → (not (moved_count p == 0) && (not (p.addr1 == p.addr2) && overlaps p.addr2 (moved_count p) p.addr1 (moved_count p))) ≡ false → (p.addr1 ≡ p.addr2) ⊎ (moved_count p ≤ distance p.addr1 p.addr2)
strings_apart p some e = elim (cases_eq p.addr1 p.addr2) [
  | inl same ↦ inl same
  | inr other ↦ elim (cases_lt (distance p.addr1 p.addr2) (moved_count p)) [
    | inr g ↦ inr g
    | inl l ↦ absurd (grind (arith, nat_tests))
  ]
]

table_away : (p : Progress) → 0 < moved_count p → is_reserved true p ≡ false → (p.len2 ≤ distance p.addr2 p.table) × (256 ≤ distance p.table p.addr2)
table_away p some e = (grind (arith, nat_tests), grind (arith, nat_tests))

some_written : (addr : ℕ) (ys : List ℕ) (s : State) (m : List Area) (k : State → Accesses Leaf) → addr < 2 ^ 32 → length ys ≤ 512 → violation m addr (length ys) (mode s) Write ≡ None → outcome_of (written_some addr ys s k) m ≡ outcome_of (k s) (written_run m addr ys)
unfolding written_some
some_written addr [] s m k small few free = ap (outcome_of (k s)) (sym (nothing_written m addr))
some_written addr (y ∷ ys) s m k small few free =
    let n : (length (y ∷ ys) == 0) ≡ false = grind (arith, nat_tests) in
    rw n (span_written s k addr (y ∷ ys) m small (omega arith) few free)

run_split : (m : List Area) (addr count len : ℕ) → addr < 2 ^ 32 → count ≤ len → bytes_from (byte_at m) addr len ≡ bytes_from (byte_at m) addr count ++ bytes_from (byte_at m) (plus addr count) (len - count)
run_split m addr count len small few =
    let e : len ≡ count + (len - count) = omega arith in
    ap (bytes_from (byte_at m) addr) e ∙ sym (run_append (byte_at m) count (len - count) addr small)

module _ (p : Progress) where
  abbrev pub table_in : List Area → List ℕ
  table_in m = bytes_from (byte_at m) p.table 256

  abbrev pub ahead_in : List Area → ℕ → ℕ → List ℕ
  ahead_in m done len = bytes_from (byte_at m) (plus p.addr1 done) len

  -- how many bytes come before the first that escapes
  abbrev pub before : List Area → List ℕ → ℕ
  before m xs = position_or_len (is_escape (table_in m) p.byte) xs

  pub before_le : (m : List Area) (xs : List ℕ) → before m xs ≤ length xs
  before_le m xs = prefix_len-le-length (λ x. not (is_escape (table_in m) p.byte x)) xs

  pub before-append : (m : List Area) (xs ys : List ℕ) → before m (xs ++ ys) ≡ (if before m xs == length xs then length xs + before m ys else before m xs)
  before-append m xs ys = prefix_len-append (λ x. not (is_escape (table_in m) p.byte x)) xs ys

run_begins : (byte : ℕ → ℕ) (addr len : ℕ) → 0 < len → slice_index (bytes_from byte addr len) 0 ≡ byte addr
unfolding bytes_from
run_begins byte addr zero h = absurd (omega arith)
run_begins byte addr (suc len) h = refl

no_ahead : (m : List Area) (addr : ℕ) → bytes_from (byte_at m) addr 0 ≡ []
unfolding bytes_from
no_ahead m addr = refl

-- all that remains
rest_is : (q : Progress) (t : State) (m : List Area) (next : Flow → State → Accesses Leaf) → IsMove true q → IsEscapeChecked q t m → q.done ≤ moved_count q →
    outcome_of (escape_rest q t next) m ≡ outcome_of (escaped q (q.done + before q m (ahead_in q m q.done (moved_count q - q.done))) (nat_lt (before q m (ahead_in q m q.done (moved_count q - q.done))) (moved_count q - q.done)) t next) (written_run m (plus q.addr2 q.done) (translated (table_in q m) (take (before q m (ahead_in q m q.done (moved_count q - q.done))) (ahead_in q m q.done (moved_count q - q.done)))))
unfolding escape_rest
rest_is q t m next is checked few = elim (cases_eq (moved_count q - q.done) 0) [
  | inl e ↦ nothing_left e
  | inr n ↦
      let left = moved_count q - q.done in
      let xs = ahead_in q m q.done left in
      let le = before_le q m xs in
      let len = length_run (byte_at m) (plus q.addr1 q.done) left in
      let count = before q m xs in
      let ys = translated (table_in q m) (take count xs) in
      let ylen : length ys ≡ count = length-map (take count xs) _ ∙ length-take-le count xs le in
      rw (ne_eqb left 0 n)
      (run_is (plus q.addr1 q.done) left t m _ (allowed_part m q.addr1 (moved_count q) q.done left (mode t) Read is.addr1 (omega arith) checked.source)
      ∙ (run_is q.table 256 t m _ (checked.table (omega arith))
      ∙ run_written t _ (plus q.addr2 q.done) ys m (ap (λ k. violation m (plus q.addr2 q.done) k (mode t) Write) ylen ∙ allowed_part m q.addr2 (moved_count q) q.done count (mode t) Write is.addr2 (omega (arith, len, le)) checked.destination)))
]
  where
    nothing_left : moved_count q - q.done ≡ 0 → outcome_of (escape_rest q t next) m ≡ outcome_of (escaped q (q.done + before q m (ahead_in q m q.done (moved_count q - q.done))) (nat_lt (before q m (ahead_in q m q.done (moved_count q - q.done))) (moved_count q - q.done)) t next) (written_run m (plus q.addr2 q.done) (translated (table_in q m) (take (before q m (ahead_in q m q.done (moved_count q - q.done))) (ahead_in q m q.done (moved_count q - q.done)))))
    nothing_left e =
        let none_ahead : ahead_in q m q.done (moved_count q - q.done) ≡ [] = ap (ahead_in q m q.done) e ∙ no_ahead m (plus q.addr1 q.done) in
        let all : moved_count q ≡ q.done + 0 = omega arith in
        rw (none_ahead, e) (ap (λ k. outcome_of (escaped q k false t next) m) all ∙ ap (outcome_of (escaped q (q.done + 0) false t next)) (sym (nothing_written m (plus q.addr2 q.done))))

-- MOVTUC
module _ (p : Progress) (s : State) (m : List Area) (next : Flow → State → Accesses Leaf) (behind : IsBehind next) (ready : IsReady s) (proper : IsProper p) (is : IsMove true p) (checked : IsEscapeChecked p s m) (few : p.done ≤ moved_count p) where
  abbrev n : ℕ
  n = moved_count p

  abbrev left : ℕ
  left = n - p.done

  abbrev rest : State → Accesses Leaf
  rest t = from_registers p.op escape_rest t next

  abbrev whole : Outcome Leaf
  whole = outcome_of (escape_rest p s next) m

  abbrev on : ℕ → Progress
  on j = record p { done = p.done + j }

  done : (count : ℕ) (b : Bool) (memory : List Area) → LeavesNoPart (outcome_of (escaped p count b s next) memory)
  unfolding escaped completed
  done count b memory = behind.done _ memory

  escaped_over : (j : ℕ) (xs : List ℕ) (count : ℕ) (b : Bool) (memory : List Area) → outcome_of (escaped (on j) count b (with_low xs s) next) memory ≡ outcome_of (escaped p count b s next) memory
  unfolding escaped completed
  escaped_over j xs count b memory = ap (λ t. outcome_of (next flow.Done t) memory) (conditions_low s xs (escaped_low p count) _ ready.full)

  pub later_move : (j : ℕ) → IsMove true (on j)
  later_move j = record { layout = is.layout; addr1 = is.addr1; addr2 = is.addr2; table = is.table; delta = is.delta }

  later_checked : (j a : ℕ) (xs ys : List ℕ) → IsEscapeChecked (on j) (with_low ys s) (written_run m a xs)
  later_checked j a xs ys = record {
    source = still_allowed m a xs p.addr1 n (mode (with_low ys s)) Read ∙ (ap (λ k. violation m p.addr1 n k Read) (mode_low s ys) ∙ checked.source);
    table = λ e. still_allowed m a xs p.table 256 (mode (with_low ys s)) Read ∙ (ap (λ k. violation m p.table 256 k Read) (mode_low s ys) ∙ checked.table e);
    apart = checked.apart;
    destination = still_allowed m a xs p.addr2 n (mode (with_low ys s)) Write ∙ (ap (λ k. violation m p.addr2 n k Write) (mode_low s ys) ∙ checked.destination);
  }

  abbrev apart : (is_reserved true p ≡ false) × ((not (n == 0) && (not (p.addr1 == p.addr2) && overlaps p.addr2 n p.addr1 n)) ≡ false)
  apart = parts_false (is_reserved true p) _ checked.apart

  -- so many bytes are moved
  abbrev moved : ℕ → List ℕ
  moved j = translated (table_in p m) (ahead_in p m p.done j)

  moved_length : (j : ℕ) → length (moved j) ≡ j
  moved_length j = length-map (ahead_in p m p.done j) _ ∙ length_run (byte_at m) (plus p.addr1 p.done) j

  abbrev memory_on : ℕ → List Area
  memory_on j = written_run m (plus p.addr2 p.done) (moved j)

  table_kept : (j : ℕ) → 0 < n → p.done + j ≤ n → table_in p (memory_on j) ≡ table_in p m
  table_kept j some within =
      let far = table_away p some apart.0 in
      let a2 = is.addr2 in
      let at = is.table in
      let l2 = proper.len2 in
      let l = moved_length j in
      bytes_outside m (plus p.addr2 p.done) (moved j) p.table 256 (omega arith) at (λ i i' h k e. absurd (omega (arith, l, far.0, far.1)))

  ahead_kept : (j : ℕ) → 0 < n → p.done + j ≤ n → ahead_in p (memory_on j) (p.done + j) (n - (p.done + j)) ≡ ahead_in p m (p.done + j) (n - (p.done + j))
  ahead_kept j some within =
      let l = moved_length j in
      bytes_outside m (plus p.addr2 p.done) (moved j) (plus p.addr1 (p.done + j)) (n - (p.done + j)) (omega arith) (omega arith) (λ i i' h k e. never (strings_apart p some apart.1) i i' (omega arith) k e)
    where
      never : (p.addr1 ≡ p.addr2) ⊎ (n ≤ distance p.addr1 p.addr2) → (i i' : ℕ) → i < j → i' < n - (p.done + j) → plus (plus p.addr2 p.done) i ≡ plus (plus p.addr1 (p.done + j)) i' → ⊥
      never (inl same) i i' h k e = let a1 = is.addr1 in let a2 = is.addr2 in let l2 = proper.len2 in omega arith
      never (inr far) i i' h k e = let a1 = is.addr1 in let a2 = is.addr2 in let l2 = proper.len2 in omega arith

  abbrev all_ahead : List ℕ
  all_ahead = ahead_in p m p.done left

  split_at : (j : ℕ) → p.done + j ≤ n → all_ahead ≡ ahead_in p m p.done j ++ ahead_in p m (p.done + j) (n - (p.done + j))
  split_at j within =
      let e1 : plus (plus p.addr1 p.done) j ≡ plus p.addr1 (p.done + j) = omega arith in
      let e2 : left - j ≡ n - (p.done + j) = omega arith in
      run_split m (plus p.addr1 p.done) j left (omega arith) (omega arith)
      ∙ (ap (λ a. ahead_in p m p.done j ++ bytes_from (byte_at m) a (left - j)) e1 ∙ ap (λ k. ahead_in p m p.done j ++ ahead_in p m (p.done + j) k) e2)

  -- no byte escapes among so many
  abbrev IsClear : ℕ → Type 0
  IsClear j = before p m (ahead_in p m p.done j) ≡ j

  clear_len : (j : ℕ) → length (ahead_in p m p.done j) ≡ j
  clear_len j = length_run (byte_at m) (plus p.addr1 p.done) j

  before_all : (j : ℕ) → p.done + j ≤ n → IsClear j → before p m all_ahead ≡ j + before p m (ahead_in p m (p.done + j) (n - (p.done + j)))
  before_all j within clear =
      let e : (before p m (ahead_in p m p.done j) == length (ahead_in p m p.done j)) ≡ true = eq-eqb _ _ (clear ∙ sym (clear_len j)) in
      ap (before p m) (split_at j within)
      ∙ (before-append p m (ahead_in p m p.done j) _
      ∙ rw e (ap (λ k. k + before p m (ahead_in p m (p.done + j) (n - (p.done + j)))) (clear_len j)))

  -- what is written in all, by the first so many bytes and the rest
  written_all : (j e : ℕ) → p.done + j ≤ n → e ≤ n - (p.done + j) →
      written_run m (plus p.addr2 p.done) (translated (table_in p m) (take (j + e) all_ahead)) ≡ written_run (memory_on j) (plus p.addr2 (p.done + j)) (translated (table_in p m) (take e (ahead_in p m (p.done + j) (n - (p.done + j)))))
  written_all j e within few_more =
      let first = ahead_in p m p.done j in
      let second = ahead_in p m (p.done + j) (n - (p.done + j)) in
      let f = moved j in
      let g = translated (table_in p m) (take e second) in
      let lf = moved_length j in
      let lg : length g ≡ e = length-map (take e second) _ ∙ length-take-le e second (let l = length_run (byte_at m) (plus p.addr1 (p.done + j)) (n - (p.done + j)) in omega arith) in
      let e2 : plus (plus p.addr2 p.done) j ≡ plus p.addr2 (p.done + j) = omega arith in
      let l2 = proper.len2 in
      ap (λ xs. written_run m (plus p.addr2 p.done) (translated (table_in p m) (take (j + e) xs))) (split_at j within)
      ∙ (ap (λ k. written_run m (plus p.addr2 p.done) (translated (table_in p m) (take (k + e) (first ++ second)))) (sym (clear_len j))
      ∙ (ap (λ xs. written_run m (plus p.addr2 p.done) (translated (table_in p m) xs)) (take-append-add first second e)
      ∙ (ap (written_run m (plus p.addr2 p.done)) (map-append _ first (take e second))
      ∙ (run-append m (plus p.addr2 p.done) f g (omega arith)
      ∙ (ap (λ a. written_run (written_run m a g) (plus p.addr2 p.done) f) (ap (plus (plus p.addr2 p.done)) lf ∙ e2)
      ∙ sym (runs_commute m (plus p.addr2 p.done) f (plus p.addr2 (p.done + j)) g (omega arith) (omega arith) (λ i i' h k same. absurd (omega (arith, lf, lg)))))))))

  same_test : (j e : ℕ) → p.done + j ≤ n → nat_lt (j + e) left ≡ nat_lt e (n - (p.done + j))
  same_test j e within = elim (cases_lt e (n - (p.done + j))) [
    | inl l ↦ let a : nat_lt (j + e) left ≡ true = grind (arith, nat_tests) in let b : nat_lt e (n - (p.done + j)) ≡ true = grind (arith, nat_tests) in rw (a, b) refl
    | inr g ↦ let a : nat_lt (j + e) left ≡ false = grind (arith, nat_tests) in let b : nat_lt e (n - (p.done + j)) ≡ false = grind (arith, nat_tests) in rw (a, b) refl
  ]

  abbrev second : ℕ → List ℕ
  second j = ahead_in p m (p.done + j) (n - (p.done + j))

  -- the whole, by what is behind so many bytes of which none escapes
  whole_at : (j : ℕ) → p.done + j ≤ n → IsClear j → whole ≡ outcome_of (escaped p (p.done + j + before p m (second j)) (nat_lt (before p m (second j)) (n - (p.done + j))) s next) (written_run (memory_on j) (plus p.addr2 (p.done + j)) (translated (table_in p m) (take (before p m (second j)) (second j))))
  whole_at j within clear =
      let e = before p m (second j) in
      let le = before_le p m (second j) in
      let len = length_run (byte_at m) (plus p.addr1 (p.done + j)) (n - (p.done + j)) in
      let sum : p.done + (j + e) ≡ p.done + j + e = omega arith in
      rest_is p s m next is checked few
      ∙ (ap (λ k. outcome_of (escaped p (p.done + k) (nat_lt k left) s next) (written_run m (plus p.addr2 p.done) (translated (table_in p m) (take k all_ahead)))) (before_all j within clear)
      ∙ (ap (λ memory. outcome_of (escaped p (p.done + (j + e)) (nat_lt (j + e) left) s next) memory) (written_all j e within (omega (arith, le, len)))
      ∙ (ap (λ b. outcome_of (escaped p (p.done + (j + e)) b s next) (written_run (memory_on j) (plus p.addr2 (p.done + j)) (translated (table_in p m) (take e (second j))))) (same_test j e within)
      ∙ ap (λ k. outcome_of (escaped p k (nat_lt e (n - (p.done + j))) s next) (written_run (memory_on j) (plus p.addr2 (p.done + j)) (translated (table_in p m) (take e (second j))))) sum)))

  goes_on : (j : ℕ) → 0 < n → p.done + j ≤ n → IsClear j → whole ≡ outcome_of (rest (suspended (on j) s)) (memory_on j)
  goes_on j some within clear =
      let q = on j in
      let m' = memory_on j in
      let low = packed q (low_registers s) in
      let fits : IsProper q = record { len1 = proper.len1; byte = proper.byte; len2 = proper.len2; unused = unused_alike p j (layout_of p.op) true is.layout proper.unused } in
      let e = before p m (second j) in
      whole_at j within clear
      ∙ (sym (escaped_over j low (p.done + j + e) (nat_lt e (n - (p.done + j))) (written_run m' (plus p.addr2 (p.done + j)) (translated (table_in p m) (take e (second j)))))
      ∙ (ap (λ table. outcome_of (escaped q (p.done + j + position_or_len (is_escape table p.byte) (second j)) (nat_lt (position_or_len (is_escape table p.byte) (second j)) (n - (p.done + j))) (with_low low s) next) (written_run m' (plus p.addr2 (p.done + j)) (translated table (take (position_or_len (is_escape table p.byte) (second j)) (second j))))) (sym (table_kept j some within))
      ∙ (ap (λ xs. outcome_of (escaped q (p.done + j + before p m' xs) (nat_lt (before p m' xs) (n - (p.done + j))) (with_low low s) next) (written_run m' (plus p.addr2 (p.done + j)) (translated (table_in p m') (take (before p m' xs) xs)))) (sym (ahead_kept j some within))
      ∙ (sym (rest_is q (with_low low s) m' next (later_move j) (later_checked j (plus p.addr2 p.done) (moved j) low) within)
      ∙ (ap (λ t. outcome_of (escape_rest q t next) m') (sym (continued_suspended q s ready is.delta))
      ∙ ap (λ r. outcome_of (escape_rest r (continued r.delta (suspended q s)) next) m') (sym (unpacked_suspended q s ready.full fits)))))))

  -- the whole where all is moved
  whole_end : (j : ℕ) → p.done + j ≡ n → IsClear j → whole ≡ outcome_of (escaped p n false s next) (memory_on j)
  whole_end j all clear =
      let z : n - (p.done + j) ≡ 0 = omega arith in
      let empty : second j ≡ [] = ap (ahead_in p m (p.done + j)) z ∙ no_ahead m (plus p.addr1 (p.done + j)) in
      let sum : p.done + j + 0 ≡ n = omega arith in
      whole_at j (omega arith) clear
      ∙ (ap (λ xs. outcome_of (escaped p (p.done + j + before p m xs) (nat_lt (before p m xs) (n - (p.done + j))) s next) (written_run (memory_on j) (plus p.addr2 (p.done + j)) (translated (table_in p m) (take (before p m xs) xs)))) empty
      ∙ (ap (λ k. outcome_of (escaped p (p.done + j + 0) (nat_lt 0 k) s next) (written_run (memory_on j) (plus p.addr2 (p.done + j)) [])) z
      ∙ (ap (λ k. outcome_of (escaped p k false s next) (written_run (memory_on j) (plus p.addr2 (p.done + j)) [])) sum
      ∙ ap (outcome_of (escaped p n false s next)) (nothing_written (memory_on j) (plus p.addr2 (p.done + j))))))

  abbrev room : ℕ
  room = escape_room p

  abbrev count : ℕ
  count = source_room p

  rooms : 0 < left → (0 < room) × (room ≤ count) × (count ≤ left) × (count ≤ 512)
  unfolding escape_room source_room
  rooms h =
      let a = some_up (plus p.addr1 p.done) (plus p.addr2 p.done / 512) in
      let b = some_up (plus p.addr2 p.done) (plus p.addr1 p.done / 512) in
      (omega arith, omega arith, omega arith, omega arith)

  abbrev here : List ℕ
  here = ahead_in p m p.done count

  here_len : length here ≡ count
  here_len = length_run (byte_at m) (plus p.addr1 p.done) count

  abbrev found : ℕ
  found = before p m here

  -- whether the part's first byte escapes
  abbrev at_once : Bool
  at_once = is_escape (table_in p m) p.byte (byte_at m (plus p.addr1 p.done))

  source_allowed : (i : ℕ) → p.done + i < n → may_access m (page_of (plus (plus p.addr1 p.done) i)) (mode s) Read ≡ true
  source_allowed i h =
      let a1 = is.addr1 in
      let e : plus (plus p.addr1 p.done) i ≡ plus p.addr1 (p.done + i) = omega arith in
      ap (λ a. may_access m (page_of a) (mode s) Read) e ∙ allowed_at m p.addr1 n (p.done + i) (mode s) Read a1 h checked.source

  first_read : 0 < left → outcome_of (escape_run p count room s next) m ≡ outcome_of (if at_once then escaped p p.done true s next else read_span (plus p.addr1 p.done) count s (λ bytes t. escape_end p room bytes (table_in p m) t next)) m
  unfolding escape_run bytes_from
  first_read some =
      let a1 = is.addr1 in
      span_is (plus p.addr1 p.done) 1 s m _ (omega arith) (λ i h. source_allowed i (omega arith))
      ∙ span_is p.table 256 s m _ is.table (λ i h. allowed_at m p.table 256 i (mode s) Read is.table h (checked.table (omega arith)))

  -- where it doesn't, the part goes on
  part_read : 0 < left → at_once ≡ false → outcome_of (escape_run p count room s next) m ≡ outcome_of (escape_end p room here (table_in p m) s next) m
  part_read some on =
      let r = rooms some in
      let a1 = is.addr1 in
      first_read some ∙ rw on (span_is (plus p.addr1 p.done) count s m _ (omega arith) (λ i h. source_allowed i (omega arith)))

  -- where it does, it is all of the part
  part_stopped : 0 < left → at_once ≡ true → outcome_of (escape_run p count room s next) m ≡ outcome_of (escaped p p.done true s next) m
  part_stopped some stop = first_read some ∙ rw stop refl

  none_before : 0 < left → at_once ≡ true → found ≡ 0
  none_before some stop = position_or_len_is (is_escape (table_in p m) p.byte) here 0 0 (omega arith) (λ k h. absurd (omega arith)) (λ h. ap (is_escape (table_in p m) p.byte) (run_begins (byte_at m) (plus p.addr1 p.done) count (let r = rooms some in omega arith)) ∙ stop)

  none_moved : memory_on 0 ≡ m
  none_moved = ap (λ xs. written_run m (plus p.addr2 p.done) (translated (table_in p m) xs)) (no_ahead m (plus p.addr1 p.done)) ∙ nothing_written m (plus p.addr2 p.done)

  -- so many bytes are written
  part_written : (j : ℕ) (k : State → Accesses Leaf) → 0 < left → j ≤ count → outcome_of (written_some (plus p.addr2 p.done) (translated (table_in p m) (take j here)) s k) m ≡ outcome_of (k s) (memory_on j)
  part_written j k some fits =
      let r = rooms some in
      let l = moved_length j in
      let same : translated (table_in p m) (take j here) ≡ moved j = ap (translated (table_in p m)) (take_run (byte_at m) (plus p.addr1 p.done) j count fits) in
      ap (λ ys. outcome_of (written_some (plus p.addr2 p.done) ys s k) m) same
      ∙ some_written (plus p.addr2 p.done) (moved j) s m k (omega arith) (omega arith)
      (ap (λ c. violation m (plus p.addr2 p.done) c (mode s) Write) l ∙ allowed_part m p.addr2 n p.done j (mode s) Write is.addr2 (omega arith) checked.destination)

  -- the byte that escapes is one of these
  whole_found : 0 < left → found < count → whole ≡ outcome_of (escaped p (p.done + found) true s next) (memory_on found)
  whole_found some h =
      let r = rooms some in
      let e1 : plus (plus p.addr1 p.done) count ≡ plus p.addr1 (p.done + count) = omega arith in
      let split = split_at count (omega arith) in
      let not_all : (found == length here) ≡ false = ne_eqb _ _ (λ e. let l = here_len in omega arith) in
      let all_is : before p m all_ahead ≡ found = ap (before p m) split ∙ (before-append p m here _ ∙ rw not_all refl) in
      let front : take found all_ahead ≡ ahead_in p m p.done found = take_run (byte_at m) (plus p.addr1 p.done) found left (omega arith) in
      let t : nat_lt found left ≡ true = grind (arith, nat_tests) in
      rest_is p s m next is checked few
      ∙ (ap (λ k. outcome_of (escaped p (p.done + k) (nat_lt k left) s next) (written_run m (plus p.addr2 p.done) (translated (table_in p m) (take k all_ahead)))) all_is
      ∙ (ap (λ xs. outcome_of (escaped p (p.done + found) (nat_lt found left) s next) (written_run m (plus p.addr2 p.done) (translated (table_in p m) xs))) front
      ∙ ap (λ b. outcome_of (escaped p (p.done + found) b s next) (memory_on found)) t))

  -- none of those that are moved is
  clear_room : 0 < left → (found ≤ room → found < count → ⊥) → IsClear room
  clear_room some never =
      let r = rooms some in
      let split : here ≡ ahead_in p m p.done room ++ bytes_from (byte_at m) (plus (plus p.addr1 p.done) room) (count - room) = run_split m (plus p.addr1 p.done) room count (omega arith) r.1 in
      let appended = ap (before p m) split ∙ before-append p m (ahead_in p m p.done room) _ in
      let le = before_le p m (ahead_in p m p.done room) in
      let l = clear_len room in
      elim (cases_eq (before p m (ahead_in p m p.done room)) room) [
        | inl e ↦ e
        | inr other ↦
            let f : (before p m (ahead_in p m p.done room) == length (ahead_in p m p.done room)) ≡ false = ne_eqb _ _ (λ e. other (e ∙ l)) in
            let is_found : found ≡ before p m (ahead_in p m p.done room) = appended ∙ rw f refl in
            absurd (never (omega arith) (omega arith))
      ]

  -- the end of a part in which none escapes
  clear_end : 0 < left → IsClear room → whole ≡ and_rest rest (outcome_of (if p.done + room == n then escaped p n false s next else leaves (on room) room s next) (memory_on room))
  clear_end some clear =
      let r = rooms some in
      last s next (memory_on room) rest (p.done + room == n) (escaped p n false s next) (leaves (on room) room s next) whole
      (λ all. whole_end room (eqb-true _ _ all) clear ∙ sym (rest_of_whole rest _ (done n false (memory_on room))))
      (λ part. goes_on room (omega arith) (omega arith) clear ∙ sym (left_so s next (memory_on room) rest behind (on room) room))

  -- by whether the escape is among the bytes
  abbrev tail : ℕ → Bool → State → Accesses Leaf
  tail j b t = if b then escaped p (p.done + found) true t next else if p.done + j == n then escaped p n false t next else leaves (record p { done = p.done + j }) j t next

  ended_by : (j : ℕ) (b : Bool) → 0 < left → j ≤ count → whole ≡ and_rest rest (outcome_of (tail j b s) (memory_on j)) → whole ≡ and_rest rest (outcome_of (written_some (plus p.addr2 p.done) (translated (table_in p m) (take j here)) s (tail j b)) m)
  ended_by j b some fits h = h ∙ ap (and_rest rest) (sym (part_written j (tail j b) some fits))

  agrees_some : 0 < left → whole ≡ and_rest rest (outcome_of (escape_end p room here (table_in p m) s next) m)
  unfolding escape_end
  agrees_some some = elim (cases_lt room found) [
    | inl beyond ↦
        let r = rooms some in
        let le : nat_le found room ≡ false = grind (arith, nat_tests) in
        let moves : min found room ≡ room = omega arith in
        rw (moves, le) (ended_by room false some r.1 (clear_end some (clear_room some (λ a b. omega arith))))
    | inr within ↦ elim (cases_lt found count) [
      | inl escapes ↦
          let le : nat_le found room ≡ true = grind (arith, nat_tests) in
          let moves : min found room ≡ found = omega arith in
          let l = here_len in
          let lt : nat_lt found (length here) ≡ true = grind (arith, nat_tests) in
          rw (moves, le, lt) (ended_by found true some (omega arith) (whole_found some escapes ∙ sym (rest_of_whole rest _ (done (p.done + found) true (memory_on found)))))
      | inr none_found ↦
          let r = rooms some in
          let moves : min found room ≡ room = omega arith in
          let le : nat_le found room ≡ true = grind (arith, nat_tests) in
          let l = here_len in
          let lt : nat_lt found (length here) ≡ false = grind (arith, nat_tests) in
          rw (moves, le, lt) (ended_by room false some r.1 (clear_end some (clear_room some (λ a b. omega arith))))
    ]
  ]

  -- where the first byte escapes, nothing more is moved
  whole_stopped : 0 < left → at_once ≡ true → whole ≡ outcome_of (escaped p p.done true s next) m
  whole_stopped some stop =
      let r = rooms some in
      let z = none_before some stop in
      let sum : p.done + 0 ≡ p.done = omega arith in
      whole_found some (omega arith)
      ∙ (ap (λ k. outcome_of (escaped p (p.done + k) true s next) (memory_on k)) z
      ∙ (ap (λ k. outcome_of (escaped p k true s next) (memory_on 0)) sum
      ∙ ap (outcome_of (escaped p p.done true s next)) none_moved))

  pub escape_agrees : whole ≡ and_rest rest (outcome_of (escape_part p s next) m)
  unfolding escape_part
  escape_agrees = elim (cases_eq p.done n) [
    | inl all ↦
        let clear : IsClear 0 = ap (before p m) (no_ahead m (plus p.addr1 p.done)) in
        rw (eq-eqb p.done n all) (whole_end 0 (omega arith) clear ∙ (ap (outcome_of (escaped p n false s next)) none_moved ∙ sym (rest_of_whole rest _ (done n false m))))
    | inr part ↦ rw (ne_eqb p.done n part) (elim (cases_Bool at_once) [
      | inl stop ↦ whole_stopped (omega arith) stop ∙ (sym (rest_of_whole rest _ (done p.done true m)) ∙ ap (and_rest rest) (sym (part_stopped (omega arith) stop)))
      | inr on ↦ agrees_some (omega arith) ∙ ap (and_rest rest) (sym (part_read (omega arith) on))
    ])
  ]

  -- how a part goes: it completes the move, or writes so many bytes and then ends
  pub data PartOf : Type 0 where
    AllDone : outcome_of (escape_part p s next) m ≡ outcome_of (escaped p n false s next) m → PartOf
    Wrote : (j a k : ℕ) (b : Bool) (xs : List ℕ) → (b ≡ false → 0 < j) → p.done + j ≤ n → outcome_of (escape_part p s next) m ≡ outcome_of (if b then escaped p k true s next else if p.done + j == n then escaped p n false s next else leaves (record p { done = p.done + j }) j s next) (written_run m a xs) → PartOf

  wrote_some : 0 < left → (j : ℕ) × (b : Bool) × (b ≡ false → 0 < j) × (p.done + j ≤ n) × (outcome_of (escape_end p room here (table_in p m) s next) m ≡ outcome_of (tail j b s) (memory_on j))
  unfolding escape_end
  wrote_some some = elim (cases_lt room found) [
    | inl beyond ↦
        let r = rooms some in
        let le : nat_le found room ≡ false = grind (arith, nat_tests) in
        let moves : min found room ≡ room = omega arith in
        (room, false, λ e. r.0, omega arith, rw (moves, le) (part_written room (tail room false) some r.1))
    | inr within ↦ elim (cases_lt found count) [
      | inl escapes ↦
          let r = rooms some in
          let le : nat_le found room ≡ true = grind (arith, nat_tests) in
          let moves : min found room ≡ found = omega arith in
          let l = here_len in
          let lt : nat_lt found (length here) ≡ true = grind (arith, nat_tests) in
          (found, true, λ e. absurd (cc), omega arith, rw (moves, le, lt) (part_written found (tail found true) some (omega arith)))
      | inr none_found ↦
          let r = rooms some in
          let moves : min found room ≡ room = omega arith in
          let le : nat_le found room ≡ true = grind (arith, nat_tests) in
          let l = here_len in
          let lt : nat_lt found (length here) ≡ false = grind (arith, nat_tests) in
          (room, false, λ e. r.0, omega arith, rw (moves, le, lt) (part_written room (tail room false) some r.1))
    ]
  ]

  pub part_goes : PartOf
  unfolding escape_part
  part_goes = elim (cases_eq p.done n) [
    | inl all ↦ AllDone (rw (eq-eqb p.done n all) refl)
    | inr part ↦ elim (cases_Bool at_once) [
      | inl stop ↦ Wrote 0 (plus p.addr2 p.done) p.done true (moved 0) (λ e. absurd (cc)) (omega arith) (rw (ne_eqb p.done n part) (part_stopped (omega arith) stop ∙ ap (outcome_of (escaped p p.done true s next)) (sym none_moved)))
      | inr on ↦
          let w = wrote_some (omega arith) in
          Wrote w.0 (plus p.addr2 p.done) (p.done + found) w.1 (moved w.0) w.2 w.3 (rw (ne_eqb p.done n part) (part_read (omega arith) on ∙ w.4))
    ]
  ]

  -- what was checked stays so
  pub checked_on : (j a : ℕ) (xs : List ℕ) → IsEscapeChecked (on j) s (written_run m a xs)
  checked_on j a xs = record {
    source = still_allowed m a xs p.addr1 n (mode s) Read ∙ checked.source;
    table = λ e. still_allowed m a xs p.table 256 (mode s) Read ∙ checked.table e;
    apart = checked.apart;
    destination = still_allowed m a xs p.addr2 n (mode s) Write ∙ checked.destination;
  }
