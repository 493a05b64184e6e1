-- A move in parts is the move.
use Rattle.std.proofs.Common.{ℕ, ◌≡◌, ◌+◌, ◌-◌, ◌/◌, ◌%◌, ◌^◌, ◌<◌, ◌≤◌, ◌⊎◌, min, max, Bool, true, false, not, ◌&&◌, ◌==◌, nat_lt, if◌then◌else◌, None, List, [], ◌++◌, length, replicate, refl, sym, ap, ◌∙◌, inl, inr, arith}
use Rattle.std.proofs.lemmas.Bool.{cases_Bool, cases_lt, eqb-true, eq-eqb, ne_eqb, cases_eq}
use Rattle.std.proofs.lemmas.Bool.Decides.{nat_tests}
use Rattle.std.proofs.lemmas.List.{length-replicate, length-map, map-append, replicate-append-replicate}
use Rattle.vax_space.specs.declared.Access.TheVariants.{Read, Write}
use Rattle.vax_space.specs.declared.Area.{Area}
use Rattle.vax_space.specs.Reference.{page_of, may_access, violation}
use Rattle.vax_strpart.specs.declared.packing.Progress.{Progress}
use Rattle.vax_strpart.specs.declared.packing.Layout.{Layout}
use Rattle.vax_strpart.specs.declared.packing.Layout.TheVariants.{Moves, Compares, Searches, Scans, Translates}
use Rattle.vax_strpart.specs.Packing.{layout_of, packed, IsProper, AreUnusedZero}
use Rattle.vax_strpart.specs.Kernels.{translated}
use Rattle.vax_flat.specs.declared.Flow.{Flow}
use Rattle.vax_flat.specs.declared.Flow.TheVariants as flow
use Rattle.vax_flat.specs.Memory.{byte_at, bytes_from, written_run}
use Rattle.vax_flat.specs.State.{State, mode}
use Rattle.vax_flat.specs.Accesses.{Accesses, Leaf}
use Rattle.vax_flat.specs.Outcome.{Outcome, outcome_of}
use Rattle.vax_flat.specs.Operand.{plus}
use Rattle.vax_flat.specs.Bound.{LeavesNoPart}
use Rattle.vax_flat.specs.String.{low_registers, with_low, suspended, continued, completed, leaves, read_run_at, room_up, room_down, from_registers, IsReady}
use Rattle.vax_flat.specs.StringMove.{distance, overlaps, moved_count, is_backward, moved_bytes, moved_low, moved, move_rest, write_span, lowest, run_room, move_room, move_end, table_applied, move_run, fill_room, fill_run, move_part, IsMove, IsChecked}
use Rattle.vax_flat.specs.StringAgree.{and_rest, IsBehind}
use Rattle.vax_flat.proofs.StringState.{mode_low, conditions_low, continued_suspended, unpacked_suspended}
use Rattle.vax_flat.proofs.StringSearch.{length_run, rest_of_whole, last, left_so}
use Rattle.vax_flat.proofs.StringCompare.{run_append, run_is, span_is}
use Rattle.vax_flat.proofs.StringMemory.{Apart, runs_commute, run-append, bytes_outside, still_allowed, allowed_part, allowed_at, nothing_written, run_written, span_written}

-- bytes as they are moved
module _ (translate : Bool) (p : Progress) where
  abbrev pub by : Bool → List ℕ → List ℕ → List ℕ
  by b table xs = if b then translated table xs else xs

  abbrev pub shaped : List Area → List ℕ → List ℕ
  shaped m xs = by translate (bytes_from (byte_at m) p.table 256) xs

  by-append : (b : Bool) (table xs ys : List ℕ) → by b table (xs ++ ys) ≡ by b table xs ++ by b table ys
  by-append true table xs ys = map-append _ xs ys
  by-append false table xs ys = refl

  by-length : (b : Bool) (table xs : List ℕ) → length (by b table xs) ≡ length xs
  by-length true table xs = length-map xs _
  by-length false table xs = refl

  -- a run of the source as it is moved
  abbrev pub source : List Area → ℕ → ℕ → List ℕ
  source m addr count = shaped m (bytes_from (byte_at m) addr count)

  pub source_length : (m : List Area) (addr count : ℕ) → length (source m addr count) ≡ count
  source_length m addr count = by-length translate (bytes_from (byte_at m) p.table 256) _ ∙ length_run (byte_at m) addr count

  pub source_append : (m : List Area) (addr count len : ℕ) → addr < 2 ^ 32 → source m addr (count + len) ≡ source m addr count ++ source m (plus addr count) len
  source_append m addr count len small = ap (shaped m) (sym (run_append (byte_at m) count len addr small)) ∙ by-append translate (bytes_from (byte_at m) p.table 256) _ _

  -- the memory at the end of a move, from one in which so much is done
  abbrev pub first_of : Progress → ℕ
  first_of q = if is_backward q then 0 else min q.done (moved_count q)

  abbrev pub filled_of : Progress → ℕ
  filled_of q = max q.done (moved_count q)

  abbrev pub end_of : Progress → List Area → List Area
  end_of q m = written_run (written_run m (plus q.addr2 (first_of q)) (source m (plus q.addr1 (first_of q)) (moved_count q - q.done))) (plus q.addr2 (filled_of q)) (replicate (q.len2 - filled_of q) q.byte)

nothing_moved : (b : Bool) (table : List ℕ) → (if b then translated table [] else []) ≡ []
nothing_moved true table = refl
nothing_moved false table = refl

no_bytes : (byte : ℕ → ℕ) (addr : ℕ) → bytes_from byte addr 0 ≡ []
unfolding bytes_from
no_bytes byte addr = refl

first_within : (b : Bool) (done n : ℕ) → (if b then 0 else min done n) + (n - done) ≤ n
first_within true done n = omega arith
first_within false done n = omega arith

pub table_due : (b : Bool) (n : ℕ) → b ≡ true → 0 < n → (b && not (n == 0)) ≡ true
table_due true n e h = let f : (n == 0) ≡ false = grind (arith, nat_tests) in rw f refl
table_due false n e h = absurd (cc)

bytes_moved : (translate : Bool) (p : Progress) (addr count : ℕ) (t : State) (m : List Area) (k : List ℕ → State → Accesses Leaf) → violation m addr count (mode t) Read ≡ None → (0 < count → translate ≡ true → violation m p.table 256 (mode t) Read ≡ None) →
    outcome_of (moved_bytes translate p addr count t k) m ≡ outcome_of (k (source translate p m addr count) t) m
unfolding moved_bytes
bytes_moved translate p addr count t m k free table = elim (cases_eq count 0) [
  | inl e ↦ rw (eq-eqb count 0 e) (ap (λ xs. outcome_of (k xs t) m) (sym (nothing_moved translate (bytes_from (byte_at m) p.table 256)) ∙ ap (shaped translate p m) (sym (no_bytes (byte_at m) addr))) ∙ ap (λ n. outcome_of (k (source translate p m addr n) t) m) (sym e))
  | inr n ↦ rw (ne_eqb count 0 n) (run_is addr count t m _ free ∙ by_translate translate (λ e. table (omega arith) e))
]
  where
    by_translate : (b : Bool) → (b ≡ true → violation m p.table 256 (mode t) Read ≡ None) → outcome_of (if b then read_run_at p.table 256 t (λ table s. k (translated table (bytes_from (byte_at m) addr count)) s) else k (bytes_from (byte_at m) addr count) t) m ≡ outcome_of (k (if b then translated (bytes_from (byte_at m) p.table 256) (bytes_from (byte_at m) addr count) else bytes_from (byte_at m) addr count) t) m
    by_translate true free = run_is p.table 256 t m _ (free refl)
    by_translate false free = refl

-- all that remains
pub rest_is : (translate : Bool) (q : Progress) (t : State) (m : List Area) (next : Flow → State → Accesses Leaf) → IsMove translate q → IsChecked translate q t m → q.done ≤ q.len2 → outcome_of (move_rest translate q t next) m ≡ outcome_of (moved translate q t next) (end_of translate q q m)
unfolding move_rest
rest_is translate q t m next is checked few =
    let n = moved_count q in
    let count = n - q.done in
    let first = first_of translate q q in
    let within = first_within (is_backward q) q.done n in
    let filled = filled_of translate q q in
    let bytes = source translate q m (plus q.addr1 first) count in
    let len = source_length translate q m (plus q.addr1 first) count in
    let n_few : n ≤ q.len2 = omega arith in
    let free1 : violation m (plus q.addr2 first) (length bytes) (mode t) Write ≡ None = ap (λ k. violation m (plus q.addr2 first) k (mode t) Write) len ∙ allowed_part m q.addr2 q.len2 first count (mode t) Write is.addr2 (omega arith) checked.destination in
    let fills = replicate (q.len2 - filled) q.byte in
    let flen : length fills ≡ q.len2 - filled = length-replicate (q.len2 - filled) q.byte in
    let free2 : violation m (plus q.addr2 filled) (length fills) (mode t) Write ≡ None = ap (λ k. violation m (plus q.addr2 filled) k (mode t) Write) flen ∙ allowed_part m q.addr2 q.len2 filled (q.len2 - filled) (mode t) Write is.addr2 (omega arith) checked.destination in
    bytes_moved translate q (plus q.addr1 first) count t m _ (allowed_part m q.addr1 n first count (mode t) Read is.addr1 within checked.source) (λ some e. checked.table (table_due translate n e (omega arith)))
    ∙ (run_written t _ (plus q.addr2 first) bytes m free1
    ∙ run_written t _ (plus q.addr2 filled) fills (written_run m (plus q.addr2 first) bytes) (still_allowed m (plus q.addr2 first) bytes (plus q.addr2 filled) (length fills) (mode t) Write ∙ free2))

-- which way a move goes
back_is : (p : Progress) → is_backward p ≡ true → (0 < distance p.addr1 p.addr2) × (distance p.addr1 p.addr2 < moved_count p)
unfolding is_backward
back_is p e = (grind (arith, nat_tests), grind (arith, nat_tests))

ahead_is : (p : Progress) → is_backward p ≡ false → (distance p.addr1 p.addr2 ≡ 0) ⊎ (moved_count p ≤ distance p.addr1 p.addr2)
unfolding is_backward
ahead_is p e = elim (cases_lt 0 (distance p.addr1 p.addr2)) [
  | inr z ↦ inl (omega arith)
  | inl h ↦ elim (cases_lt (distance p.addr1 p.addr2) (moved_count p)) [
    | inr g ↦ inr g
    | inl l ↦ absurd (grind (arith, nat_tests))
  ]
]

table_apart : (p : Progress) → overlaps p.addr2 p.len2 p.table 256 ≡ false → (p.len2 ≤ distance p.addr2 p.table) × (256 ≤ distance p.table p.addr2)
table_apart p e = (grind (arith, nat_tests), grind (arith, nat_tests))

module _ (translate : Bool) (p : Progress) (m : List Area) (proper : IsProper p) (is : IsMove translate p) where
  abbrev n : ℕ
  n = moved_count p

  n_small : n < 2 ^ 16
  n_small = (let h = proper.len1 in omega arith)

  -- the table is where no byte is moved to
  table_kept : (t : State) → IsChecked translate p t m → 0 < n → (skip count : ℕ) (xs : List ℕ) → length xs ≡ count → skip + count ≤ p.len2 → translate ≡ true → bytes_from (byte_at (written_run m (plus p.addr2 skip) xs)) p.table 256 ≡ bytes_from (byte_at m) p.table 256
  table_kept t checked some skip count xs len within yes' =
      let open_table : overlaps p.addr2 p.len2 p.table 256 ≡ false = rw (table_due translate n yes' some) at checked.apart in
      let far = table_apart p open_table in
      let a2 = is.addr2 in
      let at = is.table in
      let l2 = proper.len2 in
      bytes_outside m (plus p.addr2 skip) xs p.table 256 (omega arith) at (λ i j h k e. absurd (omega (arith, len, far.0, far.1)))

  -- bytes that are still to be moved are as they were
  shaped_kept : (t : State) → IsChecked translate p t m → 0 < n → (skip count : ℕ) (xs ys : List ℕ) → length xs ≡ count → skip + count ≤ p.len2 → shaped translate p (written_run m (plus p.addr2 skip) xs) ys ≡ shaped translate p m ys
  shaped_kept t checked some skip count xs ys len within = elim (cases_Bool translate) [
    | inl yes' ↦ ap (λ table. by translate p translate table ys) (table_kept t checked some skip count xs len within yes')
    | inr no' ↦ rw no' refl
  ]

  module _ (t : State) (checked : IsChecked translate p t m) where
    -- the rest of the source once a part was written
    source_kept : (skip count from len : ℕ) → 0 < n → skip + count ≤ n → Apart (plus p.addr2 skip) count (plus p.addr1 from) len →
        source translate p (written_run m (plus p.addr2 skip) (source translate p m (plus p.addr1 skip) count)) (plus p.addr1 from) len ≡ source translate p m (plus p.addr1 from) len
    source_kept skip count from len some within apart =
        let xs = source translate p m (plus p.addr1 skip) count in
        let l = source_length translate p m (plus p.addr1 skip) count in
        ap (shaped translate p (written_run m (plus p.addr2 skip) xs)) (bytes_outside m (plus p.addr2 skip) xs (plus p.addr1 from) len (omega arith) (omega arith) (λ i j h k. apart i j (omega arith) k))
        ∙ shaped_kept t checked some skip count xs (bytes_from (byte_at m) (plus p.addr1 from) len) l (omega arith)

    forward : is_backward p ≡ false → (k j c : ℕ) → 0 < n → k + j + c ≡ n →
        written_run m (plus p.addr2 k) (source translate p m (plus p.addr1 k) (j + c))
        ≡ written_run (written_run m (plus p.addr2 k) (source translate p m (plus p.addr1 k) j)) (plus p.addr2 (k + j)) (source translate p (written_run m (plus p.addr2 k) (source translate p m (plus p.addr1 k) j)) (plus p.addr1 (k + j)) c)
    forward ahead k j c some all =
        let small = n_small in
        let a1 = is.addr1 in
        let a2 = is.addr2 in
        let first = source translate p m (plus p.addr1 k) j in
        let second = source translate p m (plus p.addr1 (k + j)) c in
        let l1 = source_length translate p m (plus p.addr1 k) j in
        let l2 = source_length translate p m (plus p.addr1 (k + j)) c in
        let e1 : plus (plus p.addr1 k) j ≡ plus p.addr1 (k + j) = omega arith in
        let e2 : plus (plus p.addr2 k) j ≡ plus p.addr2 (k + j) = omega arith in
        let far = ahead_is p ahead in
        ap (written_run m (plus p.addr2 k)) (source_append translate p m (plus p.addr1 k) j c (omega arith) ∙ ap (λ a. first ++ source translate p m a c) e1)
        ∙ (run-append m (plus p.addr2 k) first second (omega arith)
        ∙ (ap (λ a. written_run (written_run m a second) (plus p.addr2 k) first) (ap (plus (plus p.addr2 k)) l1 ∙ e2)
        ∙ (sym (runs_commute m (plus p.addr2 k) first (plus p.addr2 (k + j)) second (omega arith) (omega arith) (λ i i' h h' e. absurd (omega (arith, l1, l2))))
        ∙ ap (written_run (written_run m (plus p.addr2 k) first) (plus p.addr2 (k + j))) (sym (source_kept k j (k + j) c some (omega arith) (λ i i' h h' e. apart_ahead far i i' h h' e))))))
      where
        apart_ahead : (distance p.addr1 p.addr2 ≡ 0) ⊎ (n ≤ distance p.addr1 p.addr2) → (i i' : ℕ) → i < j → i' < c → plus (plus p.addr2 k) i ≡ plus (plus p.addr1 (k + j)) i' → ⊥
        apart_ahead (inl z) i i' h h' e = let small = n_small in let a1 = is.addr1 in let a2 = is.addr2 in omega arith
        apart_ahead (inr g) i i' h h' e = let small = n_small in let a1 = is.addr1 in let a2 = is.addr2 in omega arith

    backward : is_backward p ≡ true → (k j c : ℕ) → 0 < n → k + j + c ≡ n →
        written_run m (plus p.addr2 0) (source translate p m (plus p.addr1 0) (c + j))
        ≡ written_run (written_run m (plus p.addr2 c) (source translate p m (plus p.addr1 c) j)) (plus p.addr2 0) (source translate p (written_run m (plus p.addr2 c) (source translate p m (plus p.addr1 c) j)) (plus p.addr1 0) c)
    backward back k j c some all =
        let small = n_small in
        let a1 = is.addr1 in
        let a2 = is.addr2 in
        let low = source translate p m (plus p.addr1 0) c in
        let high = source translate p m (plus p.addr1 c) j in
        let l1 = source_length translate p m (plus p.addr1 0) c in
        let e1 : plus (plus p.addr1 0) c ≡ plus p.addr1 c = omega arith in
        let e2 : plus (plus p.addr2 0) c ≡ plus p.addr2 c = omega arith in
        let near = back_is p back in
        ap (written_run m (plus p.addr2 0)) (source_append translate p m (plus p.addr1 0) c j (omega arith) ∙ ap (λ a. low ++ source translate p m a j) e1)
        ∙ (run-append m (plus p.addr2 0) low high (omega arith)
        ∙ (ap (λ a. written_run (written_run m a high) (plus p.addr2 0) low) (ap (plus (plus p.addr2 0)) l1 ∙ e2)
        ∙ ap (written_run (written_run m (plus p.addr2 c) high) (plus p.addr2 0)) (sym (source_kept c j 0 c some (omega arith) (λ i i' h h' e. apart_back near.0 near.1 i i' h h' e)))))
      where
        apart_back : 0 < distance p.addr1 p.addr2 → distance p.addr1 p.addr2 < n → (i i' : ℕ) → i < j → i' < c → plus (plus p.addr2 c) i ≡ plus (plus p.addr1 0) i' → ⊥
        apart_back g l i i' h h' e = let small = n_small in let a1 = is.addr1 in let a2 = is.addr2 in omega arith

    abbrev later : ℕ → Progress
    later j = record p { done = p.done + j }

    same_way : (j : ℕ) → is_backward (later j) ≡ is_backward p
    unfolding is_backward
    same_way j = refl

    lowest_is : (j : ℕ) → lowest p j ≡ (if is_backward p then n - (p.done + j) else p.done)
    unfolding lowest
    lowest_is j = refl

    -- the memory once so many bytes are moved
    abbrev moved_on : ℕ → List Area
    moved_on j = written_run m (plus p.addr2 (lowest p j)) (source translate p m (plus p.addr1 (lowest p j)) j)

    bytes_on : (j : ℕ) → 0 < n → p.done + j ≤ n →
        written_run m (plus p.addr2 (first_of translate p p)) (source translate p m (plus p.addr1 (first_of translate p p)) (n - p.done))
        ≡ written_run (moved_on j) (plus p.addr2 (first_of translate p (later j))) (source translate p (moved_on j) (plus p.addr1 (first_of translate p (later j))) (n - (p.done + j)))
    bytes_on j some few = by_way (is_backward p) refl
      where
        by_way : (b : Bool) → is_backward p ≡ b →
            written_run m (plus p.addr2 (first_of translate p p)) (source translate p m (plus p.addr1 (first_of translate p p)) (n - p.done))
            ≡ written_run (moved_on j) (plus p.addr2 (first_of translate p (later j))) (source translate p (moved_on j) (plus p.addr1 (first_of translate p (later j))) (n - (p.done + j)))
        by_way true e =
            let c : n - p.done ≡ n - (p.done + j) + j = omega arith in
            rw (lowest_is j, same_way j, e, c) (backward e p.done j (n - (p.done + j)) some (omega arith))
        by_way false e =
            let c : n - p.done ≡ j + (n - (p.done + j)) = omega arith in
            let f1 : min p.done n ≡ p.done = omega arith in
            let f2 : min (p.done + j) n ≡ p.done + j = omega arith in
            rw (lowest_is j, same_way j, e, c, f1, f2) (forward e p.done j (n - (p.done + j)) some (omega arith))

    moves_on : (j : ℕ) → p.done < n → p.done + j ≤ n → end_of translate p p m ≡ end_of translate p (later j) (moved_on j)
    moves_on j some few =
        let f1 : max p.done n ≡ n = omega arith in
        let f2 : max (p.done + j) n ≡ n = omega arith in
        rw (f1, f2) (ap (λ memory. written_run memory (plus p.addr2 n) (replicate (p.len2 - n) p.byte)) (bytes_on j (omega arith) few))

    -- fills come behind the bytes that are moved
    filled_on : ℕ → List Area
    filled_on j = written_run m (plus p.addr2 p.done) (replicate j p.byte)

    fills_on : (j : ℕ) → n ≤ p.done → p.done + j ≤ p.len2 → end_of translate p p m ≡ end_of translate p (later j) (filled_on j)
    unfolding filled_on
    fills_on j behind few =
        let a2 = is.addr2 in
        let l2 = proper.len2 in
        let f1 : max p.done n ≡ p.done = omega arith in
        let f2 : max (p.done + j) n ≡ p.done + j = omega arith in
        let z1 : n - p.done ≡ 0 = omega arith in
        let z2 : n - (p.done + j) ≡ 0 = omega arith in
        let c : p.len2 - p.done ≡ j + (p.len2 - (p.done + j)) = omega arith in
        let d : plus (plus p.addr2 p.done) j ≡ plus p.addr2 (p.done + j) = omega arith in
        let first = replicate j p.byte in
        let second = replicate (p.len2 - (p.done + j)) p.byte in
        let l : length first ≡ j = length-replicate j p.byte in
        let l' : length second ≡ p.len2 - (p.done + j) = length-replicate (p.len2 - (p.done + j)) p.byte in
        rw (f1, f2, z1, z2, c)
        (ap (λ xs. written_run xs (plus p.addr2 p.done) (replicate (j + (p.len2 - (p.done + j))) p.byte)) (empty_source m (plus p.addr1 (first_of translate p p)) (plus p.addr2 (first_of translate p p)))
        ∙ (ap (written_run m (plus p.addr2 p.done)) (sym (replicate-append-replicate j (p.len2 - (p.done + j)) p.byte))
        ∙ (run-append m (plus p.addr2 p.done) first second (omega arith)
        ∙ (ap (λ a. written_run (written_run m a second) (plus p.addr2 p.done) first) (ap (plus (plus p.addr2 p.done)) l ∙ d)
        ∙ (sym (runs_commute m (plus p.addr2 p.done) first (plus p.addr2 (p.done + j)) second (omega arith) (omega arith) (λ i i' h h' e. absurd (omega (arith, l, l'))))
        ∙ ap (λ memory. written_run memory (plus p.addr2 (p.done + j)) second) (sym (empty_source (written_run m (plus p.addr2 p.done) first) (plus p.addr1 (first_of translate p (later j))) (plus p.addr2 (first_of translate p (later j))))))))))
      where
        empty_source : (memory : List Area) (from to : ℕ) → written_run memory to (source translate p memory from 0) ≡ memory
        empty_source memory from to = ap (written_run memory to) (ap (shaped translate p memory) (no_bytes (byte_at memory) from) ∙ nothing_moved translate (bytes_from (byte_at memory) p.table 256)) ∙ nothing_written memory to

    none_on : (j : ℕ) (memory : List Area) → p.done + j ≡ p.len2 → end_of translate p (later j) memory ≡ memory
    none_on j memory all =
        let f : max (p.done + j) n ≡ p.len2 = omega arith in
        let z : n - (p.done + j) ≡ 0 = omega arith in
        let e : p.len2 - p.len2 ≡ 0 = omega arith in
        rw (f, z, e) (nothing_written _ _ ∙ (ap (written_run memory (plus p.addr2 (first_of translate p (later j)))) (ap (shaped translate p memory) (no_bytes (byte_at memory) _) ∙ nothing_moved translate (bytes_from (byte_at memory) p.table 256)) ∙ nothing_written memory _))

tables : (translate : Bool) (p : Progress) (s : State) (m : List Area) (raw : List ℕ) (k : List ℕ → State → Accesses Leaf) → (translate ≡ true → p.table < 2 ^ 32) → (translate ≡ true → violation m p.table 256 (mode s) Read ≡ None) → outcome_of (table_applied translate p raw s k) m ≡ outcome_of (k (shaped translate p m raw) s) m
unfolding table_applied
tables true p s m raw k small free = span_is p.table 256 s m _ (small refl) (λ i h. allowed_at m p.table 256 i (mode s) Read (small refl) h (free refl))
tables false p s m raw k small free = refl

pub unused_alike : (p : Progress) (j : ℕ) (layout : Layout) (b : Bool) → layout ≡ (if b then Translates else Moves) → AreUnusedZero layout p → AreUnusedZero layout (record p { done = p.done + j })
unused_alike p j Moves b is u = u
unused_alike p j Compares b is u = u
unused_alike p j Translates b is u = u
unused_alike p j Searches true is u = absurd (cc)
unused_alike p j Searches false is u = absurd (cc)
unused_alike p j Scans true is u = absurd (cc)
unused_alike p j Scans false is u = absurd (cc)

pub some_up : (addr page : ℕ) → 0 < room_up addr page
unfolding room_up
some_up addr page = by_page (page == addr / 512 + 1)
  where
    by_page : (b : Bool) → 0 < (if b then 512 else 512 - addr % 512)
    by_page true = omega arith
    by_page false = omega arith

some_down : (addr page : ℕ) → 0 < room_down addr page
unfolding room_down
some_down addr page = by_page (addr / 512 == page + 1)
  where
    by_page : (b : Bool) → 0 < (if b then 512 else addr % 512 + 1)
    by_page true = omega arith
    by_page false = omega arith

some_run : (p : Progress) (a b : ℕ) → 0 < run_room p a b
unfolding run_room
some_run p a b = by_way (is_backward p)
  where
    by_way : (back : Bool) → 0 < (if back then min (room_down a (b / 512)) (room_down b (a / 512)) else min (room_up a (b / 512)) (room_up b (a / 512)))
    by_way true = let h = some_down a (b / 512) in let k = some_down b (a / 512) in omega arith
    by_way false = let h = some_up a (b / 512) in let k = some_up b (a / 512) in omega arith

-- MOVC3, MOVC5, MOVTC
module _ (translate : Bool) (p : Progress) (s : State) (m : List Area) (next : Flow → State → Accesses Leaf) (behind : IsBehind next) (ready : IsReady s) (proper : IsProper p) (is : IsMove translate p) (checked : IsChecked translate p s m) (few : p.done ≤ p.len2) where
  abbrev count : ℕ
  count = moved_count p

  abbrev rest : State → Accesses Leaf
  rest t = from_registers p.op (move_rest translate) t next

  abbrev whole : Outcome Leaf
  whole = outcome_of (move_rest translate p s next) m

  abbrev on : ℕ → Progress
  on j = record p { done = p.done + j }

  done : (memory : List Area) → LeavesNoPart (outcome_of (moved translate p s next) memory)
  unfolding moved completed
  done memory = behind.done _ memory

  moved_over : (j : ℕ) (xs : List ℕ) (memory : List Area) → outcome_of (moved translate (on j) (with_low xs s) next) memory ≡ outcome_of (moved translate p s next) memory
  unfolding moved completed
  moved_over j xs memory = ap (λ t. outcome_of (next flow.Done t) memory) (conditions_low s xs (moved_low translate p) _ ready.full)

  pub later_move : (j : ℕ) → IsMove translate (on j)
  later_move j = record { layout = is.layout; addr1 = is.addr1; addr2 = is.addr2; table = is.table; delta = is.delta }

  later_checked : (j a : ℕ) (xs ys : List ℕ) → IsChecked translate (on j) (with_low ys s) (written_run m a xs)
  later_checked j a xs ys = record {
    source = still_allowed m a xs p.addr1 count (mode (with_low ys s)) Read ∙ (ap (λ k. violation m p.addr1 count k Read) (mode_low s ys) ∙ checked.source);
    table = λ e. still_allowed m a xs p.table 256 (mode (with_low ys s)) Read ∙ (ap (λ k. violation m p.table 256 k Read) (mode_low s ys) ∙ checked.table e);
    apart = checked.apart;
    destination = still_allowed m a xs p.addr2 p.len2 (mode (with_low ys s)) Write ∙ (ap (λ k. violation m p.addr2 p.len2 k Write) (mode_low s ys) ∙ checked.destination);
  }

  goes_on : (j a : ℕ) (xs : List ℕ) → p.done + j ≤ p.len2 → end_of translate p p m ≡ end_of translate p (on j) (written_run m a xs) → whole ≡ outcome_of (rest (suspended (on j) s)) (written_run m a xs)
  goes_on j a xs within same =
      let q = on j in
      let m' = written_run m a xs in
      let fits : IsProper q = record { len1 = proper.len1; byte = proper.byte; len2 = proper.len2; unused = unused_alike p j (layout_of p.op) translate is.layout proper.unused } in
      let low = packed q (low_registers s) in
      rest_is translate p s m next is checked few
      ∙ (ap (outcome_of (moved translate p s next)) same
      ∙ (sym (moved_over j low (end_of translate q q m'))
      ∙ (sym (rest_is translate q (with_low low s) m' next (later_move j) (later_checked j a xs low) within)
      ∙ (ap (λ t. outcome_of (move_rest translate q t next) m') (sym (continued_suspended q s ready is.delta))
      ∙ ap (λ r. outcome_of (move_rest translate r (continued r.delta (suspended q s)) next) m') (sym (unpacked_suspended q s ready.full fits))))))

  ends_so : (j a : ℕ) (xs : List ℕ) → p.done + j ≤ p.len2 → end_of translate p p m ≡ end_of translate p (on j) (written_run m a xs) → whole ≡ and_rest rest (outcome_of (move_end translate p j s next) (written_run m a xs))
  unfolding move_end
  ends_so j a xs within same =
      let m' = written_run m a xs in
      last s next m' rest (p.done + j == p.len2) (moved translate p s next) (leaves (on j) j s next) whole
      (λ all. rest_is translate p s m next is checked few ∙ (ap (outcome_of (moved translate p s next)) (same ∙ none_on translate p m proper is s checked j m' (eqb-true _ _ all)) ∙ sym (rest_of_whole rest _ (done m'))))
      (λ some. goes_on j a xs within same ∙ sym (left_so s next m' rest behind (on j) j))

  lowest_within : (j : ℕ) → p.done + j ≤ count → lowest p j + j ≤ count
  unfolding lowest
  lowest_within j h = by_way (is_backward p)
    where
      by_way : (b : Bool) → (if b then count - (p.done + j) else p.done) + j ≤ count
      by_way true = omega arith
      by_way false = omega arith

  part_moves : (j : ℕ) → 0 < j → j ≤ 512 → p.done + j ≤ count → outcome_of (move_run translate p j s next) m ≡ outcome_of (move_end translate p j s next) (moved_on translate p m proper is s checked j)
  unfolding move_run
  part_moves j some most within =
      let low = lowest p j in
      let lw = lowest_within j within in
      let a1 = is.addr1 in
      let a2 = is.addr2 in
      let raw = bytes_from (byte_at m) (plus p.addr1 low) j in
      let ys = source translate p m (plus p.addr1 low) j in
      let len = source_length translate p m (plus p.addr1 low) j in
      span_is (plus p.addr1 low) j s m _ (omega arith) (λ i h. let e : plus (plus p.addr1 low) i ≡ plus p.addr1 (low + i) = omega arith in ap (λ a. may_access m (page_of a) (mode s) Read) e ∙ allowed_at m p.addr1 count (low + i) (mode s) Read a1 (omega arith) checked.source)
      ∙ (by_translate translate refl raw
      ∙ span_written s _ (plus p.addr2 low) ys m (omega arith) (omega arith) (omega arith)
      (ap (λ k. violation m (plus p.addr2 low) k (mode s) Write) len ∙ allowed_part m p.addr2 p.len2 low j (mode s) Write a2 (omega arith) checked.destination))
    where
      by_translate : (b : Bool) → translate ≡ b → (raw : List ℕ) → outcome_of (table_applied translate p raw s (λ bytes t. write_span (plus p.addr2 (lowest p j)) bytes t (λ t. move_end translate p j t next))) m ≡ outcome_of (write_span (plus p.addr2 (lowest p j)) (shaped translate p m raw) s (λ t. move_end translate p j t next)) m
      by_translate b is_b raw = tables translate p s m raw _ (λ yes'. is.table) (λ yes'. checked.table (table_due translate count yes' (omega arith)))

  room : p.done < count → (0 < move_room p) × (move_room p ≤ 512) × (p.done + move_room p ≤ count)
  unfolding move_room
  room h = let r = some_run p (plus p.addr1 (lowest p 1)) (plus p.addr2 (lowest p 1)) in (omega arith, omega arith, omega arith)

  fill : p.done < p.len2 → (0 < fill_room p) × (fill_room p ≤ 512) × (p.done + fill_room p ≤ p.len2)
  unfolding fill_room
  fill h = (omega arith, omega arith, omega arith)

  part_fills : (j : ℕ) → 0 < j → j ≤ 512 → p.done + j ≤ p.len2 → outcome_of (fill_run translate p j s next) m ≡ outcome_of (move_end translate p j s next) (filled_on translate p m proper is s checked j)
  unfolding fill_run filled_on
  part_fills j some most within =
      run_written s _ (plus p.addr2 p.done) (replicate j p.byte) m (ap (λ k. violation m (plus p.addr2 p.done) k (mode s) Write) (length-replicate j p.byte) ∙ allowed_part m p.addr2 p.len2 p.done j (mode s) Write is.addr2 within checked.destination)

  pub move_agrees : whole ≡ and_rest rest (outcome_of (move_part translate p s next) m)
  unfolding move_part filled_on
  move_agrees = elim (cases_eq p.done p.len2) [
    | inl all ↦
        let same : on 0 ≡ p = on_none in
        let zero_on : p.done + 0 ≡ p.len2 = omega arith in
        rw (eq-eqb p.done p.len2 all) (rest_is translate p s m next is checked few ∙ (ap (outcome_of (moved translate p s next)) (ap (λ q. end_of translate p q m) (sym same) ∙ none_on translate p m proper is s checked 0 m zero_on) ∙ sym (rest_of_whole rest _ (done m))))
    | inr part ↦ rw (ne_eqb p.done p.len2 part) (elim (cases_lt p.done count) [
      | inl less ↦
          let t : nat_lt p.done count ≡ true = grind (arith, nat_tests) in
          let r = room less in
          rw t (ends_so (move_room p) _ _ (omega arith) (moves_on translate p m proper is s checked (move_room p) less r.2) ∙ ap (and_rest rest) (sym (part_moves (move_room p) r.0 r.1 r.2)))
      | inr more_done ↦
          let f : nat_lt p.done count ≡ false = grind (arith, nat_tests) in
          let r = fill (omega arith) in
          rw f (ends_so (fill_room p) (plus p.addr2 p.done) (replicate (fill_room p) p.byte) r.2 (fills_on translate p m proper is s checked (fill_room p) more_done r.2) ∙ ap (and_rest rest) (sym (part_fills (fill_room p) r.0 r.1 r.2)))
    ])
  ]
    where
      on_none : on 0 ≡ p
      on_none = let e : p.done + 0 ≡ p.done = omega arith in rw e refl

  -- how a part goes: it completes the move, or writes a run and then does the end of so many units
  pub data PartOf : Type 0 where
    AllDone : outcome_of (move_part translate p s next) m ≡ outcome_of (moved translate p s next) m → PartOf
    Wrote : (j a : ℕ) (xs : List ℕ) → 0 < j → p.done + j ≤ p.len2 → outcome_of (move_part translate p s next) m ≡ outcome_of (move_end translate p j s next) (written_run m a xs) → PartOf

  pub part_goes : PartOf
  unfolding move_part filled_on
  part_goes = elim (cases_eq p.done p.len2) [
    | inl all ↦ AllDone (rw (eq-eqb p.done p.len2 all) refl)
    | inr part ↦ elim (cases_lt p.done count) [
      | inl less ↦
          let t : nat_lt p.done count ≡ true = grind (arith, nat_tests) in
          let r = room less in
          Wrote (move_room p) (plus p.addr2 (lowest p (move_room p))) (source translate p m (plus p.addr1 (lowest p (move_room p))) (move_room p)) r.0 (omega arith) (rw (ne_eqb p.done p.len2 part, t) (part_moves (move_room p) r.0 r.1 r.2))
      | inr more_done ↦
          let f : nat_lt p.done count ≡ false = grind (arith, nat_tests) in
          let r = fill (omega arith) in
          Wrote (fill_room p) (plus p.addr2 p.done) (replicate (fill_room p) p.byte) r.0 r.2 (rw (ne_eqb p.done p.len2 part, f) (part_fills (fill_room p) r.0 r.1 r.2))
    ]
  ]

  -- what was checked stays so
  pub checked_on : (j a : ℕ) (xs : List ℕ) → IsChecked translate (on j) s (written_run m a xs)
  checked_on j a xs = record {
    source = still_allowed m a xs p.addr1 count (mode s) Read ∙ checked.source;
    table = λ e. still_allowed m a xs p.table 256 (mode s) Read ∙ checked.table e;
    apart = checked.apart;
    destination = still_allowed m a xs p.addr2 p.len2 (mode s) Write ∙ checked.destination;
  }
