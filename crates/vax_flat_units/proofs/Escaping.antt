-- A part of a move up to an escape counts right.
use Rattle.std.proofs.Common.{◌≡◌, ℕ, ◌+◌, ◌-◌, ◌/◌, ◌^◌, ◌<◌, ◌≤◌, ◌⊎◌, min, Bool, true, false, not, ◌&&◌, ◌||◌, ◌==◌, nat_lt, List, [], ◌∷◌, ◌++◌, length, slice_index, take, suc, zero, refl, sym, ap, subst, ◌∙◌, inl, inr, arith}
use Rattle.std.specs.Prelude.{nat_le}
use Rattle.std.specs.List.{position_or_len}
use Rattle.std.proofs.lemmas.Bool.{cases_lt, cases_eq}
use Rattle.std.proofs.lemmas.Bool.Decides.{nat_tests}
use Rattle.std.proofs.lemmas.List.{length-map}
use Rattle.std.proofs.lemmas.List.Sums.{prefix_len-le-length}
use Rattle.vax_space.specs.declared.Area.{Area}
use Rattle.vax_strpart.specs.declared.packing.Progress.{Progress}
use Rattle.vax_strpart.specs.declared.packing.Layout.TheVariants.{Translates}
use Rattle.vax_strpart.specs.Packing.{layout_of, IsProper}
use Rattle.vax_strpart.specs.Kernels.{translated, is_escape}
use Rattle.vax_flat.specs.declared.Flow.{Flow}
use Rattle.vax_flat.specs.Memory.{byte_at, bytes_from}
use Rattle.vax_flat.specs.State.{State}
use Rattle.vax_flat.specs.Accesses.{Accesses, Leaf}
use Rattle.vax_flat.specs.Outcome.{outcome_of}
use Rattle.vax_flat.specs.Operand.{plus}
use Rattle.vax_flat.specs.Bound.{LeavesNoPart}
use Rattle.vax_flat.specs.String.{completed, leaves}
use Rattle.vax_flat.specs.StringAgree.{IsBehind}
use Rattle.vax_flat.specs.StringMove.{distance, overlaps, moved_count, is_reserved}
use Rattle.vax_flat.specs.StringEscape.{is_escape_reserved, escaped, escape_room, source_room, written_some, escape_close, escape_end, escape_run, escape_part}
use Rattle.vax_flat.proofs.StringSearch.{length_run}
use Rattle.vax_flat.proofs.StringScan.{take_run}
use Rattle.vax_flat.proofs.StringCompare.{run_append}
use Rattle.vax_flat.proofs.StringMemory.{Apart}
use Rattle.vax_flat.proofs.StringMove.{some_up}
use Rattle.vax_flat_units.specs.Units.{to_first, escape_units}
use Rattle.vax_flat_units.proofs.Counting.{Kept, Right, none_right, if_right, span_right, span_written_right, left_right}
use Rattle.vax_flat_units.proofs.Searching.{passed_over, some_first}
use Rattle.vax_flat_units.proofs.Moving.{moved_proper}

-- what isn't reserved
parts_false : (a b : Bool) → (a || b) ≡ false → (a ≡ false) × (b ≡ false)
parts_false true b e = absurd (cc)
parts_false false b e = (refl, e)

strings_apart : (p : Progress) → 0 < moved_count p → (not (moved_count p == 0) && (not (p.addr1 == p.addr2) && overlaps p.addr2 (moved_count p) p.addr1 (moved_count p))) ≡ false → (p.addr1 ≡ p.addr2) ⊎ (moved_count p ≤ distance p.addr1 p.addr2)
strings_apart p some e = elim (cases_eq p.addr1 p.addr2) [
  | inl same ↦ inl same
  | inr other ↦ elim (cases_lt (distance p.addr1 p.addr2) (moved_count p)) [
    | inr g ↦ inr g
    | inl l ↦ absurd (grind (arith, nat_tests))
  ]
]

table_away : (p : Progress) → 0 < moved_count p → is_reserved true p ≡ false → (p.len2 ≤ distance p.addr2 p.table) × (256 ≤ distance p.table p.addr2)
table_away p some e = (grind (arith, nat_tests), grind (arith, nat_tests))

-- so many bytes come before the first that is found, and then before it among themselves
front_passes : (test : ℕ → Bool) (xs : List ℕ) (j : ℕ) → j ≤ position_or_len test xs → length (take j xs) ≤ position_or_len test (take j xs)
front_passes test xs zero few = omega arith
front_passes test [] (suc j) few = omega arith
front_passes test (x ∷ xs) (suc j) few = by (test x) refl (λ h. front_passes test xs j h)
  where
    by : (b : Bool) → test x ≡ b → (j ≤ position_or_len test xs → length (take j xs) ≤ position_or_len test (take j xs)) → length (take (suc j) (x ∷ xs)) ≤ position_or_len test (take (suc j) (x ∷ xs))
    by true is again = let h = rw is at few in absurd (omega arith)
    by false is again = let h = rw is at few in let rest = again (omega arith) in rw is (omega arith)

-- MOVTUC
module _ (p : Progress) (s : State) (m : List Area) (next : Flow → State → Accesses Leaf) (behind : IsBehind next) (full : length s.core.regs ≡ 16) (proper : IsProper p) (layout : layout_of p.op ≡ Translates) (a1 : p.addr1 < 2 ^ 32) (a2 : p.addr2 < 2 ^ 32) (at : p.table < 2 ^ 32) (fine : is_escape_reserved p ≡ false) (within : p.done ≤ moved_count p) where
  abbrev n : ℕ
  n = moved_count p

  abbrev total : ℕ
  total = escape_units p m

  abbrev Fine : Accesses Leaf → List Area → Type 0
  Fine tree o = Right escape_units p.op total s tree o

  abbrev table_in : List Area → List ℕ
  table_in o = bytes_from (byte_at o) p.table 256

  abbrev ahead_in : List Area → ℕ → ℕ → List ℕ
  ahead_in o done len = bytes_from (byte_at o) (plus p.addr1 done) len

  abbrev escapes : List Area → ℕ → Bool
  escapes o = is_escape (table_in o) p.byte

  abbrev apart : (is_reserved true p ≡ false) × ((not (n == 0) && (not (p.addr1 == p.addr2) && overlaps p.addr2 n p.addr1 n)) ≡ false)
  apart = parts_false (is_reserved true p) _ fine

  done : (count : ℕ) (b : Bool) (o : List Area) → LeavesNoPart (outcome_of (escaped p count b s next) o)
  unfolding escaped completed
  done count b o = behind.done _ o

  rooms : p.done < n → (0 < escape_room p) × (escape_room p ≤ source_room p) × (source_room p ≤ n - p.done)
  unfolding escape_room source_room
  rooms h =
      let a = some_up (plus p.addr1 p.done) (plus p.addr2 p.done / 512) in
      let b = some_up (plus p.addr2 p.done) (plus p.addr1 p.done / 512) in
      (omega arith, omega arith, omega arith)

  -- the table and what isn't moved yet stay as they were
  table_kept : (j : ℕ) (o : List Area) → 0 < n → p.done + j ≤ n → Kept m (plus p.addr2 p.done) j o → table_in o ≡ table_in m
  table_kept j o some few kept =
      let far = table_away p some apart.0 in
      let l2 = proper.len2 in
      kept p.table 256 at (λ i i' h k e. absurd (omega (arith, far.0, far.1)))

  ahead_kept : (j : ℕ) (o : List Area) → 0 < n → p.done + j ≤ n → Kept m (plus p.addr2 p.done) j o → ahead_in o (p.done + j) (n - (p.done + j)) ≡ ahead_in m (p.done + j) (n - (p.done + j))
  ahead_kept j o some few kept =
      kept (plus p.addr1 (p.done + j)) (n - (p.done + j)) (omega arith) (λ i i' h k e. never (strings_apart p some apart.1) i i' h k e)
    where
      never : (p.addr1 ≡ p.addr2) ⊎ (n ≤ distance p.addr1 p.addr2) → (i i' : ℕ) → i < j → i' < n - (p.done + j) → plus (plus p.addr2 p.done) i ≡ plus (plus p.addr1 (p.done + j)) i' → ⊥
      never (inl same) i i' h k e = let l2 = proper.len2 in omega arith
      never (inr far) i i' h k e = let l2 = proper.len2 in omega arith

  -- so many bytes are moved, of which none escapes
  fewer : (j : ℕ) (o : List Area) → 0 < n → p.done + j ≤ n → j ≤ position_or_len (escapes m) (ahead_in m p.done j) → Kept m (plus p.addr2 p.done) j o → total ≡ j + escape_units (record p { done = p.done + j }) o
  unfolding escape_units
  fewer j o some few none kept =
      let e : n - p.done ≡ j + (n - (p.done + j)) = omega arith in
      let b : plus (plus p.addr1 p.done) j ≡ plus p.addr1 (p.done + j) = omega arith in
      let len = length_run (byte_at m) (plus p.addr1 p.done) j in
      let rest = ahead_in m (p.done + j) (n - (p.done + j)) in
      let split : ahead_in m p.done (n - p.done) ≡ ahead_in m p.done j ++ rest = ap (ahead_in m p.done) e ∙ (sym (run_append (byte_at m) j (n - (p.done + j)) (plus p.addr1 p.done) (omega arith)) ∙ ap (λ a. ahead_in m p.done j ++ bytes_from (byte_at m) a (n - (p.done + j))) b) in
      ap (to_first (escapes m)) split
      ∙ (passed_over (escapes m) (escapes m) (ahead_in m p.done j) rest (λ i h. refl) (omega (arith, len))
      ∙ (ap (λ k. k + to_first (escapes m) rest) len
      ∙ (ap (λ xs. j + to_first (escapes m) xs) (sym (ahead_kept j o some few kept))
      ∙ ap (λ table. j + to_first (is_escape table p.byte) (ahead_in o (p.done + j) (n - (p.done + j)))) (sym (table_kept j o some few kept)))))

  some_left : (done : ℕ) (o : List Area) → done < n → 1 ≤ escape_units (record p { done = done }) o
  unfolding escape_units
  some_left done o h = some_first (escapes o) (byte_at o) (plus p.addr1 done) (n - done) (omega arith)

  -- so many bytes are written, if any are
  some_written : (addr j : ℕ) (bytes : List ℕ) (k : State → Accesses Leaf) → length bytes ≡ j → addr < 2 ^ 32 → ((o : List Area) → Kept m addr j o → Fine (k s) o) → Fine (written_some addr bytes s k) m
  unfolding written_some
  some_written addr j bytes k len small g =
      if_right escape_units p.op total s (length bytes == 0) _ _ m (λ none. g m (λ b c below away. refl))
      (λ any. span_written_right escape_units p.op total s addr bytes k m small (λ o kept. g o (λ b c below away. kept b c below (subst (λ l. Apart addr l b c) (sym len) away))))

  close_right : (count room len : ℕ) (o : List Area) → 0 < room → room ≤ len → count ≤ len → (0 < min count room → (p.done + min count room == n) ≡ false → Right escape_units p.op total s (leaves (record p { done = p.done + min count room }) (min count room) s next) o) → Fine (escape_close p count room len s next) o
  close_right count room len o some most few g =
      if_right escape_units p.op total s (nat_le count room && nat_lt count len) _ _ o (λ found. none_right escape_units p.op total s _ (done _ true o))
      (λ none. if_right escape_units p.op total s (p.done + min count room == n) _ _ o (λ all. none_right escape_units p.op total s _ (done n false o))
      (λ part. g (any none) part))
    where
      any : (nat_le count room && nat_lt count len) ≡ false → 0 < min count room
      any none = elim (cases_lt room count) [
        | inl beyond ↦ omega arith
        | inr inside ↦ elim (cases_lt count len) [
          | inl less ↦
              let t : nat_le count room ≡ true = grind (arith, nat_tests) in
              let u : nat_lt count len ≡ true = grind (arith, nat_tests) in
              let f = rw (t, u) at none in absurd (cc)
          | inr all ↦ omega arith
        ]
      ]

  end_right : p.done < n → Fine (escape_end p (escape_room p) (ahead_in m p.done (source_room p)) (table_in m) s next) m
  unfolding escape_end
  end_right left =
      let r = rooms left in
      let here = ahead_in m p.done (source_room p) in
      let len = length_run (byte_at m) (plus p.addr1 p.done) (source_room p) in
      let count = position_or_len (escapes m) here in
      let most = prefix_len-le-length (λ x. not (escapes m x)) here in
      let j = min count (escape_room p) in
      let few : j ≤ source_room p = omega arith in
      let taken : take j here ≡ ahead_in m p.done j = take_run (byte_at m) (plus p.addr1 p.done) j (source_room p) few in
      let size : length (translated (table_in m) (take j here)) ≡ j = length-map (take j here) _ ∙ (ap length taken ∙ length_run (byte_at m) (plus p.addr1 p.done) j) in
      let passes = front_passes (escapes m) here j (omega arith) in
      let own : length (ahead_in m p.done j) ≤ position_or_len (escapes m) (ahead_in m p.done j) = rw taken at passes in
      let own_len = length_run (byte_at m) (plus p.addr1 p.done) j in
      some_written (plus p.addr2 p.done) j _ _ size (omega arith) (λ o kept.
      close_right count (escape_room p) (length here) o r.0 (omega (arith, len, r.1)) most (λ some part.
      let less : p.done + j < n = grind (arith, nat_tests) in
      left_right escape_units p.op total s next behind full (record p { done = p.done + j }) j o refl (moved_proper true p j layout proper) some (some_left (p.done + j) o less)
      (fewer j o (omega arith) (omega arith) (omega (arith, own, own_len)) kept)))

  pub escape_right : Fine (escape_part p s next) m
  unfolding escape_part escape_run
  escape_right =
      if_right escape_units p.op total s (p.done == n) _ _ m (λ all. none_right escape_units p.op total s _ (done n false m))
      (λ part.
      let left : p.done < n = grind (arith, nat_tests) in
      span_right escape_units p.op total s _ 1 _ m (omega arith)
      (span_right escape_units p.op total s p.table 256 _ m at
      (if_right escape_units p.op total s (is_escape (table_in m) p.byte (slice_index (ahead_in m p.done 1) 0)) _ _ m (λ stop. none_right escape_units p.op total s _ (done p.done true m))
      (λ on. span_right escape_units p.op total s _ (source_room p) _ m (omega arith) (end_right left)))))
