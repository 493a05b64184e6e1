-- A part of a comparison counts right.
use Rattle.std.proofs.Common.{◌≡◌, ℕ, suc, zero, ◌+◌, ◌-◌, ◌^◌, ◌<◌, ◌≤◌, min, Bool, true, false, not, if◌then◌else◌, ◌==◌, List, [], ◌++◌, length, replicate, refl, sym, ap, subst, ◌∙◌, arith}
use Rattle.std.specs.Prelude.{nat_le}
use Rattle.std.specs.List.{position_or_len, zip}
use Rattle.std.proofs.lemmas.Bool.{eqb-true}
use Rattle.std.proofs.lemmas.Bool.Decides.{nat_tests}
use Rattle.vax_space.specs.declared.Access.TheVariants.{Read}
use Rattle.vax_space.specs.declared.Area.{Area}
use Rattle.vax_strpart.specs.declared.packing.Progress.{Progress}
use Rattle.vax_strpart.specs.declared.packing.Layout.{Layout}
use Rattle.vax_strpart.specs.declared.packing.Layout.TheVariants.{Moves, Compares, Searches, Scans, Translates}
use Rattle.vax_strpart.specs.Packing.{layout_of, IsProper, AreUnusedZero}
use Rattle.vax_flat.specs.declared.Flow.{Flow}
use Rattle.vax_flat.specs.declared.Rest.{Rest}
use Rattle.vax_flat.specs.Memory.{byte_at, bytes_from}
use Rattle.vax_flat.specs.State.{State}
use Rattle.vax_flat.specs.Accesses.{Accesses, Leaf}
use Rattle.vax_flat.specs.Outcome.{outcome_of}
use Rattle.vax_flat.specs.Bound.{LeavesNoPart}
use Rattle.vax_flat.specs.String.{completed, room_up}
use Rattle.vax_flat.specs.StringAgree.{IsBehind}
use Rattle.vax_flat.specs.StringCompare.{behind, differs, equals, first_of, second_of, pairs_of, first_page, string_room, compare_room, filled_run, first_read, first_checked, compare_end, compare_run, compare_part}
use Rattle.vax_flat.proofs.StringMove.{some_up}
use Rattle.vax_flat.proofs.StringCompare.{behind_behind, behind_none, string_bytes, string_is}
use Rattle.vax_flat_units.specs.Units.{byte_of, pair_units, compare_units}
use Rattle.vax_flat_units.proofs.Counting.{Right, none_right, if_right, found_right, byte_right, check_right, span_right, left_right}

pub unused_compares : (layout : Layout) (p q : Progress) → layout ≡ Compares → q.table ≡ p.table → AreUnusedZero layout p → AreUnusedZero layout q
unused_compares Moves p q is same u = absurd (cc)
unused_compares Compares p q is same u = same ∙ u
unused_compares Searches p q is same u = absurd (cc)
unused_compares Scans p q is same u = absurd (cc)
unused_compares Translates p q is same u = absurd (cc)

pub done_proper : (p : Progress) (done : ℕ) → layout_of p.op ≡ Compares → IsProper p → IsProper (record p { done = done })
done_proper p done layout proper = record { len1 = proper.len1; byte = proper.byte; len2 = proper.len2; unused = unused_compares (layout_of p.op) p (record p { done = done }) layout refl proper.unused }

string_some : (r : Rest) (page : ℕ) → 0 < string_room r page
unfolding string_room
string_some r page = let u = some_up r.addr page in by (nat_le r.len (room_up r.addr page)) u
  where
    by : (b : Bool) → 0 < room_up r.addr page → 0 < (if b then 512 else room_up r.addr page)
    by true u = omega arith
    by false u = u

pub room : (p : Progress) → (pairs_of p - p.done == 0) ≡ false → (0 < compare_room p) × (compare_room p ≤ pairs_of p - p.done)
unfolding compare_room
room p e =
    let left : 0 < pairs_of p - p.done = grind (arith, nat_tests) in
    let a = string_some (behind p.done (first_of p)) (first_page (behind p.done (second_of p))) in
    let b = string_some (behind p.done (second_of p)) (first_page (behind p.done (first_of p))) in
    (omega arith, omega arith)

abbrev unlike : ℕ × ℕ → Bool
unlike q = not (q.0 == q.1)

-- pairs of which none differs
module _ (fill : ℕ) (m : List Area) (s : State) where
  abbrev pairs : ℕ → Rest → Rest → List (ℕ × ℕ)
  pairs count a b = zip (string_bytes fill m s count a) (string_bytes fill m s count b)

  abbrev left : ℕ → Rest → Rest → ℕ
  left count a b = pair_units (byte_at m) fill count a b

  passed_over : (count more : ℕ) (a b : Rest) → a.addr < 2 ^ 32 → b.addr < 2 ^ 32 → length (pairs count a b) ≤ position_or_len unlike (pairs count a b) → left (count + more) a b ≡ count + left more (behind count a) (behind count b)
  unfolding pair_units string_bytes
  passed_over zero more a b small1 small2 none = let z : 0 + more ≡ more = omega arith in rw (z, behind_none a small1, behind_none b small2) (omega arith)
  passed_over (suc count) more a b small1 small2 none =
      let z : suc count + more ≡ suc (count + more) = omega arith in
      let one : 1 + count ≡ suc count = omega arith in
      let e1 : behind count (behind 1 a) ≡ behind (suc count) a = behind_behind a 1 count ∙ ap (λ k. behind k a) one in
      let e2 : behind count (behind 1 b) ≡ behind (suc count) b = behind_behind b 1 count ∙ ap (λ k. behind k b) one in
      ap (λ k. left k a b) z ∙ by (byte_of (byte_at m) fill a == byte_of (byte_at m) fill b) refl
      (λ few. passed_over count more (behind 1 a) (behind 1 b) (omega arith) (omega arith) few ∙ ap (λ r. count + left more r (behind count (behind 1 b))) e1 ∙ ap (λ r. count + left more (behind (suc count) a) r) e2)
    where
      by : (t : Bool) → (byte_of (byte_at m) fill a == byte_of (byte_at m) fill b) ≡ t →
          (length (pairs count (behind 1 a) (behind 1 b)) ≤ position_or_len unlike (pairs count (behind 1 a) (behind 1 b)) → left (count + more) (behind 1 a) (behind 1 b) ≡ count + left more (behind (suc count) a) (behind (suc count) b)) →
          (if byte_of (byte_at m) fill a == byte_of (byte_at m) fill b then suc (left (count + more) (behind 1 a) (behind 1 b)) else 1) ≡ suc count + left more (behind (suc count) a) (behind (suc count) b)
      by true is again =
          let few = rw is at none in
          let rest = again (omega arith) in
          rw is (omega arith)
      by false is again = let few = rw is at none in absurd (omega arith)

some_or : (b : Bool) (n : ℕ) → 1 ≤ (if b then suc n else 1)
some_or true n = omega arith
some_or false n = omega arith

-- where there are pairs, one is compared
some_pairs : (byte : ℕ → ℕ) (fill pairs : ℕ) (a b : Rest) → 0 < pairs → 1 ≤ pair_units byte fill pairs a b
unfolding pair_units
some_pairs byte fill zero a b h = absurd (omega arith)
some_pairs byte fill (suc pairs) a b h = some_or (byte_of byte fill a == byte_of byte fill b) (pair_units byte fill pairs (behind 1 a) (behind 1 b))

-- CMPC3, CMPC5
module _ (p : Progress) (s : State) (m : List Area) (next : Flow → State → Accesses Leaf) (is_behind : IsBehind next) (full : length s.core.regs ≡ 16) (proper : IsProper p) (layout : layout_of p.op ≡ Compares) where
  abbrev a : Rest
  a = behind p.done (first_of p)

  abbrev b : Rest
  b = behind p.done (second_of p)

  abbrev total : ℕ
  total = compare_units p m

  abbrev Fine : Accesses Leaf → Type 0
  Fine tree = Right compare_units p.op total s tree m

  done_equal : (c d : Rest) → LeavesNoPart (outcome_of (equals c d s next) m)
  unfolding equals completed
  done_equal c d = is_behind.done _ m

  done_differ : (c d : Rest) (x y : ℕ) → LeavesNoPart (outcome_of (differs c d x y s next) m)
  unfolding differs completed
  done_differ c d x y = is_behind.done _ m

  read_right : (r : Rest) (k : State → Accesses Leaf) → Fine (k s) → Fine (first_read r s k)
  unfolding first_read
  read_right r k g = if_right compare_units p.op total s (r.len == 0) _ _ m (λ none. g) (λ some. byte_right compare_units p.op total s r.addr _ m g)

  checked_right : (r : Rest) (k : State → Accesses Leaf) → Fine (k s) → Fine (first_checked r s k)
  unfolding first_checked
  checked_right r k g = if_right compare_units p.op total s (r.len == 0) _ _ m (λ none. g) (λ some. check_right compare_units p.op total s r.addr 1 Read _ m g)

  no_bytes : (addr : ℕ) → bytes_from (byte_at m) addr 0 ≡ []
  unfolding bytes_from
  no_bytes addr = refl

  filled_right : (count : ℕ) (r : Rest) (k : List ℕ → State → Accesses Leaf) → r.addr < 2 ^ 32 → Fine (k (string_bytes p.byte m s count r) s) → Fine (filled_run p.byte count r s k)
  unfolding filled_run
  filled_right count r k small g =
      let bytes = string_is p.byte m s count r small in
      if_right compare_units p.op total s (r.len == 0) _ _ m
      (λ none.
      let e : r.len ≡ 0 = eqb-true _ _ none in
      let few : min count r.len ≡ 0 = omega arith in
      let all : count - 0 ≡ count = omega arith in
      let same : replicate count p.byte ≡ bytes_from (byte_at m) r.addr (min count r.len) ++ replicate (count - min count r.len) p.byte = rw (few, no_bytes r.addr, all) refl in
      subst (λ xs. Fine (k xs s)) (sym (same ∙ bytes)) g)
      (λ some. span_right compare_units p.op total s r.addr (min count r.len) _ m small (subst (λ xs. Fine (k xs s)) (sym bytes) g))

  fewer : (count : ℕ) → count ≤ pairs_of p - p.done → length (pairs p.byte m s count a b) ≤ position_or_len unlike (pairs p.byte m s count a b) → total ≡ count + compare_units (record p { done = p.done + count }) m
  unfolding compare_units
  fewer count few none =
      let e : pairs_of p - p.done ≡ count + (pairs_of p - (p.done + count)) = omega arith in
      ap (λ n. left p.byte m s n a b) e
      ∙ (passed_over p.byte m s count (pairs_of p - (p.done + count)) a b (omega arith) (omega arith) none
      ∙ rw (behind_behind (first_of p) p.done count, behind_behind (second_of p) p.done count) refl)

  some_left : (done : ℕ) → done < pairs_of p → 1 ≤ compare_units (record p { done = done }) m
  unfolding compare_units
  some_left done h = some_pairs (byte_at m) p.byte (pairs_of p - done) (behind done (first_of p)) (behind done (second_of p)) (omega arith)

  end_right : (count : ℕ) → 0 < count → count ≤ pairs_of p - p.done → Fine (compare_end p count a b (string_bytes p.byte m s count a) (string_bytes p.byte m s count b) s next)
  unfolding compare_end
  end_right count some few =
      found_right compare_units p.op total s unlike (pairs p.byte m s count a b) _ _ m (λ i. none_right compare_units p.op total s _ (done_differ _ _ _ _))
      (λ none. if_right compare_units p.op total s (count == pairs_of p - p.done) _ _ m (λ all. none_right compare_units p.op total s _ (done_equal _ _))
      (λ part. left_right compare_units p.op total s next is_behind full (record p { done = p.done + count }) count m refl (done_proper p (p.done + count) layout proper) some (some_left (p.done + count) (let less : count < pairs_of p - p.done = grind (arith, nat_tests) in omega arith)) (fewer count few none)))

  pub compare_right : Fine (compare_part p s next)
  unfolding compare_part compare_run
  compare_right =
      if_right compare_units p.op total s (pairs_of p - p.done == 0) _ _ m (λ all. none_right compare_units p.op total s _ (done_equal a b))
      (λ part.
      let r = room p part in
      read_right a _ (checked_right b _
      (filled_right (compare_room p) a _ (omega arith)
      (filled_right (compare_room p) b _ (omega arith) (end_right (compare_room p) r.0 r.1)))))
