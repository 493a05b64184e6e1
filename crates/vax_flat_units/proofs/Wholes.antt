-- A whole instruction that is completed touches a byte, or two, for each of its units.
use Rattle.std.proofs.Common.{◌≡◌, ℕ, suc, zero, ◌+◌, ◌-◌, ◌*◌, min, Bool, true, false, ◌==◌, if◌then◌else◌, Option, Some, None, List, ◌∷◌, refl, sym, ap, subst, ◌∙◌, inl, inr, arith}
use Rattle.std.proofs.lemmas.Bool.{cases_eq, eq-eqb, ne_eqb}
use Rattle.vax_word.specs.declared.Codes.{Codes}
use Rattle.vax_space.specs.declared.Access.TheVariants.{Read}
use Rattle.vax_space.specs.declared.Area.{Area}
use Rattle.vax_space.specs.declared.Violation.{Violation}
use Rattle.vax_space.specs.Reference.{violation}
use Rattle.vax_strpart.specs.declared.packing.Progress.{Progress}
use Rattle.vax_flat.specs.declared.Rest.{Rest}
use Rattle.vax_flat.specs.declared.Flow.TheVariants as flow
use Rattle.vax_flat.specs.Memory.{after, byte_at, bytes_from, number}
use Rattle.vax_flat.specs.State.{State, mode}
use Rattle.vax_flat.specs.Accesses.{Accesses, Leaf, Went}
use Rattle.vax_flat.specs.Outcome.{Ends, outcome_of, touches_of, unless_violated, unless_stopped}
use Rattle.vax_flat.specs.Operand.{plus, read_at}
use Rattle.vax_flat.specs.Step.{leaf}
use Rattle.vax_flat.specs.String.{completed}
use Rattle.vax_flat.specs.StringSearch.{located, scanned, is_sought, is_masked, by_byte, by_entry, sought, whole_search, whole_scan}
use Rattle.vax_flat.specs.StringCompare.{behind, byte_or, compare, differs, equals, first_of, second_of, pairs_of, whole_compare}
use Rattle.vax_flat.specs.StringMatch.{agreeing, at_next_place, match, matched, unmatched, places_of, whole_match}
use Rattle.vax_flat.proofs.StringSearch.{number_one}
use Rattle.vax_flat_units.specs.Units.{byte_of, is_marked, to_first, search_units, scan_units, pair_units, compare_units, place_units, stands_at, places_units, match_units}
use Rattle.vax_flat_units.specs.Wholes.{IfCompleted, bytes_read}

-- trees that read
module _ (s : State) (m : List Area) where
  abbrev Reads : ℕ → Accesses Leaf → Type 0
  Reads n tree = IfCompleted tree m (λ t ranges. bytes_read ranges ≡ n)

  nothing_read : (values : List ℕ) (codes : Codes) → Reads 0 (completed values codes s leaf)
  unfolding completed outcome_of touches_of bytes_read
  nothing_read values codes t o e = refl

  byte_read : (addr n : ℕ) (next : ℕ → State → Accesses Leaf) → Reads n (next (number (byte_at m) addr 1) s) → Reads (suc n) (read_at addr 1 s next)
  unfolding read_at outcome_of touches_of bytes_read
  byte_read addr n next r = by (violation m addr 1 (mode s) Read)
    where
      by : (v : Option Violation) → (t : State) (o : List Area) → unless_violated v (outcome_of (next (number (byte_at m) addr 1) s) m) ≡ Ends (Went flow.Done t) o → bytes_read (unless_stopped v (record { addr = addr; len = 1; writes = false } ∷ touches_of (next (number (byte_at m) addr 1) s) m)) ≡ suc n
      by (Some v) t o e = absurd (cc)
      by None t o e = let h = r t o e in omega arith

  -- by a test
  by_test : (b c : Bool) (n k : ℕ) (x y : Accesses Leaf) → b ≡ c → Reads n x → Reads k y → Reads (if c then n else k) (if b then x else y)
  by_test b true n k x y e f g = rw e f
  by_test b false n k x y e f g = rw e g

  -- LOCC, SKPC
  one_or : (b : Bool) (x : ℕ) → suc (if b then 0 else x) ≡ (if b then 1 else suc x)
  one_or true x = refl
  one_or false x = refl

  located_reads : (left addr : ℕ) → Reads 0 (located left addr s leaf)
  unfolding located
  located_reads left addr = nothing_read _ _

  sought_reads : (equal : Bool) (character left addr : ℕ) → Reads (to_first (is_sought equal character) (bytes_from (byte_at m) addr left)) (sought (by_byte equal character) located left addr s leaf)
  unfolding sought by_byte to_first bytes_from
  sought_reads equal character zero addr = located_reads 0 addr
  sought_reads equal character (suc left) addr =
      let x = byte_at m addr in
      let rest = to_first (is_sought equal character) (bytes_from (byte_at m) (after addr) left) in
      subst (λ n. Reads n (sought (by_byte equal character) located (suc left) addr s leaf)) (one_or (is_sought equal character x) rest)
      (byte_read addr _ _ (by_test _ (is_sought equal character x) 0 rest _ _ (ap (is_sought equal character) (number_one (byte_at m) addr)) (located_reads (suc left) addr) (sought_reads equal character left (after addr))))

  -- SCANC, SPANC
  two_or : (b : Bool) (x : ℕ) → suc (suc (if b then 0 else 2 * x)) ≡ 2 * (if b then 1 else suc x)
  two_or true x = refl
  two_or false x = omega arith

  scanned_reads : (table left addr : ℕ) → Reads 0 (scanned table left addr s leaf)
  unfolding scanned
  scanned_reads table left addr = nothing_read _ _

  scan_reads : (some : Bool) (p : Progress) (left addr : ℕ) → Reads (2 * to_first (is_marked some p m) (bytes_from (byte_at m) addr left)) (sought (by_entry some p.byte p.table) (scanned p.table) left addr s leaf)
  unfolding sought by_entry to_first bytes_from
  scan_reads some p zero addr = scanned_reads p.table 0 addr
  scan_reads some p (suc left) addr =
      let x = byte_at m addr in
      let rest = to_first (is_marked some p m) (bytes_from (byte_at m) (after addr) left) in
      let same : is_masked some p.byte (number (byte_at m) (plus p.table (number (byte_at m) addr 1)) 1) ≡ is_marked some p m x =
      ap (is_masked some p.byte) (number_one (byte_at m) (plus p.table (number (byte_at m) addr 1)) ∙ ap (λ y. byte_at m (plus p.table y)) (number_one (byte_at m) addr)) in
      subst (λ n. Reads n (sought (by_entry some p.byte p.table) (scanned p.table) (suc left) addr s leaf)) (two_or (is_marked some p m x) rest)
      (byte_read addr _ _ (byte_read (plus p.table (number (byte_at m) addr 1)) _ _ (by_test _ (is_marked some p m x) 0 (2 * rest) _ _ same (scanned_reads p.table (suc left) addr) (scan_reads some p left (after addr)))))

  -- CMPC3, CMPC5
  equals_reads : (a b : Rest) → Reads 0 (equals a b s leaf)
  unfolding equals
  equals_reads a b = nothing_read _ _

  differs_reads : (a b : Rest) (x y : ℕ) → Reads 0 (differs a b x y s leaf)
  unfolding differs
  differs_reads a b x y = nothing_read _ _

  -- a byte of what is left of a string is read, unless it is exhausted
  or_reads : (fill : ℕ) (r : Rest) (n : ℕ) (next : ℕ → State → Accesses Leaf) → Reads n (next (byte_of (byte_at m) fill r) s) → Reads (min 1 r.len + n) (byte_or fill r s next)
  unfolding byte_or
  or_reads fill r n next g = elim (cases_eq r.len 0) [
    | inl e ↦
        let none : (r.len == 0) ≡ true = eq-eqb r.len 0 e in
        let z : n ≡ min 1 r.len + n = omega arith in
        let here = rw none at g in
        rw none (subst (λ k. Reads k (next fill s)) z here)
    | inr some ↦
        let any : (r.len == 0) ≡ false = ne_eqb r.len 0 some in
        let z : suc n ≡ min 1 r.len + n = omega arith in
        let here = rw (any, sym (number_one (byte_at m) r.addr)) at g in
        rw any (subst (λ k. Reads k (read_at r.addr 1 s next)) z (byte_read r.addr n next here))
  ]

  each_or : (b : Bool) (rest x y : ℕ) → min 1 x + (min 1 y + (if b then min rest (x - 1) + min rest (y - 1) else 0)) ≡ min (if b then suc rest else 1) x + min (if b then suc rest else 1) y
  each_or true rest x y = omega arith
  each_or false rest x y = omega arith

  compare_reads : (fill pairs : ℕ) (a b : Rest) → Reads (min (pair_units (byte_at m) fill pairs a b) a.len + min (pair_units (byte_at m) fill pairs a b) b.len) (compare fill pairs a b s leaf)
  unfolding compare pair_units
  compare_reads fill zero a b = let z : 0 ≡ min 0 a.len + min 0 b.len = omega arith in subst (λ n. Reads n (equals a b s leaf)) z (equals_reads a b)
  compare_reads fill (suc pairs) a b =
      let rest = pair_units (byte_at m) fill pairs (behind 1 a) (behind 1 b) in
      let test = byte_of (byte_at m) fill a == byte_of (byte_at m) fill b in
      subst (λ n. Reads n (compare fill (suc pairs) a b s leaf)) (each_or test rest a.len b.len)
      (or_reads fill a _ _ (or_reads fill b _ _ (by_test test test (min rest (a.len - 1) + min rest (b.len - 1)) 0 _ _ refl (compare_reads fill pairs (behind 1 a) (behind 1 b)) (differs_reads a b _ _))))

  -- MATCHC
  matched_reads : (p : Progress) → Reads 0 (matched p s leaf)
  unfolding matched
  matched_reads p = nothing_read _ _

  unmatched_reads : (p : Progress) → Reads 0 (unmatched p s leaf)
  unfolding unmatched
  unmatched_reads p = nothing_read _ _

  agreeing_reads : (count a b n : ℕ) (k : Bool → State → Accesses Leaf) → Reads n (k (stands_at (byte_at m) count a b) s) → Reads (2 * place_units (byte_at m) count a b + n) (agreeing count a b s k)
  unfolding agreeing place_units stands_at
  agreeing_reads zero a b n k r = let z : 2 * 0 + n ≡ n = omega arith in subst (λ x. Reads x (k true s)) (sym z) r
  agreeing_reads (suc count) a b n k r = by (byte_at m a == byte_at m b) refl (λ g. agreeing_reads count (after a) (after b) n k g)
    where
      same : (number (byte_at m) a 1 == number (byte_at m) b 1) ≡ (byte_at m a == byte_at m b)
      same = rw (number_one (byte_at m) a, number_one (byte_at m) b) refl

      by : (c : Bool) → (byte_at m a == byte_at m b) ≡ c → (Reads n (k (stands_at (byte_at m) count (after a) (after b)) s) → Reads (2 * place_units (byte_at m) count (after a) (after b) + n) (agreeing count (after a) (after b) s k)) →
          Reads (2 * (if byte_at m a == byte_at m b then suc (place_units (byte_at m) count (after a) (after b)) else 1) + n) (agreeing (suc count) a b s k)
      by true is again =
          let rest = place_units (byte_at m) count (after a) (after b) in
          let e : suc (suc (2 * rest + n)) ≡ 2 * suc rest + n = omega arith in
          let here = rw is at r in
          rw is (subst (λ x. Reads x (agreeing (suc count) a b s k)) e (byte_read a _ _ (byte_read b _ _ (rw (same ∙ is) (again here)))))
      by false is again =
          let e : suc (suc n) ≡ 2 * 1 + n = omega arith in
          let here = rw is at r in
          rw is (subst (λ x. Reads x (agreeing (suc count) a b s k)) e (byte_read a _ _ (byte_read b _ _ (rw (same ∙ is) here))))

  two_at : (b : Bool) (n x : ℕ) → 2 * n + (if b then 0 else 2 * x) ≡ 2 * (n + (if b then 0 else x))
  two_at true n x = omega arith
  two_at false n x = omega arith

  match_reads : (places : ℕ) (p : Progress) → Reads (2 * places_units (byte_at m) places p) (match places p s leaf)
  unfolding match places_units
  match_reads zero p = unmatched_reads p
  match_reads (suc places) p =
      let n = place_units (byte_at m) (p.len1 - p.done) (plus p.addr1 p.done) (plus p.addr2 p.done) in
      let here = stands_at (byte_at m) (p.len1 - p.done) (plus p.addr1 p.done) (plus p.addr2 p.done) in
      let rest = places_units (byte_at m) places (at_next_place p) in
      subst (λ x. Reads x (match (suc places) p s leaf)) (two_at here n rest)
      (agreeing_reads (p.len1 - p.done) (plus p.addr1 p.done) (plus p.addr2 p.done) (if here then 0 else 2 * rest) _
      (by_test here here 0 (2 * rest) _ _ refl (matched_reads p) (match_reads places (at_next_place p))))

pub search_is : (equal : Bool) (p : Progress) (s : State) (m : List Area) → IfCompleted (whole_search equal p s leaf) m (λ t ranges. bytes_read ranges ≡ search_units equal p m)
unfolding search_units
search_is equal p s m = sought_reads s m equal p.byte p.len1 p.addr1

pub scan_is : (some : Bool) (p : Progress) (s : State) (m : List Area) → IfCompleted (whole_scan some p s leaf) m (λ t ranges. bytes_read ranges ≡ 2 * scan_units some p m)
unfolding scan_units
scan_is some p s m = scan_reads s m some p p.len1 p.addr1

pub compare_is : (p : Progress) (s : State) (m : List Area) → IfCompleted (whole_compare p s leaf) m (λ t ranges. bytes_read ranges ≡ min (compare_units p m) (p.len1 - p.done) + min (compare_units p m) (p.len2 - p.done))
unfolding compare_units
compare_is p s m = compare_reads s m p.byte (pairs_of p - p.done) (behind p.done (first_of p)) (behind p.done (second_of p))

pub match_is : (p : Progress) (s : State) (m : List Area) → IfCompleted (whole_match p s leaf) m (λ t ranges. bytes_read ranges ≡ 2 * match_units p m)
unfolding match_units
match_is p s m = match_reads s m (places_of p) p
