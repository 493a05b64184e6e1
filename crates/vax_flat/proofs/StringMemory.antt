-- Runs that are written one after another.
use Rattle.std.proofs.Common.{ℕ, zero, suc, ◌≡◌, ◌≢◌, ◌+◌, ◌-◌, ◌*◌, ◌/◌, ◌^◌, ◌<◌, ◌≤◌, ◌⊎◌, min, true, false, None, List, [], ◌∷◌, ◌++◌, length, take, drop, slice_set, refl, sym, ap, ◌∙◌, inl, inr, arith, length-take, length-drop, leb, ltb}
use Rattle.std.specs.Prelude.{nat_le}
use Rattle.std.proofs.lemmas.Bool.{cases_Bool, cases_lt, and_parts, leb-true}
use Rattle.std.proofs.lemmas.Bool.Decides.{nat_tests}
use Rattle.std.proofs.lemmas.List.{get_or-set_other, take-append-drop}
use Rattle.vax_space.specs.declared.Access.{Access}
use Rattle.vax_space.specs.declared.Access.TheVariants.{Write}
use Rattle.vax_space.specs.declared.Area.{Area}
use Rattle.vax_space.specs.Areas.{has_page}
use Rattle.vax_space.specs.Reference.{page_of, may_access, violation}
use Rattle.vax_flat.specs.Memory.{after, byte_at, bytes_from, with_byte, written_run}
use Rattle.vax_flat.specs.State.{State, mode}
use Rattle.vax_flat.specs.Accesses.{Accesses, Leaf}
use Rattle.vax_flat.specs.Outcome.{outcome_of}
use Rattle.vax_flat.specs.Operand.{plus}
use Rattle.vax_flat.specs.String.{write_run_at, to_page_end}
use Rattle.vax_flat.specs.StringMove.{write_pieces, pieces_of, write_high_last, write_low_last, write_span}
use Rattle.vax_flat.proofs.Alike.{violation-alike}
use Rattle.vax_flat.proofs.Memory.{allowed_first, layout-written_run}

has_page-bytes : (area : Area) (bytes : List ℕ) (page : ℕ) → has_page (record area { bytes = bytes }) page ≡ has_page area page
unfolding has_page
has_page-bytes area bytes page = refl

begins : (area : Area) (addr : ℕ) → has_page area (page_of addr) ≡ true → 512 * area.first ≤ addr
unfolding has_page
begins area addr h =
    let p = and_parts (leb area.first (addr / 512)) (ltb (addr / 512) (area.first + area.pages)) h in
    let low : area.first ≤ addr / 512 = leb-true _ _ p.0 in
    omega arith

set_commute : (xs : List ℕ) (i j x y : ℕ) → i ≢ j → slice_set (slice_set xs i x) j y ≡ slice_set (slice_set xs j y) i x
set_commute [] i j x y n = refl
set_commute (z ∷ zs) zero zero x y n = absurd (n refl)
set_commute (z ∷ zs) zero (suc j) x y n = refl
set_commute (z ∷ zs) (suc i) zero x y n = refl
set_commute (z ∷ zs) (suc i) (suc j) x y n = ap (λ l. z ∷ l) (set_commute zs i j x y (λ e. n (ap suc e)))

set_again : (xs : List ℕ) (i x y : ℕ) → slice_set (slice_set xs i x) i y ≡ slice_set xs i y
set_again [] i x y = refl
set_again (z ∷ zs) zero x y = refl
set_again (z ∷ zs) (suc i) x y = ap (λ l. z ∷ l) (set_again zs i x y)

pub byte-commute : (areas : List Area) (a x b y : ℕ) → a ≢ b → with_byte (with_byte areas a x) b y ≡ with_byte (with_byte areas b y) a x
unfolding with_byte
byte-commute [] a x b y n = refl
byte-commute (area ∷ areas) a x b y n =
    elim (cases_Bool (has_page area (page_of a))) [
      | inl at ↦ elim (cases_Bool (has_page area (page_of b))) [
        | inl bt ↦
            let la = begins area a at in
            let lb = begins area b bt in
            rw (at, bt, has_page-bytes area (slice_set area.bytes (a - 512 * area.first) x) (page_of b), has_page-bytes area (slice_set area.bytes (b - 512 * area.first) y) (page_of a), at, bt)
            (ap (λ bytes. record area { bytes = bytes } ∷ areas) (set_commute area.bytes (a - 512 * area.first) (b - 512 * area.first) x y (λ e. n (omega arith))))
        | inr bf ↦ rw (at, bf, has_page-bytes area (slice_set area.bytes (a - 512 * area.first) x) (page_of b), at, bf) refl
      ]
      | inr af ↦ elim (cases_Bool (has_page area (page_of b))) [
        | inl bt ↦ rw (af, bt, has_page-bytes area (slice_set area.bytes (b - 512 * area.first) y) (page_of a), af) refl
        | inr bf ↦ rw (af, bf, af) (ap (λ l. area ∷ l) (byte-commute areas a x b y n))
      ]
    ]

pub byte-again : (areas : List Area) (a x y : ℕ) → with_byte (with_byte areas a x) a y ≡ with_byte areas a y
unfolding with_byte
byte-again [] a x y = refl
byte-again (area ∷ areas) a x y =
    elim (cases_Bool (has_page area (page_of a))) [
      | inl at ↦ rw (at, has_page-bytes area (slice_set area.bytes (a - 512 * area.first) x) (page_of a), at) (ap (λ bytes. record area { bytes = bytes } ∷ areas) (set_again area.bytes (a - 512 * area.first) x y))
      | inr af ↦ rw (af, af) (ap (λ l. area ∷ l) (byte-again areas a x y))
    ]

pub byte-other : (areas : List Area) (a x b : ℕ) → a ≢ b → byte_at (with_byte areas a x) b ≡ byte_at areas b
unfolding with_byte byte_at
byte-other [] a x b n = refl
byte-other (area ∷ areas) a x b n =
    elim (cases_Bool (has_page area (page_of a))) [
      | inl at ↦ elim (cases_Bool (has_page area (page_of b))) [
        | inl bt ↦
            let la = begins area a at in
            let lb = begins area b bt in
            rw (at, has_page-bytes area (slice_set area.bytes (a - 512 * area.first) x) (page_of b), bt) (get_or-set_other area.bytes (a - 512 * area.first) (b - 512 * area.first) x 0 (λ e. n (omega arith)))
        | inr bf ↦ rw (at, has_page-bytes area (slice_set area.bytes (a - 512 * area.first) x) (page_of b), bf) refl
      ]
      | inr af ↦ elim (cases_Bool (has_page area (page_of b))) [
        | inl bt ↦ rw (af, bt) refl
        | inr bf ↦ rw (af, bf) (byte-other areas a x b n)
      ]
    ]

-- no byte of one run is one of the other
abbrev pub Apart : ℕ → ℕ → ℕ → ℕ → Type 0
Apart a m b n = (i j : ℕ) → i < m → j < n → plus a i ≢ plus b j

pub apart_sym : (a m b n : ℕ) → Apart a m b n → Apart b n a m
apart_sym a m b n h i j p q e = h j i q p (sym e)

apart_after : (a m b n : ℕ) → Apart a (suc m) b n → Apart (after a) m b n
apart_after a m b n h i j p q e = h (suc i) j (omega arith) q (let s : plus (after a) i ≡ plus a (suc i) = omega arith in sym s ∙ e)

apart_first : (a m b n : ℕ) → a < 2 ^ 32 → Apart a (suc m) b n → (j : ℕ) → j < n → a ≢ plus b j
apart_first a m b n small h j q e = h 0 j (omega arith) q (let s : plus a 0 ≡ a = omega arith in s ∙ e)

pub byte_over_run : (areas : List Area) (b y a : ℕ) (xs : List ℕ) → a < 2 ^ 32 → ((i : ℕ) → i < length xs → b ≢ plus a i) → with_byte (written_run areas a xs) b y ≡ written_run (with_byte areas b y) a xs
unfolding written_run
byte_over_run areas b y a [] small h = refl
byte_over_run areas b y a (x ∷ xs) small h =
    let z : plus a 0 ≡ a = omega arith in
    byte-commute (written_run areas (after a) xs) a x b y (λ e. h 0 (omega arith) (sym (z ∙ e)))
    ∙ ap (λ m. with_byte m a x) (byte_over_run areas b y (after a) xs (omega arith) (λ i p e. h (suc i) (omega arith) (let s : plus (after a) i ≡ plus a (suc i) = omega arith in e ∙ s)))

pub runs_commute : (areas : List Area) (a : ℕ) (xs : List ℕ) (b : ℕ) (ys : List ℕ) → a < 2 ^ 32 → b < 2 ^ 32 → Apart a (length xs) b (length ys) → written_run (written_run areas a xs) b ys ≡ written_run (written_run areas b ys) a xs
unfolding written_run
runs_commute areas a [] b ys small near apart = refl
runs_commute areas a (x ∷ xs) b ys small near apart =
    sym (byte_over_run (written_run areas (after a) xs) a x b ys near (apart_first a (length xs) b (length ys) small apart))
    ∙ ap (λ m. with_byte m a x) (runs_commute areas (after a) xs b ys (omega arith) near (apart_after a (length xs) b (length ys) apart))

pub run-append : (areas : List Area) (a : ℕ) (xs ys : List ℕ) → a < 2 ^ 32 → written_run areas a (xs ++ ys) ≡ written_run (written_run areas (plus a (length xs)) ys) a xs
unfolding written_run
run-append areas a [] ys small = let z : plus a 0 ≡ a = omega arith in rw z refl
run-append areas a (x ∷ xs) ys small =
    let s : plus (after a) (length xs) ≡ plus a (suc (length xs)) = omega arith in
    ap (λ m. with_byte m a x) (run-append areas (after a) xs ys (omega arith))
    ∙ ap (λ b. with_byte (written_run (written_run areas b ys) (after a) xs) a x) s

byte_outside : (areas : List Area) (a : ℕ) (xs : List ℕ) (b : ℕ) → a < 2 ^ 32 → ((i : ℕ) → i < length xs → plus a i ≢ b) → byte_at (written_run areas a xs) b ≡ byte_at areas b
unfolding written_run
byte_outside areas a [] b small h = refl
byte_outside areas a (x ∷ xs) b small h =
    let z : plus a 0 ≡ a = omega arith in
    byte-other (written_run areas (after a) xs) a x b (λ e. h 0 (omega arith) (z ∙ e))
    ∙ byte_outside areas (after a) xs b (omega arith) (λ i p e. h (suc i) (omega arith) (let s : plus (after a) i ≡ plus a (suc i) = omega arith in sym s ∙ e))

pub bytes_outside : (areas : List Area) (a : ℕ) (xs : List ℕ) (b n : ℕ) → a < 2 ^ 32 → b < 2 ^ 32 → Apart a (length xs) b n → bytes_from (byte_at (written_run areas a xs)) b n ≡ bytes_from (byte_at areas) b n
unfolding bytes_from
bytes_outside areas a xs b zero small near apart = refl
bytes_outside areas a xs b (suc n) small near apart =
    let z : plus b 0 ≡ b = omega arith in
    let here : byte_at (written_run areas a xs) b ≡ byte_at areas b = byte_outside areas a xs b small (λ i p e. apart i 0 p (omega arith) (e ∙ sym z)) in
    rw here (ap (λ l. byte_at areas b ∷ l) (bytes_outside areas a xs (after b) n small (omega arith) (λ i j p q e. apart i (suc j) p (omega arith) (let s : plus (after b) j ≡ plus b (suc j) = omega arith in e ∙ s))))

-- what is written changes no right
pub still_allowed : (areas : List Area) (a : ℕ) (xs : List ℕ) (addr len mode : ℕ) (access : Access) → violation (written_run areas a xs) addr len mode access ≡ violation areas addr len mode access
still_allowed areas a xs addr len mode access = violation-alike (written_run areas a xs) areas addr len mode access (layout-written_run areas a xs)

-- rights to a part of a range
pub allowed_front : (areas : List Area) (addr len count mode : ℕ) (access : Access) → count ≤ len → violation areas addr len mode access ≡ None → violation areas addr count mode access ≡ None
unfolding violation
allowed_front areas addr len zero mode access few free = refl
allowed_front areas addr zero (suc count) mode access few free = absurd (omega arith)
allowed_front areas addr (suc len) (suc count) mode access few free =
    let g = allowed_first areas addr len mode access free in
    rw g.0 (allowed_front areas (after addr) len count mode access (omega arith) g.1)

pub allowed_back : (areas : List Area) (skip addr len mode : ℕ) (access : Access) → addr < 2 ^ 32 → skip ≤ len → violation areas addr len mode access ≡ None → violation areas (plus addr skip) (len - skip) mode access ≡ None
allowed_back areas zero addr len mode access small few free =
    let z : plus addr 0 ≡ addr = omega arith in
    let e : len - 0 ≡ len = omega arith in
    rw (z, e) free
allowed_back areas (suc skip) addr zero mode access small few free = absurd (omega arith)
allowed_back areas (suc skip) addr (suc len) mode access small few free =
    let g = allowed_first areas addr len mode access free in
    let s : plus addr (suc skip) ≡ plus (after addr) skip = omega arith in
    let e : suc len - suc skip ≡ len - skip = omega arith in
    rw (s, e) (allowed_back areas skip (after addr) len mode access (omega arith) (omega arith) g.1)

pub allowed_part : (areas : List Area) (addr len skip count mode : ℕ) (access : Access) → addr < 2 ^ 32 → skip + count ≤ len → violation areas addr len mode access ≡ None → violation areas (plus addr skip) count mode access ≡ None
allowed_part areas addr len skip count mode access small few free =
    allowed_front areas (plus addr skip) (len - skip) count mode access (omega arith) (allowed_back areas skip addr len mode access small (omega arith) free)

pub allowed_at : (areas : List Area) (addr len i mode : ℕ) (access : Access) → addr < 2 ^ 32 → i < len → violation areas addr len mode access ≡ None → may_access areas (page_of (plus addr i)) mode access ≡ true
allowed_at areas addr len i mode access small h free =
    (allowed_first areas (plus addr i) 0 mode access (allowed_part areas addr len i 1 mode access small (omega arith) free)).0

drop_all : (n : ℕ) (xs : List ℕ) → length xs ≤ n → drop n xs ≡ []
drop_all zero [] h = refl
drop_all (suc n) [] h = refl
drop_all zero (x ∷ xs) h = absurd (omega arith)
drop_all (suc n) (x ∷ xs) h = drop_all n xs (omega arith)

pub take_all : (n : ℕ) (xs : List ℕ) → length xs ≤ n → take n xs ≡ xs
take_all zero [] h = refl
take_all (suc n) [] h = refl
take_all zero (x ∷ xs) h = absurd (omega arith)
take_all (suc n) (x ∷ xs) h = ap (λ l. x ∷ l) (take_all n xs (omega arith))

pub nothing_written : (m : List Area) (a : ℕ) → written_run m a [] ≡ m
unfolding written_run
nothing_written m a = refl

pub nothing_barred : (areas : List Area) (addr mode : ℕ) → violation areas addr 0 mode Write ≡ None
unfolding violation
nothing_barred areas addr mode = refl

-- two pieces of a run, of which the lower goes first
pub pieces_written : (areas : List Area) (addr n : ℕ) (xs : List ℕ) → addr < 2 ^ 32 → length xs ≤ 512 → written_run (written_run areas addr (take n xs)) (plus addr n) (drop n xs) ≡ written_run areas addr xs
pieces_written areas addr n xs small few = elim (cases_lt n (length xs)) [
  | inl l ↦
      let len : length (take n xs) ≡ n = length-take n xs ∙ (let m : min n (length xs) ≡ n = omega arith in m) in
      let rest = length-drop n xs in
      runs_commute areas addr (take n xs) (plus addr n) (drop n xs) small (omega arith) (λ i j p q e. absurd (omega arith))
      ∙ (ap (λ k. written_run (written_run areas (plus addr k) (drop n xs)) addr (take n xs)) (sym len)
      ∙ (sym (run-append areas addr (take n xs) (drop n xs) small) ∙ ap (written_run areas addr) (take-append-drop n xs)))
  | inr g ↦
      let none_left : drop n xs ≡ [] = drop_all n xs g in
      let whole : take n xs ≡ xs = take_all n xs g in
      rw (none_left, whole) (nothing_written (written_run areas addr xs) (plus addr n))
]

module _ (s : State) (next : State → Accesses Leaf) where
  pub run_written : (addr : ℕ) (xs : List ℕ) (memory : List Area) → violation memory addr (length xs) (mode s) Write ≡ None → outcome_of (write_run_at addr xs s next) memory ≡ outcome_of (next s) (written_run memory addr xs)
  unfolding write_run_at outcome_of
  run_written addr xs memory free = rw free refl

pub pieces_are : (s : State) (next : State → Accesses Leaf) (count addr : ℕ) (xs : List ℕ) (memory : List Area) → addr < 2 ^ 32 → length xs ≤ 8 * count → length xs ≤ 512 → violation memory addr (length xs) (mode s) Write ≡ None → outcome_of (write_pieces count addr xs s next) memory ≡ outcome_of (next s) (written_run memory addr xs)
unfolding write_pieces
pieces_are s next zero addr [] memory small enough few free = ap (outcome_of (next s)) (sym (nothing_written memory addr))
pieces_are s next zero addr (x ∷ xs) memory small enough few free = absurd (omega arith)
pieces_are s next (suc count) addr xs memory small enough few free =
    let len = length-take 8 xs in
    let rest = length-drop 8 xs in
    let first : violation memory addr (length (take 8 xs)) (mode s) Write ≡ None = ap (λ n. violation memory addr n (mode s) Write) len ∙ allowed_front memory addr (length xs) (min 8 (length xs)) (mode s) Write (omega arith) free in
    let m = written_run memory addr (take 8 xs) in
    run_written s _ addr (take 8 xs) memory first
    ∙ (pieces_are s next count (plus addr 8) (drop 8 xs) m (omega arith) (omega arith) (omega arith) (still_allowed memory addr (take 8 xs) (plus addr 8) (length (drop 8 xs)) (mode s) Write ∙ behind xs memory small free)
    ∙ ap (outcome_of (next s)) (pieces_written memory addr 8 xs small few))
  where
    behind : (xs : List ℕ) (memory : List Area) → addr < 2 ^ 32 → violation memory addr (length xs) (mode s) Write ≡ None → violation memory (plus addr 8) (length (drop 8 xs)) (mode s) Write ≡ None
    behind xs memory small free = elim (cases_lt (length xs) 8) [
      | inl l ↦ let e : length (drop 8 xs) ≡ 0 = length-drop 8 xs ∙ (let z : length xs - 8 ≡ 0 = omega arith in z) in ap (λ n. violation memory (plus addr 8) n (mode s) Write) e ∙ nothing_barred memory (plus addr 8) (mode s)
      | inr g ↦ ap (λ n. violation memory (plus addr 8) n (mode s) Write) (length-drop 8 xs) ∙ allowed_back memory 8 addr (length xs) (mode s) Write small g free
    ]

one_again : (m : List Area) (addr : ℕ) (ys : List ℕ) (k : ℕ) → addr < 2 ^ 32 → 0 < k → 0 < length ys → length ys ≤ 512 → written_run (written_run m addr (take 1 ys)) addr (take k ys) ≡ written_run m addr (take k ys)
unfolding written_run
one_again m addr [] k small h g few = absurd (omega arith)
one_again m addr (y ∷ ys) zero small h g few = absurd (omega arith)
one_again m addr (y ∷ ys) (suc k) small h g few =
    ap (λ a. with_byte a addr y) (sym (byte_over_run m addr y (after addr) (take k ys) (omega arith) (λ i p e. let l = length-take k ys in absurd (omega arith))))
    ∙ byte-again (written_run m (after addr) (take k ys)) addr y y

module _ (s : State) (next : State → Accesses Leaf) (addr : ℕ) (xs : List ℕ) (memory : List Area) (small : addr < 2 ^ 32) (some : 0 < length xs) (few : length xs ≤ 512) (free : violation memory addr (length xs) (mode s) Write ≡ None) where
  abbrev n : ℕ
  n = to_page_end addr

  abbrev low : List ℕ
  low = take n xs

  abbrev high : List ℕ
  high = drop n xs

  low_len : n < length xs → length low ≡ n
  low_len h = length-take n xs ∙ (let m : min n (length xs) ≡ n = omega arith in m)

  high_len : length high ≡ length xs - n
  high_len = length-drop n xs

  low_free : n < length xs → violation memory addr (length low) (mode s) Write ≡ None
  low_free h = ap (λ k. violation memory addr k (mode s) Write) (low_len h) ∙ allowed_front memory addr (length xs) n (mode s) Write (omega arith) free

  high_free : n < length xs → violation memory (plus addr n) (length high) (mode s) Write ≡ None
  high_free h = ap (λ k. violation memory (plus addr n) k (mode s) Write) high_len ∙ allowed_back memory n addr (length xs) (mode s) Write small (omega arith) free

  after_low : n < length xs → outcome_of (write_pieces (pieces_of low) addr low s (λ s. write_run_at (plus addr n) high s next)) memory ≡ outcome_of (next s) (written_run memory addr xs)
  after_low h =
      let l = low_len h in
      pieces_are s _ (pieces_of low) addr low memory small (omega arith) (omega arith) (low_free h)
      ∙ (run_written s next (plus addr n) high (written_run memory addr low) (still_allowed memory addr low (plus addr n) (length high) (mode s) Write ∙ high_free h)
      ∙ ap (outcome_of (next s)) (pieces_written memory addr n xs small few))

  abbrev one : List ℕ
  one = take 1 xs

  one_len : length one ≡ 1
  one_len = length-take 1 xs ∙ (let m : min 1 (length xs) ≡ 1 = omega arith in m)

  -- the byte that goes first is written again
  first_again : n < length xs → written_run (written_run (written_run memory addr one) (plus addr n) high) addr low ≡ written_run memory addr xs
  first_again h =
      let l = low_len h in
      let r = high_len in
      ap (λ m. written_run m addr low) (runs_commute memory addr one (plus addr n) high small (omega arith) (λ i j p q e. absurd (omega (arith, one_len))))
      ∙ (over_one (written_run memory (plus addr n) high) xs n (omega arith) some few
      ∙ (ap (λ k. written_run (written_run memory (plus addr k) high) addr low) (sym l)
      ∙ (sym (run-append memory addr low high small) ∙ ap (written_run memory addr) (take-append-drop n xs))))
    where
      over_one : (m : List Area) (ys : List ℕ) (k : ℕ) → 0 < k → 0 < length ys → length ys ≤ 512 → written_run (written_run m addr (take 1 ys)) addr (take k ys) ≡ written_run m addr (take k ys)
      over_one m ys k h g f = one_again m addr ys k small h g f

  after_high : n < length xs → outcome_of (write_run_at addr one s (λ s. write_pieces (pieces_of high) (plus addr n) high s (λ s. write_run_at addr low s next))) memory ≡ outcome_of (next s) (written_run memory addr xs)
  after_high h =
      let r = high_len in
      run_written s _ addr one memory (ap (λ k. violation memory addr k (mode s) Write) one_len ∙ allowed_front memory addr (length xs) 1 (mode s) Write (omega arith) free)
      ∙ (pieces_are s _ (pieces_of high) (plus addr n) high (written_run memory addr one) (omega arith) (omega arith) (omega arith) (still_allowed memory addr one (plus addr n) (length high) (mode s) Write ∙ high_free h)
      ∙ (run_written s next addr low (written_run (written_run memory addr one) (plus addr n) high) (still_allowed (written_run memory addr one) (plus addr n) high addr (length low) (mode s) Write ∙ (still_allowed memory addr one addr (length low) (mode s) Write ∙ low_free h))
      ∙ ap (outcome_of (next s)) (first_again h)))

  pub span_written : outcome_of (write_span addr xs s next) memory ≡ outcome_of (next s) (written_run memory addr xs)
  unfolding write_span write_high_last write_low_last
  span_written = by (cases_lt n (length xs)) (cases_lt 256 n)
    where
      by : (n < length xs) ⊎ (length xs ≤ n) → (256 < n) ⊎ (n ≤ 256) → outcome_of (write_span addr xs s next) memory ≡ outcome_of (next s) (written_run memory addr xs)
      by (inr g) o = let t : nat_le (length xs) n ≡ true = grind (arith, nat_tests) in rw t (run_written s next addr xs memory free)
      by (inl h) (inr g) =
          let f : nat_le (length xs) n ≡ false = grind (arith, nat_tests) in
          let t : nat_le n 256 ≡ true = grind (arith, nat_tests) in
          rw (f, t) (after_low h)
      by (inl h) (inl g) =
          let f : nat_le (length xs) n ≡ false = grind (arith, nat_tests) in
          let t : nat_le n 256 ≡ false = grind (arith, nat_tests) in
          rw (f, t) (after_high h)
