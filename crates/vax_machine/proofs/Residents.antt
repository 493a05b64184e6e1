-- The resident pages in ascending order, and that evicting these is evicting all pages.
use Rattle.std.proofs.Common.{ℕ, zero, suc, ◌≡◌, ◌≢◌, ◌+◌, ◌<◌, ◌≤◌, Bool, true, false, ◌==◌, ◌||◌, cond, List, [], ◌∷◌, ◌++◌, length, get_or, take, refl, ap, sym, ◌∙◌, subst, arith, inl, inr, Option, Some}
use Rattle.std.specs.Prelude.{is_some, ◌⊎◌}
use Rattle.std.specs.List.{filter, flat_map, list_any, range_with_len, slice_get, sum_by}
use Rattle.std.specs.List.Sorted.{IsNonDecreasing, IsPermutation, IsSorted}
use Rattle.std.specs.Ordering.{nat_cmp}
use Rattle.std.proofs.lemmas.Bool.{cases_Bool, cases_eq, eq-eqb, ne_eqb, false≢true}
use Rattle.std.proofs.lemmas.List.Sorted.{IsNonDecreasingBy-from_sort, list_any-IsPermutation, sum_by-IsPermutation}
use Rattle.std.proofs.lemmas.List.Sums.{sum_by-cons}
use Rattle.std.proofs.Math.Seq.{take-append_seam}
use Rattle.vax_space.specs.declared.Area.{Area}
use Rattle.vax_space.specs.Areas.{area_of, end_of, has_page, pages_of}
use Rattle.vax_space.specs.Faults.{IsSpace, end_before}
use Rattle.vax_space.proofs.AreaFaults.{fits_here}
use Rattle.vax_space.proofs.Extents.{area_later, area_none, has_first, has_last}
use Rattle.vax_pager.specs.Listing.{AreOnce, is_listed}

-- lists in which each page is below those behind it

unfoldable Ascends : List ℕ → Type 0
Ascends [] = Unit {0}
Ascends (x ∷ xs) = ((page : ℕ) → is_listed page xs ≡ true → x < page) × Ascends xs

none_listed : (p : ℕ) → is_listed p [] ≡ true → ⊥
unfolding is_listed
none_listed p h = false≢true h

listed_here : (p : ℕ) (xs : List ℕ) → is_listed p (p ∷ xs) ≡ true
unfolding is_listed
listed_here p xs = rw (eq-eqb p p refl) refl

listed_more : (p x : ℕ) (xs : List ℕ) → is_listed p xs ≡ true → is_listed p (x ∷ xs) ≡ true
unfolding is_listed
listed_more p x xs h = elim (cases_eq x p) [
  | inl e ↦ rw (eq-eqb x p e) refl
  | inr o ↦ rw (ne_eqb x p o) h
]

listed_behind : (p x : ℕ) (xs : List ℕ) → x ≢ p → is_listed p (x ∷ xs) ≡ is_listed p xs
unfolding is_listed
listed_behind p x xs o = rw (ne_eqb x p o) refl

listed_either : (p x : ℕ) (xs : List ℕ) → is_listed p (x ∷ xs) ≡ true → (x ≡ p) ⊎ (is_listed p xs ≡ true)
listed_either p x xs h = elim (cases_eq x p) [
  | inl e ↦ inl e
  | inr o ↦ inr (sym (listed_behind p x xs o) ∙ h)
]

both_ways : (a b : Bool) → (a ≡ true → b ≡ true) → (b ≡ true → a ≡ true) → a ≡ b
both_ways true b f g = sym (f refl)
both_ways false true f g = g refl
both_ways false false f g = refl

not_true : (b : Bool) → (b ≡ true → ⊥) → b ≡ false
not_true true h = absurd (h refl)
not_true false h = refl

least : (x y : ℕ) (ys : List ℕ) → Ascends (y ∷ ys) → is_listed x (y ∷ ys) ≡ true → y ≤ x
unfolding Ascends
least x y ys a h = elim (listed_either x y ys h) [
  | inl e ↦ omega (arith, e)
  | inr k ↦ let l = a.0 x k in omega (arith, l)
]

not_behind : (x : ℕ) (xs : List ℕ) → Ascends (x ∷ xs) → is_listed x xs ≡ false
unfolding Ascends
not_behind x xs a = not_true (is_listed x xs) (λ h. let l = a.0 x h in omega (arith, l))

tails : (x p : ℕ) (xs ys : List ℕ) → Ascends (x ∷ xs) → Ascends (x ∷ ys) → is_listed p (x ∷ xs) ≡ is_listed p (x ∷ ys) → is_listed p xs ≡ is_listed p ys
tails x p xs ys a b h = elim (cases_eq x p) [
  | inl e ↦ subst (λ (z : ℕ). is_listed z xs ≡ is_listed z ys) e (not_behind x xs a ∙ sym (not_behind x ys b))
  | inr o ↦ sym (listed_behind p x xs o) ∙ h ∙ listed_behind p x ys o
]

first_and_rest : (x : ℕ) (xs : List ℕ) → Ascends (x ∷ xs) → Ascends xs
unfolding Ascends
first_and_rest x xs a = a.1

-- two of these with the same pages are one
alone : (xs ys : List ℕ) → Ascends xs → Ascends ys → ((p : ℕ) → is_listed p xs ≡ is_listed p ys) → xs ≡ ys
alone [] [] a b same = refl
alone [] (y ∷ ys) a b same = absurd (none_listed y (same y ∙ listed_here y ys))
alone (x ∷ xs) [] a b same = absurd (none_listed x (sym (same x) ∙ listed_here x xs))
alone (x ∷ xs) (y ∷ ys) a b same =
    let low : y ≤ x = least x y ys b (sym (same x) ∙ listed_here x xs) in
    let high : x ≤ y = least y x xs a (same y ∙ listed_here y ys) in
    let e : y ≡ x = omega (arith, low, high) in
    let b' : Ascends (x ∷ ys) = subst (λ (z : ℕ). Ascends (z ∷ ys)) e b in
    let same' : (p : ℕ) → is_listed p (x ∷ xs) ≡ is_listed p (x ∷ ys) = subst (λ (z : ℕ). (p : ℕ) → is_listed p (x ∷ xs) ≡ is_listed p (z ∷ ys)) e same in
    ap (λ (zs : List ℕ). x ∷ zs) (alone xs ys (first_and_rest x xs a) (first_and_rest x ys b') (λ p. tails x p xs ys a b' (same' p))) ∙ ap (λ (z : ℕ). z ∷ ys) (sym e)

-- a sorted list

abbrev times : ℕ → List ℕ → ℕ
times p xs = sum_by (λ x. cond (x == p) 1 0) xs

times_here : (p x : ℕ) (xs : List ℕ) → x ≡ p → times p (x ∷ xs) ≡ 1 + times p xs
times_here p x xs e = rw (sum_by-cons (λ x. cond (x == p) 1 0) x xs, eq-eqb x p e) refl

times_away : (p x : ℕ) (xs : List ℕ) → x ≢ p → times p (x ∷ xs) ≡ times p xs
times_away p x xs o = rw (sum_by-cons (λ x. cond (x == p) 1 0) x xs, ne_eqb x p o) (omega arith)

times_less : (p x : ℕ) (xs : List ℕ) → times p xs ≤ times p (x ∷ xs)
times_less p x xs = elim (cases_eq x p) [
  | inl e ↦ let k = times_here p x xs e in omega (arith, k)
  | inr o ↦ let k = times_away p x xs o in omega (arith, k)
]

times_some : (p : ℕ) (xs : List ℕ) → is_listed p xs ≡ true → 1 ≤ times p xs
times_some p [] h = absurd (none_listed p h)
times_some p (x ∷ xs) h = elim (cases_eq x p) [
  | inl e ↦ let k = times_here p x xs e in omega (arith, k)
  | inr o ↦
      let k = times_away p x xs o in
      let l = times_some p xs (sym (listed_behind p x xs o) ∙ h) in
      omega (arith, k, l)
]

times_none : (p : ℕ) (xs : List ℕ) → is_listed p xs ≡ false → times p xs ≡ 0
times_none p [] h = refl
times_none p (x ∷ xs) h = elim (cases_eq x p) [
  | inl e ↦
      let there : is_listed p (x ∷ xs) ≡ true = subst (λ (z : ℕ). is_listed p (z ∷ xs) ≡ true) (sym e) (listed_here p xs) in
      absurd (false≢true (sym h ∙ there))
  | inr o ↦ times_away p x xs o ∙ times_none p xs (sym (listed_behind p x xs o) ∙ h)
]

times_once : (p : ℕ) (xs : List ℕ) → AreOnce xs → times p xs ≤ 1
unfolding AreOnce
times_once p [] h = omega arith
times_once p (x ∷ xs) h = elim (cases_eq x p) [
  | inl e ↦
      let k = times_here p x xs e in
      let l = times_none p xs (subst (λ (z : ℕ). is_listed z xs ≡ false) e h.0) in
      omega (arith, k, l)
  | inr o ↦
      let k = times_away p x xs o in
      let l = times_once p xs h.1 in
      omega (arith, k, l)
]

low : (x p : ℕ) (xs : List ℕ) → ((j : ℕ) → j < length xs → x ≤ get_or xs j 0) → is_listed p xs ≡ true → x ≤ p
low x p [] all h = absurd (none_listed p h)
low x p (y ∷ ys) all h = elim (listed_either p y ys h) [
  | inl e ↦ let k = all 0 (omega arith) in omega (arith, k, e)
  | inr k ↦ low x p ys (λ j l. all (suc j) (omega (arith, l))) k
]

sorted_ascends : (xs : List ℕ) → IsNonDecreasing xs → ((p : ℕ) → times p xs ≤ 1) → Ascends xs
unfolding Ascends
sorted_ascends [] up few = tt
sorted_ascends (x ∷ xs) up few = (
  λ p h.
      let le : x ≤ p = low x p xs (λ j l. up 0 (suc j) 0 (omega arith) (omega (arith, l))) h in
      let ne : x ≢ p = λ e.
      let two = times_here p x xs e in
      let one = times_some p xs h in
      let most = few p in
      omega (arith, two, one, most) in
      omega (arith, le, ne),
  sorted_ascends xs (λ i j d l m. up (suc i) (suc j) d (omega (arith, l)) (omega (arith, m))) (λ p. let a = times_less p x xs in let b = few p in omega (arith, a, b)),
)

listed_any : (p : ℕ) (xs : List ℕ) → is_listed p xs ≡ list_any (λ x. x == p) xs
unfolding is_listed
listed_any p [] = refl
listed_any p (x ∷ xs) = ap (λ (b : Bool). (x == p) || b) (listed_any p xs)

-- the pages of areas

range_in : (p first n : ℕ) → is_listed p (range_with_len first n) ≡ true → (first ≤ p) × (p < first + n)
range_in p first zero h = absurd (none_listed p h)
range_in p first (suc n) h = elim (listed_either p first (range_with_len (first + 1) n) h) [
  | inl e ↦ (omega (arith, e), omega (arith, e))
  | inr k ↦ let r = range_in p (first + 1) n k in let a = r.0 in let b = r.1 in (omega (arith, a), omega (arith, b))
]

range_has : (p first n : ℕ) → first ≤ p → p < first + n → is_listed p (range_with_len first n) ≡ true
range_has p first zero a b = absurd (omega (arith, a, b))
range_has p first (suc n) a b = elim (cases_eq first p) [
  | inl e ↦ subst (λ (z : ℕ). is_listed p (z ∷ range_with_len (first + 1) n) ≡ true) (sym e) (listed_here p (range_with_len (first + 1) n))
  | inr o ↦ listed_more p first (range_with_len (first + 1) n) (range_has p (first + 1) n (omega (arith, a, o)) (omega (arith, b)))
]

range_ascends : (first n : ℕ) → Ascends (range_with_len first n)
unfolding Ascends
range_ascends first zero = tt
range_ascends first (suc n) = (λ p h. let a = (range_in p (first + 1) n h).0 in omega (arith, a), range_ascends (first + 1) n)

listed_in_both : (p : ℕ) (xs ys : List ℕ) → is_listed p (xs ++ ys) ≡ true → (is_listed p xs ≡ true) ⊎ (is_listed p ys ≡ true)
listed_in_both p [] ys h = inr h
listed_in_both p (x ∷ xs) ys h = elim (listed_either p x (xs ++ ys) h) [
  | inl e ↦ inl (subst (λ (z : ℕ). is_listed p (z ∷ xs) ≡ true) (sym e) (listed_here p xs))
  | inr k ↦ elim (listed_in_both p xs ys k) [
    | inl a ↦ inl (listed_more p x xs a)
    | inr b ↦ inr b
  ]
]

listed_first : (p : ℕ) (xs ys : List ℕ) → is_listed p xs ≡ true → is_listed p (xs ++ ys) ≡ true
listed_first p [] ys h = absurd (none_listed p h)
listed_first p (x ∷ xs) ys h = elim (listed_either p x xs h) [
  | inl e ↦ subst (λ (z : ℕ). is_listed p (z ∷ (xs ++ ys)) ≡ true) (sym e) (listed_here p (xs ++ ys))
  | inr k ↦ listed_more p x (xs ++ ys) (listed_first p xs ys k)
]

listed_second : (p : ℕ) (xs ys : List ℕ) → is_listed p ys ≡ true → is_listed p (xs ++ ys) ≡ true
listed_second p [] ys h = h
listed_second p (x ∷ xs) ys h = listed_more p x (xs ++ ys) (listed_second p xs ys h)

ascend_both : (xs ys : List ℕ) → Ascends xs → Ascends ys → ((p q : ℕ) → is_listed p xs ≡ true → is_listed q ys ≡ true → p < q) → Ascends (xs ++ ys)
unfolding Ascends
ascend_both [] ys a b h = b
ascend_both (x ∷ xs) ys a b h = (
  λ p k. elim (listed_in_both p xs ys k) [
    | inl l ↦ a.0 p l
    | inr l ↦ h x p (listed_here x xs) l
  ],
  ascend_both xs ys a.1 b (λ p q l m. h p q (listed_more p x xs l) m),
)

-- an area begins where the one before it ends or behind that
abbrev from : ℕ → List Area → ℕ → ℕ
from end areas zero = end
from end areas (suc place) = end_before areas (suc place)

record Stand (end : ℕ) (areas : List Area) : Type 0 where
  above : (place : ℕ) (area : Area) → slice_get areas place ≡ Some area → from end areas place ≤ area.first

later_above : (end : ℕ) (area : Area) (areas : List Area) → Stand end (area ∷ areas) → (place : ℕ) (next : Area) → slice_get areas place ≡ Some next → from (end_of area) areas place ≤ next.first
later_above end area areas s zero next h = s.above 1 next h
later_above end area areas s (suc place) next h = s.above (suc (suc place)) next h

later_stand : (end : ℕ) (area : Area) (areas : List Area) → Stand end (area ∷ areas) → Stand (end_of area) areas
later_stand end area areas s = record { above = later_above end area areas s }

listed_above : (end : ℕ) (areas : List Area) → Stand end areas → (p : ℕ) → is_listed p (flat_map pages_of areas) ≡ true → end ≤ p
listed_above end [] s p h = absurd (none_listed p h)
listed_above end (area ∷ areas) s p h =
    let begins : end ≤ area.first = s.above 0 area refl in
    elim (listed_in_both p (pages_of area) (flat_map pages_of areas) h) [
      | inl a ↦ let k = (range_in p area.first area.pages a).0 in omega (arith, begins, k)
      | inr b ↦ let k = listed_above (end_of area) areas (later_stand end area areas s) p b in omega (arith, begins, k)
    ]

nothing_ascends : Ascends []
unfolding Ascends
nothing_ascends = tt

areas_ascend : (end : ℕ) (areas : List Area) → Stand end areas → Ascends (flat_map pages_of areas)
areas_ascend end [] s = nothing_ascends
areas_ascend end (area ∷ areas) s =
    ascend_both (pages_of area) (flat_map pages_of areas) (range_ascends area.first area.pages) (areas_ascend (end_of area) areas (later_stand end area areas s))
    (λ p q a b.
    let k = (range_in p area.first area.pages a).1 in
    let l = listed_above (end_of area) areas (later_stand end area areas s) q b in
    omega (arith, k, l))

space_above : (areas : List Area) → IsSpace areas → (place : ℕ) (area : Area) → slice_get areas place ≡ Some area → from 0 areas place ≤ area.first
space_above areas space zero area h = omega arith
space_above areas space (suc place) area h = (fits_here areas (suc place) area space h).order

all_listed : (areas : List Area) (p : ℕ) → is_some (area_of areas p) ≡ true → is_listed p (flat_map pages_of areas) ≡ true
all_listed [] p h =
    let no : false ≡ true = rw (area_none p) at h in
    absurd (false≢true no)
all_listed (area ∷ areas) p h = elim (cases_Bool (has_page area p)) [
  | inl t ↦
      let a = has_first area p t in
      let b = has_last area p t in
      listed_first p (pages_of area) (flat_map pages_of areas) (range_has p area.first area.pages a b)
  | inr f ↦ listed_second p (pages_of area) (flat_map pages_of areas) (all_listed areas p (ap (λ (z : Option Area). is_some z) (sym (area_later area areas p f)) ∙ h))
]

-- some of the pages

kept_in : (q : ℕ → Bool) (p : ℕ) (xs : List ℕ) → is_listed p (filter q xs) ≡ true → (is_listed p xs ≡ true) × (q p ≡ true)
kept_in q p [] h = absurd (none_listed p h)
kept_in q p (x ∷ xs) h = elim (cases_Bool (q x)) [
  | inl t ↦
      let k : is_listed p (x ∷ filter q xs) ≡ true = rw t at h in
      elim (listed_either p x (filter q xs) k) [
        | inl e ↦ (subst (λ (z : ℕ). is_listed p (z ∷ xs) ≡ true) (sym e) (listed_here p xs), subst (λ (z : ℕ). q z ≡ true) e t)
        | inr l ↦ let r = kept_in q p xs l in (listed_more p x xs r.0, r.1)
      ]
  | inr f ↦
      let k : is_listed p (filter q xs) ≡ true = rw f at h in
      let r = kept_in q p xs k in
      (listed_more p x xs r.0, r.1)
]

kept_has : (q : ℕ → Bool) (p : ℕ) (xs : List ℕ) → is_listed p xs ≡ true → q p ≡ true → is_listed p (filter q xs) ≡ true
kept_has q p [] h k = absurd (none_listed p h)
kept_has q p (x ∷ xs) h k = elim (listed_either p x xs h) [
  | inl e ↦
      let t : q x ≡ true = subst (λ (z : ℕ). q z ≡ true) (sym e) k in
      rw t (subst (λ (z : ℕ). is_listed p (z ∷ filter q xs) ≡ true) (sym e) (listed_here p (filter q xs)))
  | inr l ↦
      let r = kept_has q p xs l k in
      elim (cases_Bool (q x)) [
        | inl t ↦ rw t (listed_more p x (filter q xs) r)
        | inr f ↦ rw f r
      ]
]

kept_ascends : (q : ℕ → Bool) (xs : List ℕ) → Ascends xs → Ascends (filter q xs)
unfolding Ascends
kept_ascends q [] a = tt
kept_ascends q (x ∷ xs) a = elim (cases_Bool (q x)) [
  | inl t ↦ rw t (λ p h. a.0 p (kept_in q p xs h).0, kept_ascends q xs a.1)
  | inr f ↦ rw f (kept_ascends q xs a.1)
]

pub taken : (n : ℕ) (sorted rest : List ℕ) → length sorted ≡ n → take n (sorted ++ rest) ≡ sorted
taken n sorted rest e = ap (λ (k : ℕ). take k (sorted ++ rest)) (sym e) ∙ take-append_seam sorted rest

abbrev pub resident : List ℕ → ℕ → Bool
resident order page = is_listed page order

-- the resident pages, once they are sorted, are those of all pages that are resident, in ascending order
pub residents_sorted : (areas : List Area) (order sorted : List ℕ) → IsSpace areas → AreOnce order → ((page : ℕ) → is_listed page order ≡ true → is_some (area_of areas page) ≡ true) → IsPermutation order sorted → IsSorted nat_cmp sorted
    → sorted ≡ filter (resident order) (flat_map pages_of areas)
residents_sorted areas order sorted space once inside moved up =
    let all = flat_map pages_of areas in
    let same : (p : ℕ) → is_listed p sorted ≡ is_listed p order = λ p. listed_any p sorted ∙ sym (list_any-IsPermutation (λ x. x == p) order sorted moved) ∙ sym (listed_any p order) in
    let few : (p : ℕ) → times p sorted ≤ 1 = λ p.
    let k = sum_by-IsPermutation (λ x. cond (x == p) 1 0) order sorted moved in
    let l = times_once p order once in
    omega (arith, k, l) in
    alone sorted (filter (resident order) all) (sorted_ascends sorted (IsNonDecreasingBy-from_sort (λ x. x) sorted up) few)
    (kept_ascends (resident order) all (areas_ascend 0 areas (record { above = space_above areas space })))
    (λ p. same p ∙ both_ways (is_listed p order) (is_listed p (filter (resident order) all)) (λ h. kept_has (resident order) p all (all_listed areas p (inside p h)) h) (λ h. (kept_in (resident order) p all h).1))
