-- Lists of pages, and lists of pages in frames.
use Rattle.std.proofs.Common.{ℕ, zero, suc, ◌≡◌, ◌≢◌, Bool, true, false, ◌==◌, List, [], ◌∷◌, ◌++◌, drop, length, if◌then◌else◌, refl, ap, sym, ◌∙◌, inl, inr, Option, Some, None}
use Rattle.std.specs.Prelude.{is_some, slice_get}
use Rattle.std.proofs.lemmas.Bool.{cases_eq, eq-eqb, ne_eqb, false≢true}
use Rattle.vax_lists.specs.declared.lists.Placed.{Placed}
use Rattle.vax_lists.specs.Lines.{EachOnce, appended, frame_in, without, pages_of, placed}
use Rattle.vax_lists.proofs.Pages.{once_append, once_without}
use Rattle.vax_pager.specs.Listing.{are_once, is_listed, leave_out, first, page_in}

if_true : (b : Bool) → true ≡ (if b then true else true)
if_true true = refl
if_true false = refl

if_false : (b : Bool) → false ≡ (if b then false else false)
if_false true = refl
if_false false = refl

pub in_push : (q p : ℕ) (xs : List ℕ) → is_listed q (xs ++ p ∷ []) ≡ (if q == p then true else is_listed q xs)
unfolding is_listed
in_push q p [] = elim (cases_eq q p) [
  | inl e ↦ rw (eq-eqb q p e, eq-eqb p q (sym e)) refl
  | inr o ↦ rw (ne_eqb q p o, ne_eqb p q (λ e. o (sym e))) refl
]
in_push q p (x ∷ xs) = elim (cases_eq x q) [
  | inl e ↦ rw (eq-eqb x q e) (if_true (q == p))
  | inr o ↦ rw (ne_eqb x q o) (in_push q p xs)
]

pub in_without : (q p : ℕ) (xs : List ℕ) → is_listed q (leave_out p xs) ≡ (if q == p then false else is_listed q xs)
unfolding is_listed leave_out
in_without q p [] = if_false (q == p)
in_without q p (x ∷ xs) = elim (cases_eq x p) [
  | inl e ↦ rw (eq-eqb x p e) (in_without q p xs ∙ (elim (cases_eq q p) [
    | inl same ↦ rw (eq-eqb q p same) refl
    | inr o ↦ rw (ne_eqb q p o, ne_eqb x q (λ k. o (sym k ∙ e))) refl
  ]))
  | inr o ↦ rw (ne_eqb x p o) (elim (cases_eq x q) [
    | inl same ↦ let ne : q ≢ p = λ k. o (same ∙ k) in rw (eq-eqb x q same, ne_eqb q p ne) refl
    | inr other ↦ rw (ne_eqb x q other) (in_without q p xs)
  ])
]

-- pages in frames
pub listed_is : (p : ℕ) (xs : List Placed) → is_listed p (pages_of xs) ≡ is_some (frame_in xs p)
unfolding is_listed pages_of frame_in
listed_is p [] = refl
listed_is p (x ∷ xs) = elim (cases_eq x.page p) [
  | inl e ↦ rw (eq-eqb x.page p e) refl
  | inr o ↦ rw (ne_eqb x.page p o) (listed_is p xs)
]

pub pages_push : (xs : List Placed) (p f : ℕ) → pages_of (xs ++ placed p f ∷ []) ≡ pages_of xs ++ p ∷ []
unfolding pages_of
pages_push [] p f = refl
pages_push (x ∷ xs) p f = ap (λ (ys : List ℕ). x.page ∷ ys) (pages_push xs p f)

pub pages_without : (p : ℕ) (xs : List Placed) → pages_of (without p xs) ≡ leave_out p (pages_of xs)
unfolding pages_of leave_out without
pages_without p [] = refl
pages_without p (x ∷ xs) = elim (cases_eq x.page p) [
  | inl e ↦ rw (eq-eqb x.page p e) (pages_without p xs)
  | inr o ↦ rw (ne_eqb x.page p o) (ap (λ (ys : List ℕ). x.page ∷ ys) (pages_without p xs))
]

pub pages-length : (xs : List Placed) → length (pages_of xs) ≡ length xs
unfolding pages_of
pages-length [] = refl
pages-length (x ∷ xs) = ap suc (pages-length xs)

pub pages_drop : (n : ℕ) (xs : List Placed) → pages_of (drop n xs) ≡ drop n (pages_of xs)
unfolding pages_of
pages_drop zero xs = refl
pages_drop (suc n) [] = refl
pages_drop (suc n) (x ∷ xs) = pages_drop n xs

pub first_page : (xs : List Placed) (o : Option Placed) → o ≡ slice_get xs 0 → first (pages_of xs) ≡ page_in o
unfolding pages_of
first_page [] None e = refl
first_page [] (Some x) e = cc
first_page (x ∷ xs) None e = cc
first_page (x ∷ xs) (Some y) e = let k : y ≡ x = cc in ap (λ (z : Placed). Some z.page) (sym k)

-- the first page's frame
pub first_frame : (xs : List Placed) (x : Placed) → Some x ≡ slice_get xs 0 → frame_in xs x.page ≡ Some x.frame
unfolding frame_in
first_frame [] x e = cc
first_frame (y ∷ ys) x e = let k : x ≡ y = cc in rw (k, eq-eqb y.page y.page refl) refl

-- leaving out what isn't there
pub out_none : (p : ℕ) (xs : List ℕ) → is_listed p xs ≡ false → leave_out p xs ≡ xs
unfolding is_listed leave_out
out_none p [] h = refl
out_none p (x ∷ xs) h = elim (cases_eq x p) [
  | inl e ↦ let bad : true ≡ false = rw (eq-eqb x p e) at h in cc
  | inr o ↦ let rest : is_listed p xs ≡ false = rw (ne_eqb x p o) at h in rw (ne_eqb x p o) (ap (λ (ys : List ℕ). x ∷ ys) (out_none p xs rest))
]

pub out-append : (p : ℕ) (xs ys : List ℕ) → leave_out p (xs ++ ys) ≡ leave_out p xs ++ leave_out p ys
unfolding leave_out
out-append p [] ys = refl
out-append p (x ∷ xs) ys = elim (cases_eq x p) [
  | inl e ↦ rw (eq-eqb x p e) (out-append p xs ys)
  | inr o ↦ rw (ne_eqb x p o) (ap (λ (zs : List ℕ). x ∷ zs) (out-append p xs ys))
]

-- each page has one frame

pub once_test : (xs : List Placed) → EachOnce xs → are_once xs ≡ true
unfolding EachOnce are_once
once_test [] once = refl
once_test (x ∷ xs) once = rw once.0 (once_test xs once.1)

split_once : (o : Option ℕ) (rest : Bool) → (if is_some o then false else rest) ≡ true → (o ≡ None) × (rest ≡ true)
split_once None rest h = (refl, h)
split_once (Some frame) rest h = absurd (false≢true h)

pub test_once : (xs : List Placed) → are_once xs ≡ true → EachOnce xs
unfolding EachOnce are_once
test_once [] h = tt
test_once (x ∷ xs) h = let k = split_once (frame_in xs x.page) (are_once xs) h in (k.0, test_once xs k.1)

pub once_left : (p : ℕ) (xs : List Placed) → are_once xs ≡ true → are_once (without p xs) ≡ true
once_left p xs h = once_test (without p xs) (once_without p xs (test_once xs h))

pub once_more : (xs : List Placed) (p f : ℕ) → frame_in xs p ≡ None → are_once xs ≡ true → are_once (appended xs p f) ≡ true
once_more xs p f new h = once_test (appended xs p f) (once_append xs p f new (test_once xs h))
