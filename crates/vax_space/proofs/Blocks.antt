-- A page's block: its rank among the writable pages.
use Rattle.std.proofs.Common.{◌≡◌, ℕ, zero, suc, ◌+◌, ◌-◌, ◌<◌, ◌≤◌, true, false, not, List, [], ◌∷◌, ◌++◌, length, refl, ◌∙◌, ap, sym, arith, cond, inl, inr, Option, Some, None, nat_lt, nat_eq, length-append}
use Rattle.std.specs.Prelude.{◌==◌, option_map, slice_get, IfSome}
use Rattle.std.specs.List.{range_with_len, position, prefix_len}
use Rattle.std.proofs.lemmas.Bool.{cases_eq, cases_lt, eqb-true}
use Rattle.std.proofs.lemmas.Bool.Decides.{nat_tests}
use Rattle.std.proofs.lemmas.List.Folds.{prefix_len-append}
use Rattle.std.proofs.lemmas.List.FromFn.{length-range_with_len}
use Rattle.std.proofs.lemmas.List.Quantifiers.{position-Some}
use Rattle.std.proofs.lemmas.Option.{slice_get-get_or}
use Rattle.vax_space.specs.declared.Area.{Area}
use Rattle.vax_space.specs.Areas.{has_page, is_writable, pages_of, writable_pages, block_of, page_of_block}

-- how many pages of a list stand before a page
abbrev before : ℕ → List ℕ → ℕ
before page pages = prefix_len (λ p. not (p == page)) pages

before_in : (page first n : ℕ) → first ≤ page → page < first + n → before page (range_with_len first n) ≡ page - first
before_in page first zero low high = absurd (omega arith)
before_in page first (suc n) low high =
    elim (cases_eq first page) [
      | inl e ↦ let t : (first == page) ≡ true = grind (arith, nat_tests) in rw t (omega arith)
      | inr ne ↦
          let t : (first == page) ≡ false = grind (arith, nat_tests) in
          let rest = before_in page (first + 1) n (omega arith) (omega arith) in
          rw (t, rest) (omega arith)
    ]

before_out : (page first n : ℕ) → (first ≤ page → first + n ≤ page) → before page (range_with_len first n) ≡ n
before_out page first zero out = refl
before_out page first (suc n) out =
    let t : (first == page) ≡ false = grind (arith, nat_tests) in
    let rest = before_out page (first + 1) n (λ h. omega (arith, out (omega (arith, h)))) in
    rw (t, rest) (omega arith)

abbrev place_of : ℕ → List ℕ → Option ℕ
place_of page pages = position (λ p. p == page) pages

place_is : (page : ℕ) (pages : List ℕ) (n : ℕ) → before page pages ≡ n → n < length pages → place_of page pages ≡ Some n
place_is page pages n e below =
    let t : nat_lt n (length pages) ≡ true = grind (arith, nat_tests) in rw (e, t) refl

before_both : (page : ℕ) (xs ys : List ℕ) → before page (xs ++ ys) ≡ cond (nat_eq (before page xs) (length xs)) (length xs + before page ys) (before page xs)
before_both page xs ys = prefix_len-append (λ p. not (p == page)) xs ys

place_in : (page : ℕ) (xs ys : List ℕ) (n : ℕ) → before page xs ≡ n → n < length xs → place_of page (xs ++ ys) ≡ Some n
place_in page xs ys n e below =
    let t : nat_eq n (length xs) ≡ false = grind (arith, nat_tests) in
    place_is page (xs ++ ys) n (before_both page xs ys ∙ rw (e, t) refl) (omega (arith, length-append xs ys))

shifted : (k n m : ℕ) → cond (nat_lt (k + n) (k + m)) (Some (k + n)) None ≡ option_map (λ x. k + x) (cond (nat_lt n m) (Some n) None)
shifted k n m = elim (cases_lt n m) [
  | inl below ↦
      let t : nat_lt n m ≡ true = grind (arith, nat_tests) in
      let u : nat_lt (k + n) (k + m) ≡ true = grind (arith, nat_tests) in
      rw (t, u) refl
  | inr past ↦
      let t : nat_lt n m ≡ false = grind (arith, nat_tests) in
      let u : nat_lt (k + n) (k + m) ≡ false = grind (arith, nat_tests) in
      rw (t, u) refl
]

place_after : (page : ℕ) (xs ys : List ℕ) (n : ℕ) → before page xs ≡ n → length xs ≡ n → place_of page (xs ++ ys) ≡ option_map (λ x. n + x) (place_of page ys)
place_after page xs ys n e size =
    let t : nat_eq n n ≡ true = grind (arith, nat_tests) in
    let both : before page (xs ++ ys) ≡ n + before page ys = before_both page xs ys ∙ rw (e, size, t) refl in
    let sizes : length (xs ++ ys) ≡ n + length ys = omega (arith, length-append xs ys) in
    rw (both, sizes) (shifted n (before page ys) (length ys))

pub block_none : (page : ℕ) → block_of [] page ≡ None
unfolding block_of writable_pages
block_none page = refl

pub block_skipped : (area : Area) (areas : List Area) (page : ℕ) → is_writable area ≡ false → block_of (area ∷ areas) page ≡ block_of areas page
unfolding block_of writable_pages
block_skipped area areas page h = rw h refl

pub block_here : (area : Area) (areas : List Area) (page : ℕ) → is_writable area ≡ true → has_page area page ≡ true → block_of (area ∷ areas) page ≡ Some (page - area.first)
unfolding block_of writable_pages has_page
block_here area areas page writable has =
    let low : area.first ≤ page = grind (arith, nat_tests) in
    let high : page < area.first + area.pages = grind (arith, nat_tests) in
    let size = length-range_with_len area.first area.pages in
    rw writable (place_in page (pages_of area) (writable_pages areas) (page - area.first) (before_in page area.first area.pages low high) (omega arith))

pub block_later : (area : Area) (areas : List Area) (page : ℕ) → is_writable area ≡ true → has_page area page ≡ false → block_of (area ∷ areas) page ≡ option_map (λ n. area.pages + n) (block_of areas page)
unfolding block_of writable_pages has_page
block_later area areas page writable has =
    let out : area.first ≤ page → area.first + area.pages ≤ page = grind (arith, nat_tests) in
    rw writable (place_after page (pages_of area) (writable_pages areas) area.pages (before_out page area.first area.pages out) (length-range_with_len area.first area.pages))

page_at : (pages : List ℕ) (page block : ℕ) → place_of page pages ≡ Some block → slice_get pages block ≡ Some page
page_at pages page block e =
    let found = position-Some (λ p. p == page) pages block 0 e in
    slice_get-get_or pages block 0 found.0 ∙ ap Some (eqb-true _ _ found.1)

pub block_page : (areas : List Area) (page : ℕ) (found : Option ℕ) → found ≡ block_of areas page → IfSome found (λ block. page_of_block areas block ≡ Some page)
unfolding block_of page_of_block
block_page areas page None e = tt
block_page areas page (Some block) e = page_at (writable_pages areas) page block (sym e)

-- what the blocks of the areas from a place on say of a page, when so many blocks stand before them
pub later_none : (rank page : ℕ) (all : Option ℕ) → option_map (λ n. rank + n) (block_of [] page) ≡ all → None ≡ all
later_none rank page all e = sym (rw (block_none page) refl) ∙ e

pub later_here : (area : Area) (areas : List Area) (rank page : ℕ) (all : Option ℕ) → is_writable area ≡ true → has_page area page ≡ true → option_map (λ n. rank + n) (block_of (area ∷ areas) page) ≡ all → Some (rank + (page - area.first)) ≡ all
later_here area areas rank page all writable has e = sym (rw (block_here area areas page writable has) refl) ∙ e

pub later_skipped : (area : Area) (areas : List Area) (rank page : ℕ) (all : Option ℕ) → is_writable area ≡ false → option_map (λ n. rank + n) (block_of (area ∷ areas) page) ≡ all → option_map (λ n. rank + n) (block_of areas page) ≡ all
later_skipped area areas rank page all h e = rw (block_skipped area areas page h) at e

added_twice : (rank more : ℕ) (o : Option ℕ) → option_map (λ n. (rank + more) + n) o ≡ option_map (λ n. rank + n) (option_map (λ n. more + n) o)
added_twice rank more None = refl
added_twice rank more (Some n) = ap Some (omega arith)

pub later_after : (area : Area) (areas : List Area) (rank page : ℕ) (all : Option ℕ) → is_writable area ≡ true → has_page area page ≡ false → option_map (λ n. rank + n) (block_of (area ∷ areas) page) ≡ all → option_map (λ n. (rank + area.pages) + n) (block_of areas page) ≡ all
later_after area areas rank page all writable has e =
    added_twice rank area.pages (block_of areas page) ∙ sym (rw (block_later area areas page writable has) refl) ∙ e
