-- What a mode may do to pages, and that it may do all to the areas that have their bytes.
use Rattle.std.proofs.Common.{◌≡◌, ◌≤◌, ◌+◌, ℕ, zero, suc, true, ◌==◌, Option, Some, None, List, [], ◌∷◌, map, refl, sym, ap, ◌∙◌, arith, inl, inr}
use Rattle.std.specs.Prelude.{is_some, ◌&&◌, nat_le, nat_lt}
use Rattle.std.proofs.lemmas.Bool.{cases_Bool}
use Rattle.vax_space.specs.declared.Access.{Access}
use Rattle.vax_space.specs.declared.Area.{Area}
use Rattle.vax_space.specs.Areas.{area_of, has_page, prot_of}
use Rattle.vax_space.specs.Protection.{allows, right_of}
use Rattle.vax_space.specs.Reference.{byte_after, may_access, page_of, violation, violation_at}
use Rattle.vax_space.specs.declared.Violation.{Violation}
use Rattle.vax_flat.specs.declared.Stop.{Stop}
use Rattle.vax_flat.specs.Port.{View, first_absent, stop, stop_of, unless_cut}
use Rattle.vax_vectors.specs.declared.vector.Page.{Page}
use Rattle.vax_vector_memory.specs.Pages.{guarded, has_number, unguarded}

pub one_page : (number n : ℕ) → (nat_le number n && nat_lt n (number + 1)) ≡ (n == number)
one_page number n = grind arith

-- the areas have just these pages
pub mapped : (pages : List Page) (n : ℕ) → is_some (area_of (map unguarded pages) n) ≡ has_number pages n
unfolding area_of has_page has_number
mapped [] n = refl
mapped (page ∷ pages) n =
    elim (cases_Bool (n == page.number)) [
      | inl here ↦ rw (one_page page.number n, here) refl
      | inr other ↦ rw (one_page page.number n, other) (mapped pages n)
    ]

pub mapped_guarded : (pages : List Page) (n : ℕ) → is_some (area_of (map guarded pages) n) ≡ has_number pages n
unfolding area_of has_page has_number
mapped_guarded [] n = refl
mapped_guarded (page ∷ pages) n =
    elim (cases_Bool (n == page.number)) [
      | inl here ↦ rw (one_page page.number n, here) refl
      | inr other ↦ rw (one_page page.number n, other) (mapped_guarded pages n)
    ]

allows_all : (mode : ℕ) (access : Access) → mode ≤ 3 → allows 4 mode access ≡ true
unfolding allows right_of
allows_all zero access small = refl
allows_all (suc zero) access small = refl
allows_all (suc (suc zero)) access small = refl
allows_all (suc (suc (suc zero))) access small = refl
allows_all (suc (suc (suc (suc mode)))) access small = absurd (omega arith)

may_more : (pages : List Page) (n mode : ℕ) (access : Access) → mode ≤ 3 → may_access (map guarded pages) n mode access ≡ true → may_access (map unguarded pages) n mode access ≡ true
unfolding may_access prot_of area_of has_page
may_more [] n mode access small h = absurd (cc)
may_more (page ∷ pages) n mode access small h =
    elim (cases_Bool (nat_le page.number n && nat_lt n (page.number + 1))) [
      | inl here ↦ rw here (allows_all mode access small)
      | inr other ↦
          let rest : may_access (map guarded pages) n mode access ≡ true = rw other at h in
          rw other (may_more pages n mode access small rest)
    ]

-- what may be done to the pages may be done to the areas that have their bytes
pub free : (pages : List Page) (addr len mode : ℕ) (access : Access) → mode ≤ 3 → violation (map guarded pages) addr len mode access ≡ None → violation (map unguarded pages) addr len mode access ≡ None
unfolding violation
free pages addr zero mode access small e = refl
free pages addr (suc len) mode access small e =
    elim (cases_Bool (may_access (map guarded pages) (page_of addr) mode access)) [
      | inl may ↦
          let rest : violation (map guarded pages) (byte_after addr 1) len mode access ≡ None = rw may at e in
          rw (may_more pages (page_of addr) mode access small may) (free pages (byte_after addr 1) len mode access small rest)
      | inr gone ↦
          let wrong : Some (violation_at (map guarded pages) addr access) ≡ None = rw gone at e in
          absurd (cc)
    ]

-- both have the same pages
pub same_pages : (pages : List Page) (all own : List Area) (n : ℕ) → all ≡ map unguarded pages → own ≡ map guarded pages → is_some (area_of all n) ≡ is_some (area_of own n)
same_pages pages all own n is_all is_own =
    ap (λ (list : List Area). is_some (area_of list n)) is_all
    ∙ (mapped pages n ∙ (sym (mapped_guarded pages n) ∙ sym (ap (λ (list : List Area). is_some (area_of list n)) is_own)))

-- where a mode may access the pages, what stops it stops it at both
pub stops_alike : (pages : List Page) (view : View) (own : List Area) (addr len mode : ℕ) (access : Access) → view.areas ≡ map unguarded pages → own ≡ map guarded pages → mode ≤ 3
    → None ≡ violation own addr len mode access → stop view addr len mode access ≡ stop (record view { areas = own }) addr len mode access
stops_alike pages view own addr len mode access is_all is_own small none =
    let own_free : violation (map guarded pages) addr len mode access ≡ None = sym (none ∙ ap (λ (list : List Area). violation list addr len mode access) is_own) in
    let same : violation view.areas addr len mode access ≡ violation own addr len mode access =
    ap (λ (list : List Area). violation list addr len mode access) is_all ∙ (free pages addr len mode access small own_free ∙ none) in
    ap (λ (v : Option Violation). stop_of v (first_absent view.resident addr len)) same

-- what a write leaves, by other areas
pub cut_alike : (s t : Option Stop) (old new after : View) (own : List Area) → s ≡ t → after ≡ unless_cut s old new → record after { areas = own } ≡ unless_cut t (record old { areas = own }) (record new { areas = own })
cut_alike s t old new after own same is =
    ap (λ (v : View). record v { areas = own }) is ∙ (by s ∙ ap (λ (u : Option Stop). unless_cut u (record old { areas = own }) (record new { areas = own })) same)
  where
    by : (s : Option Stop) → record (unless_cut s old new) { areas = own } ≡ unless_cut s (record old { areas = own }) (record new { areas = own })
    by (Some stop) = refl
    by None = refl
