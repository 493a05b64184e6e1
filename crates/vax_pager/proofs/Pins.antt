-- A page that comes in is pinned behind those that are.
use Rattle.std.proofs.Common.{ℕ, ◌≡◌, List, [], ◌∷◌, ◌++◌, refl, ap, ◌∙◌, inl, inr}
use Rattle.std.proofs.lemmas.Bool.{cases_Bool}
use Rattle.vax_pager.specs.Calls.{after_flush}
use Rattle.vax_pager.specs.Listing.{is_listed}
use Rattle.vax_pager.specs.Paging.{Paging}
use Rattle.vax_pager.specs.Steps.{brought, flushed, forgotten, removed, taken_back}

flush_pins : (page : ℕ) (s : Paging) → (after_flush page s).pinned ≡ s.pinned
unfolding after_flush flushed
flush_pins page s = elim (cases_Bool (is_listed page s.modified)) [ inl t ↦ rw t refl | inr f ↦ rw f refl ]

pub pins_back : (page : ℕ) (s t : Paging) → t ≡ taken_back page s → t.pinned ≡ s.pinned ++ page ∷ []
unfolding taken_back
pins_back page s t e = ap (λ (z : Paging). z.pinned) e

pub pins_brought : (page : ℕ) (bytes : List ℕ) (s t : Paging) → t ≡ brought page bytes s → t.pinned ≡ s.pinned ++ page ∷ []
unfolding brought
pins_brought page bytes s t e = ap (λ (z : Paging). z.pinned) e

pub pins_kept : (page other : ℕ) (bytes : List ℕ) (s t : Paging) → t ≡ brought page bytes (forgotten other s) → t.pinned ≡ s.pinned ++ page ∷ []
unfolding brought forgotten
pins_kept page other bytes s t e = ap (λ (z : Paging). z.pinned) e

pub pins_victim : (page victim : ℕ) (bytes : List ℕ) (s t : Paging) → t ≡ brought page bytes (removed victim (after_flush victim s)) → t.pinned ≡ s.pinned ++ page ∷ []
unfolding brought removed
pins_victim page victim bytes s t e = ap (λ (z : Paging). z.pinned) e ∙ ap (λ (xs : List ℕ). xs ++ page ∷ []) (flush_pins victim s)
