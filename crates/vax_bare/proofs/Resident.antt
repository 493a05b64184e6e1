-- Memory with all pages of its areas resident.
use Rattle.std.proofs.Common.{◌≡◌, ℕ, Bool, true, List, [], ◌∷◌, refl, sym, ◌∙◌, inl, inr, ap, Result, Ok, Err}
use Rattle.std.proofs.lemmas.Bool.{cases_Bool}
use Rattle.std.specs.Prelude.{is_some, IfOk}
use Rattle.vax_space.specs.declared.Area.{Area}
use Rattle.vax_space.specs.Areas.{has_page, area_of}
use Rattle.vax_flat.specs.Memory.{is_mapped, AllResident}
use Rattle.vax_space.specs.declared.NoMemory.{NoMemory}
use Rattle.vax_undo.specs.declared.plain.Plain.{Plain}
use Rattle.vax_undo.specs.Plain.{view_of}

mapped_has_area : (areas : List Area) (page : ℕ) → is_mapped areas page ≡ true → is_some (area_of areas page) ≡ true
unfolding is_mapped area_of
mapped_has_area [] page h = cc
mapped_has_area (area ∷ areas) page h =
    elim (cases_Bool (has_page area page)) [
      | inl here ↦ rw here refl
      | inr other ↦ let rest : is_mapped areas page ≡ true = rw other at h in rw other (mapped_has_area areas page rest)
    ]

all_resident : (resident : ℕ → Bool) (areas space : List Area) → areas ≡ space → ((page : ℕ) → resident page ≡ is_some (area_of space page)) → AllResident resident areas
all_resident resident areas space same is = λ page h. is page ∙ mapped_has_area space page (ap (λ a. is_mapped a page) (sym same) ∙ h)

-- new plain memory has all pages resident
pub all_resident_at_start : (space : List Area) (r : Result Plain NoMemory) → IfOk r (λ p. (view_of p).areas ≡ space) → IfOk r (λ p. (page : ℕ) → (view_of p).resident page ≡ is_some (area_of space page)) → IfOk r (λ p. AllResident (view_of p).resident (view_of p).areas)
all_resident_at_start space (Ok p) same is = all_resident (view_of p).resident (view_of p).areas space same is
all_resident_at_start space (Err e) same is = tt
