-- Violations depend on the areas alone, and not on their bytes.
use Rattle.std.proofs.Common.{◌≡◌, ℕ, suc, zero, List, [], ◌∷◌, refl, sym, ap, ◌∙◌, inl, inr}
use Rattle.std.proofs.lemmas.Bool.{cases_Bool}
use Rattle.vax_space.specs.declared.Access.{Access}
use Rattle.vax_space.specs.declared.Area.{Area}
use Rattle.vax_space.specs.Areas.{has_page, area_of, prot_of}
use Rattle.vax_space.specs.Reference.{may_access, permitted, program_end, control_start, is_past_region, violation, page_of, byte_after}
use Rattle.vax_flat.specs.Port.{layout}

has_page-layout : (area : Area) (page : ℕ) → has_page (record area { bytes = [] }) page ≡ has_page area page
unfolding has_page
has_page-layout area page = refl

pub prot_of-layout : (areas : List Area) (page : ℕ) → prot_of (layout areas) page ≡ prot_of areas page
unfolding prot_of area_of layout has_page
prot_of-layout [] page = refl
prot_of-layout (area ∷ areas) page =
    elim (cases_Bool (has_page area page)) [
      | inl here ↦ rw here refl
      | inr other ↦ rw other (prot_of-layout areas page)
    ]

pub program_end-layout : (areas : List Area) → program_end (layout areas) ≡ program_end areas
unfolding program_end layout
program_end-layout [] = refl
program_end-layout (area ∷ areas) = rw (program_end-layout areas) refl

pub control_start-layout : (areas : List Area) → control_start (layout areas) ≡ control_start areas
unfolding control_start layout
control_start-layout [] = refl
control_start-layout (area ∷ areas) = rw (control_start-layout areas) refl

is_past_region-layout : (areas : List Area) (page : ℕ) → is_past_region (layout areas) page ≡ is_past_region areas page
unfolding is_past_region
is_past_region-layout areas page = rw (program_end-layout areas, control_start-layout areas) refl

may_access-layout : (areas : List Area) (page mode : ℕ) (access : Access) → may_access (layout areas) page mode access ≡ may_access areas page mode access
unfolding may_access
may_access-layout areas page mode access = ap (λ prot. permitted prot mode access) (prot_of-layout areas page)

pub violation-layout : (areas : List Area) (addr len mode : ℕ) (access : Access) → violation (layout areas) addr len mode access ≡ violation areas addr len mode access
unfolding violation
violation-layout areas addr zero mode access = refl
violation-layout areas addr (suc len) mode access =
    rw (may_access-layout areas (page_of addr) mode access, violation-layout areas (byte_after addr 1) len mode access, is_past_region-layout areas (page_of addr)) refl

-- two lists of areas with one layout have the same violations
pub violation-alike : (a b : List Area) (addr len mode : ℕ) (access : Access) → layout a ≡ layout b → violation a addr len mode access ≡ violation b addr len mode access
violation-alike a b addr len mode access same =
    sym (violation-layout a addr len mode access) ∙ (ap (λ areas. violation areas addr len mode access) same ∙ violation-layout b addr len mode access)
