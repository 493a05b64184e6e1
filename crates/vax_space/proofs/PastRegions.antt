-- A page past the length of its region is in no area.
use Rattle.std.proofs.Common.{◌≡◌, ℕ, suc, ◌≤◌, Bool, true, false, List, [], ◌∷◌, refl, ◌∙◌, ap, sym, inl, inr, arith, nat_lt, nat_le, Some, None}
use Rattle.std.specs.Prelude.{slice_get, option_map, if◌then◌else◌}
use Rattle.std.proofs.lemmas.Bool.{cases_Bool}
use Rattle.std.proofs.lemmas.Bool.Decides.{nat_tests}
use Rattle.std.proofs.lemmas.Option.{none-some, same_Some}
use Rattle.vax_space.specs.declared.Area.{Area}
use Rattle.vax_space.specs.Areas.{has_page, area_of, prot_of}
use Rattle.vax_space.specs.Faults.{IsSpace, is_placed, is_protection}
use Rattle.vax_space.specs.Reference.{program_end, control_start, end_in_program, start_in_control, is_past_region}
use Rattle.vax_space.proofs.AreaFaults.{placed_low, placed_high, placed_end, fits_here}
use Rattle.vax_space.proofs.Extents.{area_here, area_later, area_none}

-- the page lies past regions of these lengths
abbrev pub is_past : ℕ → ℕ → ℕ → Bool
is_past program control page =
    if nat_lt page 0x200000 then nat_le program page
    else (if nat_lt page 0x400000 then nat_lt page control else nat_le 0x401200 page)

past_area : (area : Area) (program control page : ℕ) → is_placed area ≡ true → end_in_program area ≤ program → control ≤ start_in_control area → is_past program control page ≡ true → has_page area page ≡ false
unfolding has_page
past_area area program control page placed ends starts past =
    let low = placed_low area placed in
    let high = placed_high area placed in
    let end = placed_end area placed in
    grind (arith, nat_tests)

past_all : (areas : List Area) (program control page : ℕ) → ((k : ℕ) (area : Area) → slice_get areas k ≡ Some area → is_placed area ≡ true) → program_end areas ≤ program → control ≤ control_start areas → is_past program control page ≡ true → area_of areas page ≡ None
unfolding program_end control_start
past_all [] program control page placed ends starts past = area_none page
past_all (area ∷ areas) program control page placed ends starts past =
    area_later area areas page (past_area area program control page (placed 0 area refl) (omega arith) (omega arith) past)
    ∙ past_all areas program control page (λ k a h. placed (suc k) a h) (omega arith) (omega arith) past

pub past_has_none : (areas : List Area) (page : ℕ) → IsSpace areas → is_past_region areas page ≡ true → prot_of areas page ≡ None
unfolding is_past_region prot_of
past_has_none areas page space past =
    rw (past_all areas (program_end areas) (control_start areas) page (λ k area h. (fits_here areas k area space h).placed) (omega arith) (omega arith) past) refl

-- no area has a page of the process page tables
table_area : (area : Area) (page : ℕ) → is_placed area ≡ true → 0x401000 ≤ page → has_page area page ≡ false
unfolding has_page
table_area area page placed high = let end = placed_end area placed in grind (arith, nat_tests)

table_all : (areas : List Area) (page : ℕ) → ((k : ℕ) (area : Area) → slice_get areas k ≡ Some area → is_placed area ≡ true) → 0x401000 ≤ page → area_of areas page ≡ None
table_all [] page placed high = area_none page
table_all (area ∷ areas) page placed high =
    area_later area areas page (table_area area page (placed 0 area refl) high) ∙ table_all areas page (λ k a h. placed (suc k) a h) high

pub tables_have_none : (areas : List Area) (page : ℕ) → IsSpace areas → 0x401000 ≤ page → prot_of areas page ≡ None
unfolding prot_of
tables_have_none areas page space high =
    rw (table_all areas page (λ k area h. (fits_here areas k area space h).placed) high) refl

-- an area's protection code is a valid one
protection_all : (areas : List Area) (page code : ℕ) → ((k : ℕ) (area : Area) → slice_get areas k ≡ Some area → is_protection area.prot ≡ true) → option_map (λ area. area.prot) (area_of areas page) ≡ Some code → is_protection code ≡ true
protection_all [] page code valid e = absurd (none-some code (sym (ap (option_map (λ area. area.prot)) (area_none page)) ∙ e))
protection_all (area ∷ areas) page code valid e = elim (cases_Bool (has_page area page)) [
  | inl here ↦ ap is_protection (sym (same_Some _ _ (sym (ap (option_map (λ area. area.prot)) (area_here area areas page here)) ∙ e))) ∙ valid 0 area refl
  | inr later ↦ protection_all areas page code (λ k a h. valid (suc k) a h) (sym (ap (option_map (λ area. area.prot)) (area_later area areas page later)) ∙ e)
]

pub prot_valid : (areas : List Area) (page code : ℕ) → IsSpace areas → prot_of areas page ≡ Some code → is_protection code ≡ true
unfolding prot_of
prot_valid areas page code space e = protection_all areas page code (λ k area h. (fits_here areas k area space h).prot) e

pub prot_bounds : (code : ℕ) → is_protection code ≡ true → (code ≤ 15) × (code ≡ 1 → ⊥)
unfolding is_protection
prot_bounds code h = (grind (arith, nat_tests), λ e. grind (arith, nat_tests))
