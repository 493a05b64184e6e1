-- Going over the areas from the first: the one at a place, and those behind it.
use Rattle.std.proofs.Common.{◌≡◌, ℕ, suc, ◌+◌, ◌<◌, ◌≤◌, true, false, List, [], ◌∷◌, length, refl, ◌∙◌, ap, sym, arith, get_or, drop, add-one, max, min, Some, None}
use Rattle.std.proofs.lemmas.List.{drop_all}
use Rattle.std.proofs.lemmas.Bool.Decides.{nat_tests}
use Rattle.std.proofs.lemmas.Option.{slice_get_read}
use Rattle.std.proofs.Math.Seq.{drop-cons}
use Rattle.vax_space.specs.declared.Area.{Area}
use Rattle.vax_space.specs.Areas.{end_of, has_page, area_of}
use Rattle.vax_space.specs.Faults.{IsSpace, end_before, is_placed, is_protection}
use Rattle.vax_space.specs.Reference.{program_end, control_start, end_in_program, start_in_control}
use Rattle.std.specs.Prelude.{slice_get, if◌then◌else◌, nat_le, ◌-◌}
use Rattle.vax_space.proofs.AreaFaults.{placed_some, placed_low, placed_high, Fits, fits_here, placed_end, end_here}

pub rest_at : (areas : List Area) (i : ℕ) (area : Area) → i < length areas → area ≡ get_or areas i area → drop i areas ≡ area ∷ drop (i + 1) areas
rest_at areas i area below is = rw add-one (drop-cons areas i area below ∙ ap (λ a. a ∷ drop (suc i) areas) (sym is))

pub fits_at : (areas : List Area) (i : ℕ) (area : Area) → IsSpace areas → i < length areas → area ≡ get_or areas i area → Fits (end_before areas i) area
fits_at areas i area space below is = fits_here areas i area space (slice_get_read areas (length areas) i area refl below is)

pub end_at : (areas : List Area) (i : ℕ) (area : Area) → i < length areas → area ≡ get_or areas i area → end_before areas (i + 1) ≡ end_of area
end_at areas i area below is = rw add-one (end_here areas i area (slice_get_read areas (length areas) i area refl below is))

pub area_end : (areas : List Area) (i : ℕ) (area : Area) → IsSpace areas → i < length areas → area ≡ get_or areas i area → end_of area ≤ 0x401000
area_end areas i area space below is = placed_end area (fits_at areas i area space below is).placed

pub none_left : (areas : List Area) (i : ℕ) → length areas ≤ i → drop i areas ≡ []
none_left areas i past = drop_all i areas past

pub program_more : (area : Area) (areas : List Area) (end all : ℕ) → max end (program_end (area ∷ areas)) ≡ all → max (max end (end_in_program area)) (program_end areas) ≡ all
unfolding program_end
program_more area areas end all e = omega arith

pub program_none : (end all : ℕ) → max end (program_end []) ≡ all → end ≡ all
unfolding program_end
program_none end all e = omega arith

pub control_more : (area : Area) (areas : List Area) (start all : ℕ) → min start (control_start (area ∷ areas)) ≡ all → min (min start (start_in_control area)) (control_start areas) ≡ all
unfolding control_start
control_more area areas start all e = omega arith

pub control_none : (start all : ℕ) → start ≤ 0x400000 → min start (control_start []) ≡ all → start ≡ all
unfolding control_start
control_none start all small e = omega arith

pub control_small : (areas : List Area) → control_start areas ≤ 0x400000
unfolding control_start
control_small [] = omega arith
control_small (area ∷ areas) = omega (arith, control_small areas)

pub area_here : (area : Area) (areas : List Area) (page : ℕ) → has_page area page ≡ true → area_of (area ∷ areas) page ≡ Some area
unfolding area_of
area_here area areas page h = rw h refl

pub area_later : (area : Area) (areas : List Area) (page : ℕ) → has_page area page ≡ false → area_of (area ∷ areas) page ≡ area_of areas page
unfolding area_of
area_later area areas page h = rw h refl

pub area_none : (page : ℕ) → area_of [] page ≡ None
unfolding area_of
area_none page = refl

pub has_first : (area : Area) (page : ℕ) → has_page area page ≡ true → area.first ≤ page
unfolding has_page
has_first area page h = grind (arith, nat_tests)

pub has_last : (area : Area) (page : ℕ) → has_page area page ≡ true → page < end_of area
unfolding has_page
has_last area page h = grind (arith, nat_tests)

pub prot_small : (low : ℕ) (area : Area) → Fits low area → area.prot ≤ 15
unfolding is_protection
prot_small low area fits = let h = fits.prot in grind (arith, nat_tests)

-- the lengths of the regions are within them
program_placed : (areas : List Area) → ((k : ℕ) (area : Area) → slice_get areas k ≡ Some area → is_placed area ≡ true) → program_end areas ≤ 0x8000
unfolding program_end
program_placed [] placed = omega arith
program_placed (area ∷ areas) placed =
    let low = placed_low area (placed 0 area refl) in
    let high = placed_high area (placed 0 area refl) in
    let rest = program_placed areas (λ k a h. placed (suc k) a h) in
    let here : end_in_program area ≤ 0x8000 = grind (arith, nat_tests) in
    omega arith

control_placed : (areas : List Area) → ((k : ℕ) (area : Area) → slice_get areas k ≡ Some area → is_placed area ≡ true) → 0x3F8000 ≤ control_start areas
unfolding control_start
control_placed [] placed = omega arith
control_placed (area ∷ areas) placed =
    let high = placed_high area (placed 0 area refl) in
    let rest = control_placed areas (λ k a h. placed (suc k) a h) in
    let here : 0x3F8000 ≤ start_in_control area = grind (arith, nat_tests) in
    omega arith

pub program_small : (areas : List Area) → IsSpace areas → program_end areas ≤ 0x8000
program_small areas space = program_placed areas (λ k area h. (fits_here areas k area space h).placed)

pub control_large : (areas : List Area) → IsSpace areas → 0x3F8000 ≤ control_start areas
control_large areas space = control_placed areas (λ k area h. (fits_here areas k area space h).placed)

-- how many pages that an area may have lie below a page, at the end of an area
unfoldable pub reach : ℕ → ℕ
reach end = if nat_le end 0x8000 then end else (end - 0x3F0000)

-- an area adds its pages to those below it
reach_more : (low : ℕ) (area : Area) → Fits low area → reach low + area.pages ≤ reach (end_of area)
unfolding reach
reach_more low area fits =
    let order = fits.order in
    let some = placed_some area fits.placed in
    let program = placed_low area fits.placed in
    let high = placed_high area fits.placed in
    grind (arith, nat_tests)

reach_end : (low : ℕ) (area : Area) → Fits low area → reach (end_of area) ≤ 69632
unfolding reach
reach_end low area fits =
    let end = placed_end area fits.placed in
    grind (arith, nat_tests)

pub record Reaches (areas : List Area) (i : ℕ) (area : Area) : Type 0 where
  pub more : reach (end_before areas i) + area.pages ≤ reach (end_before areas (i + 1))
  pub end : reach (end_before areas (i + 1)) ≤ 69632

pub reach_at : (areas : List Area) (i : ℕ) (area : Area) → IsSpace areas → i < length areas → area ≡ get_or areas i area → Reaches areas i area
reach_at areas i area space below is =
    let fits = fits_at areas i area space below is in
    let end = end_at areas i area below is in
    record { more = rw end (reach_more _ area fits); end = rw end (reach_end _ area fits) }
