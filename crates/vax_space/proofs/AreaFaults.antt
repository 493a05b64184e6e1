-- What an area that is not at fault satisfies.
use Rattle.std.proofs.Common.{◌≡◌, ℕ, suc, ◌*◌, ◌<◌, ◌≤◌, true, Some, None, List, length, refl, ◌∙◌, sym, arith}
use Rattle.std.specs.Prelude.{slice_get}
use Rattle.std.proofs.lemmas.Bool.{ltb-true, and_parts}
use Rattle.std.proofs.lemmas.Bool.Decides.{nat_tests}
use Rattle.std.proofs.lemmas.Option.{slice_get_past}
use Rattle.vax_space.specs.declared.Area.{Area}
use Rattle.vax_space.specs.Areas.{end_of}
use Rattle.vax_space.specs.Faults.{is_placed, is_protection, fault_of, fault_at, end_before, IsSpace}

pub placed_some : (area : Area) → is_placed area ≡ true → 0 < area.pages
unfolding is_placed
placed_some area h = ltb-true _ _ (and_parts _ _ h).0

pub placed_low : (area : Area) → is_placed area ≡ true → area.first < 0x8000 → end_of area ≤ 0x8000
unfolding is_placed
placed_low area h low = grind (arith, nat_tests)

pub placed_high : (area : Area) → is_placed area ≡ true → 0x8000 ≤ area.first → 0x3F8000 ≤ area.first
unfolding is_placed
placed_high area h high = grind (arith, nat_tests)

pub placed_end : (area : Area) → is_placed area ≡ true → end_of area ≤ 0x401000
unfolding is_placed
placed_end area h = grind (arith, nat_tests)

-- an area without a fault
pub record Fits (low : ℕ) (area : Area) : Type 0 where
  pub order : low ≤ area.first
  pub placed : is_placed area ≡ true
  pub prot : is_protection area.prot ≡ true
  pub bytes : length area.bytes ≤ 512 * area.pages

pub fits_from : (low place : ℕ) (area : Area) → fault_of low place area ≡ None → Fits low area
unfolding fault_of
fits_from low place area h = record {
  order = grind (arith, nat_tests);
  placed = grind (arith, nat_tests);
  prot = grind (arith, nat_tests);
  bytes = grind (arith, nat_tests);
}

pub fault_here : (areas : List Area) (place : ℕ) (area : Area) → slice_get areas place ≡ Some area → fault_at areas place ≡ fault_of (end_before areas place) place area
unfolding fault_at
fault_here areas place area h = rw h refl

pub end_here : (areas : List Area) (place : ℕ) (area : Area) → slice_get areas place ≡ Some area → end_before areas (suc place) ≡ end_of area
end_here areas place area h = rw h refl

pub fault_past : (areas : List Area) (place : ℕ) → length areas ≤ place → fault_at areas place ≡ None
unfolding fault_at
fault_past areas place h = rw (slice_get_past areas place h) refl

pub fits_here : (areas : List Area) (place : ℕ) (area : Area) → IsSpace areas → slice_get areas place ≡ Some area → Fits (end_before areas place) area
fits_here areas place area space h = fits_from _ place area (sym (fault_here areas place area h) ∙ space.sound place)
