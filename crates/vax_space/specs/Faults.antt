-- Which lists of areas are spaces.
use Rattle.std.specs.Prelude.{◌≡◌, ℕ, zero, suc, ◌*◌, ◌<◌, Bool, not, ◌&&◌, ◌||◌, ◌==◌, if◌then◌else◌, nat_lt, nat_le, Option, Some, None, option_map, unwrap_or, option_and_then, List, length, slice_get}
use Rattle.vax_space.specs.declared.Area.{Area}
use Rattle.vax_space.specs.declared.SpaceError.{SpaceError}
use Rattle.vax_space.specs.declared.SpaceError.TheVariants.{Order, Range, Prot, Length}
use Rattle.vax_space.specs.Areas.{end_of}

abbrev pub is_between : ℕ → ℕ → Area → Bool
is_between low high area = nat_le low area.first && nat_le (end_of area) high

-- it has a page, and lies in the program, the control or the system region
-- (the first 32,768 pages of P0, the last 32,768 of P1, the first 4,096 of the system region)
unfoldable pub is_placed : Area → Bool
is_placed area =
    nat_lt 0 area.pages
    && (is_between 0 0x8000 area || is_between 0x3F8000 0x400000 area || is_between 0x400000 0x401000 area)

unfoldable pub is_protection : ℕ → Bool
is_protection code = nat_lt code 16 && not (code == 1)

-- the page at which the area before the one at this place ends
abbrev pub end_before : List Area → ℕ → ℕ
end_before areas zero = 0
end_before areas (suc place) = unwrap_or (option_map end_of (slice_get areas place)) 0

-- the fault of an area that stands at a place, behind one that ends at page `low`
unfoldable pub fault_of : ℕ → ℕ → Area → Option SpaceError
fault_of low place area =
    if nat_lt area.first low then Some (Order place)
    else (if not (is_placed area) then Some (Range place)
    else (if not (is_protection area.prot) then Some (Prot place)
    else (if nat_lt (512 * area.pages) (length area.bytes) then Some (Length place)
    else None)))

unfoldable pub fault_at : List Area → ℕ → Option SpaceError
fault_at areas place = option_and_then (fault_of (end_before areas place) place) (slice_get areas place)

pub record IsFirstFault (areas : List Area) (error : SpaceError) : Type 0 where
  pub place : ℕ
  pub here : fault_at areas place ≡ Some error
  pub before : (k : ℕ) → k < place → fault_at areas k ≡ None

-- no area is at fault
pub record IsSpace (areas : List Area) : Type 0 where
  pub sound : (place : ℕ) → fault_at areas place ≡ None
