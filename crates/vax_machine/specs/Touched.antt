-- The pages that an attempt touches.
use Rattle.std.specs.Prelude.{ℕ, ◌≡◌, Bool, true, false, ◌||◌, List, [], ◌∷◌}
use Rattle.vax_flat.specs.Outcome.{Range}
use Rattle.vax_flat.specs.Parts.{Place, touches_at}
use Rattle.vax_flat.specs.Port.{is_in}
use Rattle.vax_pager.specs.Listing.{is_listed}
use Rattle.vax_machine.specs.Residence.{Residence}

-- one of the ranges has a byte in the page
unfoldable pub is_touched : ℕ → List Range → Bool
is_touched page [] = false
is_touched page (range ∷ ranges) = is_in range.addr range.len page || is_touched page ranges

-- the attempt that comes touches each page that is pinned
pub record PinsTouched (r : Residence) (place : Place) : Type 0 where
  pub touched : (page : ℕ) → is_listed page r.pinned ≡ true → is_touched page (touches_at place) ≡ true
