-- The page for which a tree stops.
use Rattle.std.specs.Prelude.{◌≡◌, ℕ, true, false, is_some}
use Rattle.vax_space.specs.Areas.{area_of}
use Rattle.vax_flat.specs.Port.{View}

-- it is one of an area, and absent
abbrev pub IsMissing : View → ℕ → Type 0
IsMissing view page = (view.resident page ≡ false) × (is_some (area_of view.areas page) ≡ true)
