-- The table that a space keeps beside its areas: a protection code for each page that an area may have.
use Rattle.std.specs.Prelude.{◌≡◌, ◌≢◌, ℕ, ◌+◌, ◌-◌, ◌≤◌, ◌&&◌, if◌then◌else◌, nat_lt, nat_le, Option, Some, None, unwrap_or, List, length, slice_index}
use Rattle.vax_space.specs.declared.Area.{Area}
use Rattle.vax_space.specs.Areas.{prot_of}
use Rattle.vax_space.specs.Faults.{IsSpace}

-- a page's place in the table: P0's pages, then P1's and the system region's, which follow each other
unfoldable pub slot : ℕ → Option ℕ
slot page =
    if nat_lt page 0x8000 then Some page
    else (if nat_le 0x3F8000 page && nat_lt page 0x401000 then Some (page - 0x3F0000) else None)

-- the place of a page that has one
abbrev pub place_of : ℕ → ℕ
place_of page = if nat_lt page 0x8000 then page else (page - 0x3F0000)

-- the pages of an area have its code, and all other places are as before
pub record IsPainted (area : Area) (old new : List ℕ) : Type 0 where
  pub code : (place : ℕ) → slice_index new place ≡
      (if nat_le (place_of area.first) place && nat_lt place (place_of area.first + area.pages) then area.prot else slice_index old place)

-- a page of no area has the reserved code 1
pub record Maps (codes : List ℕ) (areas : List Area) : Type 0 where
  pub size : length codes ≡ 69632
  pub code : (page place : ℕ) → slot page ≡ Some place → slice_index codes place ≡ unwrap_or (prot_of areas page) 1
  pub outside : (page : ℕ) → slot page ≡ None → prot_of areas page ≡ None
  pub valid : (place : ℕ) → slice_index codes place ≤ 15
  pub named : (page : ℕ) → prot_of areas page ≢ Some 1

-- what a space keeps
pub record IsBuilt (areas : List Area) (codes : List ℕ) : Type 0 where
  pub sound : IsSpace areas
  pub maps : Maps codes areas
