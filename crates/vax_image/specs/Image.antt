-- Which programs are images: where their areas may lie, and where they begin.
use Rattle.std.specs.Prelude.{◌≡◌, ℕ, ◌*◌, ◌<◌, ◌≤◌, Bool, true, List, [], ◌∷◌, length}
use Rattle.std.specs.List.{list_any}
use Rattle.vax_space.specs.declared.Area.{Area}
use Rattle.vax_space.specs.Areas.{end_of, has_page}
use Rattle.vax_space.specs.Faults.{is_protection}
use Rattle.vax_space.specs.Reference.{page_of}
use Rattle.vax_image.specs.declared.Base.{Base}
use Rattle.vax_image.specs.declared.Base.TheVariants.{Bare, User}
use Rattle.vax_image.specs.declared.Image.{Image}

-- the first page that an area may have: page 0 of P0 stays without memory, and system space begins at 80000000
abbrev pub first_page : Base → ℕ
first_page Bare = 0x400000
first_page User = 1

-- the page behind the last
abbrev pub end_page : Base → ℕ
end_page Bare = 0x400800
end_page User = 0x8000

-- an area that stands at page `low` or behind it
pub record IsAreaFrom (base : Base) (low : ℕ) (area : Area) : Type 0 where
  pub behind : low ≤ area.first
  pub some : 0 < area.pages
  pub within : end_of area ≤ end_page base
  pub code : is_protection area.prot ≡ true
  pub bytes : length area.bytes ≤ 512 * area.pages

-- each stands behind the one before it
abbrev pub AscendFrom : Base → ℕ → List Area → Type 0
AscendFrom region low [] = Unit {0}
AscendFrom region low (area ∷ areas) = IsAreaFrom region low area × AscendFrom region (end_of area) areas

-- some area has the byte at an address
abbrev pub is_in : List Area → ℕ → Bool
is_in areas addr = list_any (λ area. has_page area (page_of addr)) areas

-- it has 1 to 64 areas, which ascend within its part of memory, and begins in one of them
pub record IsImage (image : Image) : Type 0 where
  pub some : 0 < length image.areas
  pub few : length image.areas ≤ 64
  pub areas : AscendFrom image.base (first_page image.base) image.areas
  pub begins : is_in image.areas image.transfer ≡ true
