-- A space: its areas, in ascending order, and what they say of each page.
use Rattle.std.specs.Prelude.{ℕ, ◌+◌, ◌-◌, ◌*◌, Bool, ◌&&◌, ◌==◌, if◌then◌else◌, nat_lt, nat_le, Option, Some, None, option_map, List, [], ◌∷◌, ◌++◌, slice_index, slice_get}
use Rattle.std.specs.List.{range_with_len, position}
use Rattle.vax_space.specs.declared.Access.TheVariants.{Write}
use Rattle.vax_space.specs.declared.Area.{Area}
use Rattle.vax_space.specs.Protection.{allows}

-- the page after its last
abbrev pub end_of : Area → ℕ
end_of area = area.first + area.pages

unfoldable pub has_page : Area → ℕ → Bool
has_page area page = nat_le area.first page && nat_lt page (end_of area)

unfoldable pub area_of : List Area → ℕ → Option Area
area_of [] page = None
area_of (area ∷ areas) page = if has_page area page then Some area else area_of areas page

unfoldable pub prot_of : List Area → ℕ → Option ℕ
prot_of areas page = option_map (λ area. area.prot) (area_of areas page)

-- the byte at an offset into a page at the start; an area's bytes past those that it was given are 0
abbrev pub byte_in : Area → ℕ → ℕ → ℕ
byte_in area page offset = slice_index area.bytes (512 * (page - area.first) + offset)

unfoldable pub initial : List Area → ℕ → ℕ → Option ℕ
initial areas page offset =
    if nat_lt offset 512 then option_map (λ area. byte_in area page offset) (area_of areas page) else None

-- a page that no mode may write is never changed
abbrev pub is_writable : Area → Bool
is_writable area = allows area.prot 0 Write

abbrev pub pages_of : Area → List ℕ
pages_of area = range_with_len area.first area.pages

-- the pages that some mode may write, in ascending order
unfoldable pub writable_pages : List Area → List ℕ
writable_pages [] = []
writable_pages (area ∷ areas) = (if is_writable area then pages_of area else []) ++ writable_pages areas

-- the number of a page's block in the page file: the page's rank among the writable pages
unfoldable pub block_of : List Area → ℕ → Option ℕ
block_of areas page = position (λ p. p == page) (writable_pages areas)

-- the page that has a block
unfoldable pub page_of_block : List Area → ℕ → Option ℕ
page_of_block areas block = slice_get (writable_pages areas) block
