-- The bytes of areas in blocks, and a table of the pages that are resident.
use Rattle.std.specs.Prelude.{◌≡◌, ℕ, zero, suc, ◌+◌, ◌*◌, ◌/◌, ◌%◌, if◌then◌else◌, ◌<◌, Option, Some, None, List, [], ◌∷◌, map, length, slice_index, slice_index_or}
use Rattle.vax_space.specs.declared.Area.{Area}
use Rattle.vax_space.specs.Areas.{has_page}
use Rattle.vax_space.specs.Lookup.{slot}
use Rattle.vax_flat.specs.Memory.{byte_at}
use Rattle.vax_flat.specs.Port.{AreBytes}
use Rattle.vax_flat.specs.Start.{filled}
use Rattle.vax_undo.specs.declared.block.Block.{Block}

-- the areas, each with its bytes as they are now
unfoldable pub memory_of : List Area → List Block → List Area
memory_of [] blocks = []
memory_of (area ∷ areas) [] = []
memory_of (area ∷ areas) (block ∷ blocks) = record area { bytes = block.bytes.items } ∷ memory_of areas blocks

-- the number of the first area that has a page, where the first of these areas has the number `number`
unfoldable pub number_of_area : ℕ → List Area → ℕ → Option ℕ
number_of_area number [] page = None
number_of_area number (area ∷ areas) page =
    if has_page area page then Some number else number_of_area (number + 1) areas page

abbrev pub at_slot : List (Option ℕ) → Option ℕ → Option ℕ
at_slot owners None = None
at_slot owners (Some place) = slice_index_or owners place None

-- the number of the area that has a page, where the page is resident
abbrev pub owner_of : List (Option ℕ) → ℕ → Option ℕ
owner_of owners page = at_slot owners (slot page)

-- each area has its block of all its bytes, and each resident page its area
pub record IsPlain (areas : List Area) (blocks : List Block) (owners : List (Option ℕ)) : Type 0 where
  pub size : length owners ≡ 69632
  pub owned : (page number : ℕ) → owner_of owners page ≡ Some number → number_of_area 0 areas page ≡ Some number
  pub starts : map (λ block. block.start) blocks ≡ map (λ area. 512 * area.first) areas
  pub sizes : map (λ block. length block.bytes.items) blocks ≡ map (λ area. 512 * area.pages) areas
  pub bytes : AreBytes (byte_at (memory_of areas blocks))

-- an area's block at the start
pub record IsStart (area : Area) (block : Block) : Type 0 where
  pub start : block.start ≡ 512 * area.first
  pub bytes : block.bytes.items ≡ filled area
  pub size : length block.bytes.items ≡ 512 * area.pages
  pub small : (k : ℕ) → slice_index block.bytes.items k < 256

unfoldable pub AreStarts : List Area → List Block → Type 0
AreStarts [] [] = Unit {0}
AreStarts [] (block ∷ blocks) = ⊥
AreStarts (area ∷ areas) [] = ⊥
AreStarts (area ∷ areas) (block ∷ blocks) = IsStart area block × AreStarts areas blocks

-- every page of the areas is resident
pub record IsFull (areas : List Area) (owners : List (Option ℕ)) : Type 0 where
  pub size : length owners ≡ 69632
  pub owned : (page : ℕ) → owner_of owners page ≡ number_of_area 0 areas page

-- the number of a list of bytes, the lowest first
unfoldable pub number_in : List ℕ → ℕ
number_in [] = 0
number_in (byte ∷ bytes) = byte + 256 * number_in bytes

-- the lowest bytes of a number, the lowest first
unfoldable pub low_bytes : ℕ → ℕ → List ℕ
low_bytes zero value = []
low_bytes (suc n) value = value % 256 ∷ low_bytes n (value / 256)
