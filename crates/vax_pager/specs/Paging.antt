-- What a pager means, and the memory that it stands for with a page file.
use Rattle.std.specs.Prelude.{ℕ, ◌≡◌, ◌*◌, ◌-◌, ◌%◌, Bool, true, not, ◌&&◌, ◌||◌, if◌then◌else◌, Option, Some, None, is_some, Result, List, [], ◌++◌, take, drop, replicate, slice_index}
use Rattle.std.specs.Option.{option_map}
use Rattle.std.specs.FinMap.{get}
use Rattle.vax_space.specs.declared.Area.{Area}
use Rattle.vax_space.specs.Areas.{area_of, block_of}
use Rattle.vax_space.specs.Reference.{page_of}
use Rattle.vax_flat.specs.declared.Stop.{Stop}
use Rattle.vax_flat.specs.Memory.{byte_at, number, IsWhole}
use Rattle.vax_flat.specs.Port.{View, first_absent, layout, loaded_by, stop_of, unless_cut, with_number}
use Rattle.vax_outside.specs.Blocks.{BlockFile}
use Rattle.vax_pager.specs.Listing.{is_listed}

-- how many pages came in, were made absent and were written to their blocks, and how many evictions were of a pinned page
pub record Numbers : Type 0 where
  pub served : ℕ
  pub evicted : ℕ
  pub written : ℕ
  pub spoiled : ℕ

-- what a pager means
pub record Paging : Type 0 where
  pub areas : List Area
  pub frames : ℕ  -- so many pages may be held in frames
  pub order : List ℕ  -- the resident pages in order of service
  pub pinned : List ℕ
  pub modified : List ℕ  -- in order of their first write
  pub kept : List ℕ  -- the absent pages that still have a frame, in order of eviction
  pub blocked : ℕ → Bool  -- the pages that have a block in this run
  pub frame : ℕ → List ℕ  -- the bytes of a page that is resident or kept, and none of any other
  pub numbers : Numbers

-- a page's bytes in its area; those past the bytes that the area was given are 0
abbrev pub bytes_in : Area → ℕ → List ℕ
bytes_in area page = take 512 (drop (512 * (page - area.first)) area.bytes ++ replicate 512 0)

-- a page's bytes at the start
abbrev pub start_in : Option Area → ℕ → List ℕ
start_in None page = []
start_in (Some area) page = bytes_in area page

unfoldable pub start_of : List Area → ℕ → List ℕ
start_of areas page = start_in (area_of areas page) page

-- what a port to the pager shows
abbrev pub view_of : Paging → View
view_of s = record {
  areas = s.areas;
  resident = λ page. is_listed page s.order;
  byte = λ addr. slice_index (s.frame (page_of addr)) (addr % 512);
  marked = λ page. is_listed page s.modified;
}

-- what a read answers of a range that may be read
abbrev pub loaded_allowed : View → ℕ → ℕ → Result ℕ Stop
loaded_allowed view addr n = loaded_by (stop_of None (first_absent view.resident addr n)) (number view.byte addr n)

-- what a write leaves of a range that may be written
abbrev pub stored_allowed : View → ℕ → ℕ → ℕ → View
stored_allowed view addr n value = unless_cut (stop_of None (first_absent view.resident addr n)) view (with_number view addr n value)

-- the bytes of a block that the file has
abbrev pub block_in : BlockFile → Option ℕ → Option (List ℕ)
block_in file None = None
block_in file (Some block) = get file.blocks block

-- the bytes of a page in its block, else those at the start
unfoldable pub home : Paging → BlockFile → ℕ → Option (List ℕ)
home s file page = if s.blocked page then block_in file (block_of s.areas page) else Some (start_of s.areas page)

-- the content of a page: its frame's bytes where it is resident, else those of its home
unfoldable pub content : Paging → BlockFile → ℕ → Option (List ℕ)
content s file page = if is_listed page s.order then Some (s.frame page) else home s file page

-- a page whose frame may be given up with no write
unfoldable pub is_clean : Paging → ℕ → Bool
is_clean s page = (is_listed page s.order && not (is_listed page s.modified)) || is_listed page s.kept

-- with this file the pager stands for this memory: each byte is its page's content, and a frame that may be given up
-- has the bytes of its page's home
pub record Backs (s : Paging) (file : BlockFile) (memory : List Area) : Type 0 where
  pub areas : layout memory ≡ layout s.areas
  pub whole : IsWhole memory
  pub bytes : (addr : ℕ) → is_some (area_of s.areas (page_of addr)) ≡ true →
      option_map (λ page. slice_index page (addr % 512)) (content s file (page_of addr)) ≡ Some (byte_at memory addr)
  pub clean : (page : ℕ) → is_clean s page ≡ true → home s file page ≡ Some (s.frame page)

-- where the file tells its blocks
abbrev pub StandsWith : Paging → Option BlockFile → List Area → Type 0
StandsWith s None memory = ⊥
StandsWith s (Some file) memory = Backs s file memory

-- nothing is lost: each memory that the first pager and file stand for, the second stand for
abbrev pub Keeps : Paging → Option BlockFile → Paging → Option BlockFile → Type 0
Keeps s file t after = (memory : List Area) → StandsWith s file memory → StandsWith t after memory

-- the bytes that come from this file for a page without a frame, where it tells them
abbrev pub ComesFrom : Paging → Option BlockFile → ℕ → List ℕ → Type 0
ComesFrom s None page bytes = Unit {0}
ComesFrom s (Some file) page bytes = (x : List ℕ) → home s file page ≡ Some x → bytes ≡ x
