-- What the calls of a pager do.
use Rattle.std.specs.Prelude.{ℕ, ◌≡◌, ◌+◌, true, false, if◌then◌else◌, nat_lt, Option, Some, None, List, [], length, slice_index, ◌||◌, ◌%◌, ◌≤◌, ◌⊎◌, is_some, Bool}
use Rattle.std.specs.Option.{option_map}
use Rattle.vax_space.specs.declared.Area.{Area}
use Rattle.vax_space.specs.Areas.{area_of, block_of}
use Rattle.vax_space.specs.Reference.{page_of}
use Rattle.vax_flat.specs.Memory.{byte_at}
use Rattle.vax_outside.specs.Blocks.{BlockFile, after_read, after_write}
use Rattle.vax_pager.specs.Listing.{AreOnce, is_listed, first, first_outside}
use Rattle.vax_pager.specs.Paging.{ComesFrom, Paging, StandsWith, home}
use Rattle.vax_pager.specs.Steps.{flushed, released, taken_back, brought, forgotten, removed}

unfoldable pub after_flush : ℕ → Paging → Paging
after_flush page s = if is_listed page s.modified then flushed page s else s

abbrev pub put_block : Option ℕ → List ℕ → Option BlockFile → Option BlockFile
put_block None bytes file = file
put_block (Some block) bytes file = option_map (after_write block bytes) file

-- one write of the page's bytes to its block, exactly where the page is modified
unfoldable pub wrote_back : ℕ → Paging → Option BlockFile → Option BlockFile
wrote_back page s file = if is_listed page s.modified then put_block (block_of s.areas page) (s.frame page) file else file

unfoldable pub after_evict : ℕ → Paging → Paging
after_evict page s = if is_listed page s.order then released page (after_flush page s) else s

-- one read, exactly where the page has a block
unfoldable pub read_for : ℕ → Paging → Option BlockFile → Option BlockFile
read_for page s file = if s.blocked page then option_map after_read file else file

-- where a page that is served gets its frame
pub data Source : Type 0 where
  Back : Source  -- its own frame, which was kept
  Empty : Source  -- a frame that no page has had
  OfKept : ℕ → Source  -- that of the page that was kept first
  OfVictim : ℕ → Source  -- that of a resident page
  Nowhere : Source

abbrev pub taken_from : Option ℕ → Option ℕ → Source
taken_from (Some old) victim = OfKept old
taken_from None (Some victim) = OfVictim victim
taken_from None None = Nowhere

-- the victim is the page that isn't pinned and was served longest ago
unfoldable pub source : ℕ → Paging → Source
source page s =
    if is_listed page s.kept then Back
    else (if nat_lt (length s.order + length s.kept) s.frames then Empty
    else taken_from (first s.kept) (first_outside s.pinned s.order))

abbrev pub victim_of : Source → Option ℕ
victim_of Back = None
victim_of Empty = None
victim_of (OfKept old) = None
victim_of (OfVictim victim) = Some victim
victim_of Nowhere = None

-- the frame is taken from a modified page, which is written first
abbrev pub takes_modified : Source → Paging → Bool
takes_modified Back s = false
takes_modified Empty s = false
takes_modified (OfKept old) s = false
takes_modified (OfVictim victim) s = is_listed victim s.modified
takes_modified Nowhere s = false

-- the page with these bytes came
abbrev pub came : Source → ℕ → List ℕ → Paging → Paging
came Back page bytes s = taken_back page s
came Empty page bytes s = brought page bytes s
came (OfKept old) page bytes s = brought page bytes (forgotten old s)
came (OfVictim victim) page bytes s = brought page bytes (removed victim (after_flush victim s))
came Nowhere page bytes s = s

-- the frame that a page came into has the bytes that come from this file, unless its own frame was kept
abbrev pub FillsFrame : ℕ → Paging → Option BlockFile → Paging → Type 0
FillsFrame page s file t = is_listed page s.kept ≡ false → ComesFrom s file page (t.frame page)

-- where the service of a page asks nothing of the file: the page has no block, and no modified page makes room
abbrev pub WhereNoCall : ℕ → Paging → Type 0 → Type 0
WhereNoCall page s fact = s.blocked page ≡ false → takes_modified (source page s) s ≡ false → fact

-- what this did to the file
abbrev pub file_after : Source → ℕ → Paging → Option BlockFile → Option BlockFile
file_after Back page s file = file
file_after Empty page s file = read_for page s file
file_after (OfKept old) page s file = read_for page s file
file_after (OfVictim victim) page s file = read_for page s (wrote_back victim s file)
file_after Nowhere page s file = file

-- the victim alone was written
abbrev pub begun : Source → Paging → Paging
begun Back s = s
begun Empty s = s
begun (OfKept old) s = s
begun (OfVictim victim) s = after_flush victim s
begun Nowhere s = s

-- what writing the victim did to the file
abbrev pub file_begun : Source → Paging → Option BlockFile → Option BlockFile
file_begun Back s file = file
file_begun Empty s file = file
file_begun (OfKept old) s file = file
file_begun (OfVictim victim) s file = wrote_back victim s file
file_begun Nowhere s file = file

-- the bytes of a page: its frame's, where it has one, else those of its home
unfoldable pub seen : Paging → BlockFile → ℕ → Option (List ℕ)
seen s file page = if is_listed page s.order || is_listed page s.kept then Some (s.frame page) else home s file page

-- the page is read: it has a block, and its own frame wasn't kept
abbrev pub reads_page : Source → ℕ → Paging → Bool
reads_page Back page s = false
reads_page Empty page s = s.blocked page
reads_page (OfKept old) page s = s.blocked page
reads_page (OfVictim victim) page s = s.blocked page
reads_page Nowhere page s = false

-- What a failure leaves: the victim was to be written, wasn't, and all is as it was; or the page was to be read, wasn't, and the victim alone was written,
-- if it was modified.
abbrev pub IsLeft : Source → ℕ → Paging → Option BlockFile → Paging → Option BlockFile → Type 0
IsLeft from page s file t after =
    ((takes_modified from s ≡ true) × (t ≡ s) × (after ≡ file))
    ⊎ ((reads_page from page s ≡ true) × (t ≡ begun from s) × (after ≡ file_begun from s file))

-- the byte of each memory that the pager stands for with this file
abbrev pub IsByte : Paging → Option BlockFile → ℕ → ℕ → Type 0
IsByte s file addr byte = (memory : List Area) → StandsWith s file memory → byte ≡ byte_at memory addr

-- the byte is that of the page's frame, where it has one, else that of its home, as this file tells it
abbrev pub PeekedFrom : Paging → Option BlockFile → ℕ → ℕ → Type 0
PeekedFrom s None addr byte = Unit {0}
PeekedFrom s (Some file) addr byte =
    (x : List ℕ) → seen s file (page_of addr) ≡ Some x → byte ≡ slice_index x (addr % 512)

-- at the start
unfoldable pub fresh : List Area → ℕ → Paging
fresh areas frames = record {
  areas = areas;
  frames = frames;
  order = [];
  pinned = [];
  modified = [];
  kept = [];
  blocked = λ page. false;
  frame = λ page. [];
  numbers = record { served = 0; evicted = 0; written = 0; spoiled = 0 };
}

-- what is so of every pager
pub record IsPaging (s : Paging) : Type 0 where
  pub apart : (page : ℕ) → is_listed page s.order ≡ true → is_listed page s.kept ≡ false
  pub pinned : (page : ℕ) → is_listed page s.pinned ≡ true → is_listed page s.order ≡ true
  pub dirty : (page : ℕ) → is_listed page s.modified ≡ true → is_listed page s.order ≡ true
  pub writable : (page : ℕ) → is_listed page s.modified ≡ true → is_some (block_of s.areas page) ≡ true
  pub once : AreOnce s.order
  pub pinned_once : AreOnce s.pinned
  pub inside : (page : ℕ) → is_listed page s.order ≡ true → is_some (area_of s.areas page) ≡ true
  pub held : length s.order + length s.kept ≤ s.frames
  pub whole : (page : ℕ) → is_listed page s.order ≡ true → length (s.frame page) ≡ 512
