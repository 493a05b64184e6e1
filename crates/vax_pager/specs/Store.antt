-- The parts of a pager, and what they mean.
use Rattle.std.specs.Prelude.{ℕ, ◌≡◌, ◌≢◌, ◌+◌, ◌^◌, ◌<◌, ◌≤◌, Bool, true, false, if◌then◌else◌, Option, Some, None, is_some, List, [], ◌++◌, take, drop, ◌-◌, ◌%◌, slice_index, slice_index_or, length}
use Rattle.vax_space.specs.Areas.{block_of, prot_of}
use Rattle.vax_space.specs.declared.Access.{Access}
use Rattle.vax_space.specs.declared.Access.TheVariants.{Read, Write}
use Rattle.vax_space.specs.Faults.{IsSpace}
use Rattle.vax_space.specs.Reference.{may_access, page_of}
use Rattle.vax_outside.specs.Faults.{raised}
use Rattle.vax_table.specs.declared.Walk.{Walk}
use Rattle.vax_table.specs.Mapping.{frame_of, is_inside, is_resident, prot_said}
use Rattle.vax_table.specs.Tables.{walked, kept}
use Rattle.vax_tb.specs.Buffer.{Agrees}
use Rattle.vax_tb.specs.Meaning.{buffered}
use Rattle.vax_lists.specs.Lines.{frame_in, pages_of}
use Rattle.vax_flat.specs.Port.{stop}
use Rattle.vax_pager.specs.declared.store.Store.{Store}
use Rattle.vax_pager.specs.Listing.{are_once, is_listed}
use Rattle.vax_pager.specs.Marks.{has_mark}
use Rattle.vax_pager.specs.Paging.{Paging, view_of}
use Rattle.vax_pager.specs.Steps.{filled}
use Rattle.vax_pager.specs.Frames.{held_by, dirty_frame}

-- the frame that has a page
unfoldable pub held : Store → ℕ → Option ℕ
held s page = held_by (walked s.tables page) (kept s.tables page)

abbrev pub bytes_at : List (List ℕ) → Option ℕ → List ℕ
bytes_at frames None = []
bytes_at frames (Some frame) = slice_index_or frames frame []

-- a block was written in this run
abbrev pub flag_of : (ℕ → Bool) → Option ℕ → Bool
flag_of marks None = false
flag_of marks (Some block) = marks block

unfoldable pub has_block : Store → ℕ → Bool
has_block s page = flag_of (has_mark s.blocked) (block_of s.space page)

-- the last so many
abbrev pub last_of : ℕ → List ℕ → List ℕ
last_of count xs = drop (length xs - count) xs

-- one less where it is so
abbrev pub lowered_if : Bool → ℕ → ℕ
lowered_if test count = if test then count - 1 else count

unfoldable pub paging : Store → Paging
paging s = record {
  areas = s.space;
  frames = length s.frames.items;
  order = pages_of s.lists.order;
  pinned = last_of s.pinned (pages_of s.lists.order);
  modified = pages_of s.lists.modified;
  kept = pages_of s.lists.kept;
  blocked = has_block s;
  frame = λ page. bytes_at s.frames.items (held s page);
  numbers = record { served = s.served; evicted = s.evicted; written = s.written; spoiled = s.spoiled };
}

-- what is so of a page of which the tables say this, and the lists have these frames
pub record Fits (walk : Walk) (left o k m : Option ℕ) (prot block : Option ℕ) (used : ℕ) : Type 0 where
  pub order : o ≡ frame_of walk
  pub kept : k ≡ left
  pub modified : m ≡ dirty_frame walk
  pub apart : is_resident walk ≡ true → left ≡ None
  pub inside : is_some left ≡ true → is_inside walk ≡ true
  pub writable : is_some (dirty_frame walk) ≡ true → is_some block ≡ true
  pub area : prot_said walk ≡ prot
  pub holds : (frame : ℕ) → held_by walk left ≡ Some frame → frame < used

abbrev pub IsFine : Store → ℕ → Type 0
IsFine s page =
    Fits (walked s.tables page) (kept s.tables page) (frame_in s.lists.order page) (frame_in s.lists.kept page) (frame_in s.lists.modified page)
    (prot_of s.space page) (block_of s.space page) s.used

-- the bytes of a list of which a part was overwritten
abbrev pub overwritten : ℕ → List ℕ → List ℕ → List ℕ
overwritten place xs old = take place old ++ (xs ++ drop (length xs) (drop place old))

-- a page has these bytes from an address on
abbrev pub with_bytes : ℕ → List ℕ → Paging → Paging
with_bytes addr xs s = filled (page_of addr) (overwritten (addr % 512) xs (s.frame (page_of addr))) s

-- a range within a page whose entry was in the buffer counts as a hit
abbrev pub CountsHit : ℕ → ℕ → Store → Store → Type 0
CountsHit addr n old new =
    addr % 512 + n ≤ 512 → is_some (buffered old.buffer (page_of addr)) ≡ true → new.buffer.hits ≡ raised old.buffer.hits

-- a mode may make an access to a range at once, in this frame: the range lies within a resident page whose entry is in the buffer, and its
-- page is modified where it is to be written
pub record IsFrame (addr n mode : ℕ) (access : Access) (frame : ℕ) (old new : Store) : Type 0 where
  pub held : held new (page_of addr) ≡ Some frame
  pub one_page : addr % 512 + n ≤ 512
  pub free : stop (view_of (paging old)) addr n mode access ≡ None
  pub marked : access ≡ Write → is_listed (page_of addr) (paging old).modified ≡ true
  pub resident : is_listed (page_of addr) (paging old).order ≡ true
  pub entry : is_some (buffered new.buffer (page_of addr)) ≡ true

-- a page is resident in a frame, and the mode may read it
pub record LiesIn (s : Store) (frame page mode : ℕ) : Type 0 where
  pub held : held s page ≡ Some frame
  pub resident : is_listed page (paging s).order ≡ true
  pub may : may_access (paging s).areas page mode Read ≡ true
  pub low : page < 2 ^ 23

-- all of it, with so many frames that no page has
pub record IsSound (spare : ℕ) (s : Store) : Type 0 where
  pub fine : (page : ℕ) → IsFine s page
  pub one : (page other frame : ℕ) → held s page ≡ Some frame → held s other ≡ Some frame → other ≡ page
  pub agrees : Agrees (buffered s.buffer) (walked s.tables)
  pub lengths : length s.lists.order + length s.lists.kept + spare ≡ s.used
  pub used : s.used ≤ length s.frames.items
  pub few : length s.frames.items ≤ 32768
  pub whole : (frame : ℕ) → frame < length s.frames.items → length (slice_index_or s.frames.items frame []) ≡ 512
  pub small : (frame k : ℕ) → slice_index (slice_index_or s.frames.items frame []) k < 256
  pub limit : s.lists.limit ≡ length s.frames.items
  pub pins : s.pinned ≤ length s.lists.order
  pub once : are_once s.lists.order ≡ true
  pub space : IsSpace s.space

-- no page has this frame
pub record IsFree (frame : ℕ) (s : Store) : Type 0 where
  pub below : frame < s.used
  pub other : (page : ℕ) → held s page ≢ Some frame
