-- Pages in frames, in the order in which they came.
use Rattle.std.specs.Prelude.{◌≡◌, ℕ, ◌==◌, if◌then◌else◌, Option, Some, None, List, [], ◌∷◌, ◌++◌, length, slice_index}
use Rattle.vax_lists.specs.declared.lists.Placed.{Placed}
use Rattle.vax_lists.specs.Links.{FrameLists}

-- three lists of pages with their frames; the frames are below a limit
pub record PageLists : Type 0 where
  pub order : List Placed  -- the resident pages in order of service
  pub kept : List Placed  -- the absent pages that still have a frame, in order of eviction
  pub modified : List Placed  -- in order of their first write
  pub limit : ℕ

-- the frame of a page in a list, if the page stands there
unfoldable pub frame_in : List Placed → ℕ → Option ℕ
frame_in [] page = None
frame_in (x ∷ xs) page = if x.page == page then Some x.frame else frame_in xs page

-- the list without a page
unfoldable pub without : ℕ → List Placed → List Placed
without page [] = []
without page (x ∷ xs) = if x.page == page then without page xs else x ∷ without page xs

-- the pages alone
unfoldable pub pages_of : List Placed → List ℕ
pages_of [] = []
pages_of (x ∷ xs) = x.page ∷ pages_of xs

abbrev pub placed : ℕ → ℕ → Placed
placed page frame = record { page = page; frame = frame }

abbrev pub appended : List Placed → ℕ → ℕ → List Placed
appended items page frame = items ++ placed page frame ∷ []

abbrev pub with_order : PageLists → List Placed → PageLists
with_order lists items = record lists { order = items }

abbrev pub with_kept : PageLists → List Placed → PageLists
with_kept lists items = record lists { kept = items }

abbrev pub with_modified : PageLists → List Placed → PageLists
with_modified lists items = record lists { modified = items }

-- each page once
unfoldable pub EachOnce : List Placed → Type 0
EachOnce [] = Unit {0}
EachOnce (x ∷ xs) = (frame_in xs x.page ≡ None) × EachOnce xs

-- the pages in these frames
unfoldable pub pages_at : List ℕ → List ℕ → List Placed
pages_at pages [] = []
pages_at pages (x ∷ xs) = placed (slice_index pages x) x ∷ pages_at pages xs

-- the lists of pages that these lists of frames are
abbrev pub page_lists : FrameLists → FrameLists → List ℕ → PageLists
page_lists held modified pages = record {
  order = pages_at pages held.first;
  kept = pages_at pages held.second;
  modified = pages_at pages modified.first;
  limit = length pages;
}

pub record ArePages (held modified : FrameLists) (pages : List ℕ) : Type 0 where
  pub held_limit : held.limit ≡ length pages
  pub modified_limit : modified.limit ≡ length pages
  pub none : modified.second ≡ []
  pub order_once : EachOnce (pages_at pages held.first)
  pub kept_once : EachOnce (pages_at pages held.second)
  pub modified_once : EachOnce (pages_at pages modified.first)
