-- What a pager means.
use Rattle.std.specs.Prelude.{ℕ, ◌≡◌, Bool, is_some}
use Rattle.vax_flat.specs.Port.{View}
use Rattle.vax_tb.specs.Meaning.{buffered}
use Rattle.vax_pager.specs.declared.pager.Pager.{Pager}
use Rattle.vax_pager.specs.Paging.{Paging, view_of}
use Rattle.vax_pager.specs.Steps.{OnlyWritten}
use Rattle.vax_pager.specs.Store.{LiesIn, held, paging}

abbrev pub pages : Pager → Paging
pages p = paging p.store

abbrev pub view : Pager → View
view p = view_of (pages p)

-- what calls of the port keep: they change resident pages that are modified then, and each page has the frame that it had
pub record Since (p q : Pager) : Type 0 where
  pub written : OnlyWritten (pages p) (pages q)
  pub held : held q.store ≡ held p.store

-- a page is resident in a frame, and the mode may read it
abbrev pub lies_in : Pager → ℕ → ℕ → ℕ → Type 0
lies_in p frame page mode = LiesIn p.store frame page mode

-- how often the buffer had the entry that was asked for
abbrev pub hits : Pager → ℕ
hits p = p.store.buffer.hits

-- the buffer has a page's entry
abbrev pub in_buffer : Pager → ℕ → Bool
in_buffer p page = is_some (buffered p.store.buffer page)
