-- What each step of a pager makes of it.
use Rattle.std.specs.Prelude.{ℕ, zero, suc, ◌≡◌, true, false, ◌==◌, if◌then◌else◌, List, [], ◌∷◌, ◌++◌}
use Rattle.vax_outside.specs.Faults.{raised}
use Rattle.vax_space.specs.Reference.{page_of}
use Rattle.vax_flat.specs.Memory.{after}
use Rattle.vax_pager.specs.Listing.{is_listed, leave_out}
use Rattle.vax_pager.specs.Paging.{Paging}

-- another value at one page
unfoldable pub at : {A : Type 0} → ℕ → A → (ℕ → A) → ℕ → A
at page x f other = if other == page then x else f other

-- a modified page was written to its block
unfoldable pub flushed : ℕ → Paging → Paging
flushed page s = record s {
  modified = leave_out page s.modified;
  blocked = at page true s.blocked;
  numbers = record s.numbers { written = raised s.numbers.written };
}

-- a resident page is absent, and its frame is kept
unfoldable pub released : ℕ → Paging → Paging
released page s = record s {
  order = leave_out page s.order;
  pinned = leave_out page s.pinned;
  kept = s.kept ++ page ∷ [];
  numbers = record s.numbers {
    evicted = raised s.numbers.evicted;
    spoiled = if is_listed page s.pinned then raised s.numbers.spoiled else s.numbers.spoiled;
  };
}

-- a kept page is resident again, and pinned
unfoldable pub taken_back : ℕ → Paging → Paging
taken_back page s = record s {
  order = s.order ++ page ∷ [];
  pinned = s.pinned ++ page ∷ [];
  kept = leave_out page s.kept;
  numbers = record s.numbers { served = raised s.numbers.served };
}

-- a page came into a frame with these bytes, and is pinned
unfoldable pub brought : ℕ → List ℕ → Paging → Paging
brought page bytes s = record s {
  order = s.order ++ page ∷ [];
  pinned = s.pinned ++ page ∷ [];
  frame = at page bytes s.frame;
  numbers = record s.numbers { served = raised s.numbers.served };
}

-- a kept page gives its frame up
unfoldable pub forgotten : ℕ → Paging → Paging
forgotten page s = record s { kept = leave_out page s.kept; frame = at page [] s.frame }

-- a resident page gives its frame up
unfoldable pub removed : ℕ → Paging → Paging
removed page s = record s {
  order = leave_out page s.order;
  frame = at page [] s.frame;
  numbers = record s.numbers { evicted = raised s.numbers.evicted };
}

unfoldable pub settled : Paging → Paging
settled s = record s { pinned = [] }

-- a page is modified: it stands at the end of the list, unless it stands there
abbrev pub touched_by : List ℕ → ℕ → List ℕ
touched_by modified page = if is_listed page modified then modified else (modified ++ page ∷ [])

-- the modified pages after a write to a range
unfoldable pub touched : List ℕ → ℕ → ℕ → List ℕ
touched modified addr zero = modified
touched modified addr (suc len) = touched (touched_by modified (page_of addr)) (after addr) len

-- a resident page is modified
unfoldable pub touched_page : ℕ → Paging → Paging
touched_page page s = record s { modified = touched_by s.modified page }

-- a resident page has other bytes
unfoldable pub filled : ℕ → List ℕ → Paging → Paging
filled page bytes s = record s { frame = at page bytes s.frame }

-- what calls of a port may do: they change resident pages that are modified then
pub record OnlyWritten (s t : Paging) : Type 0 where
  pub areas : t.areas ≡ s.areas
  pub frames : t.frames ≡ s.frames
  pub order : t.order ≡ s.order
  pub pinned : t.pinned ≡ s.pinned
  pub kept : t.kept ≡ s.kept
  pub blocked : t.blocked ≡ s.blocked
  pub numbers : t.numbers ≡ s.numbers
  pub clean : (page : ℕ) → is_listed page t.modified ≡ false → (is_listed page s.modified ≡ false) × (t.frame page ≡ s.frame page)
  pub held : (page : ℕ) → is_listed page s.order ≡ false → t.frame page ≡ s.frame page
  pub more : (more : List ℕ) × (t.modified ≡ s.modified ++ more)
