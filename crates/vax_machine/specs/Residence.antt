-- Which pages are resident and pinned, in order of service, which others keep a frame, and what events make of it.
use Rattle.std.specs.Prelude.{ℕ, ◌≡◌, ◌+◌, ◌==◌, Bool, false, if◌then◌else◌, nat_lt, Option, Some, None, List, [], ◌∷◌, ◌++◌, length}
use Rattle.vax_outside.specs.Faults.{raised}
use Rattle.vax_pager.specs.Listing.{is_listed, leave_out, first_outside}
use Rattle.vax_pager.specs.Paging.{Paging}

pub record Residence : Type 0 where
  pub frames : ℕ  -- so many pages may be resident
  pub order : List ℕ  -- the resident pages in order of service
  pub pinned : List ℕ
  pub kept : List ℕ  -- the absent pages whose frames no other page has had, in order of eviction
  pub spoiled : ℕ  -- so many pinned pages were evicted

abbrev pub residence_of : Paging → Residence
residence_of s = record { frames = s.frames; order = s.order; pinned = s.pinned; kept = s.kept; spoiled = s.numbers.spoiled }

abbrev pub is_resident : Residence → ℕ → Bool
is_resident r page = is_listed page r.order

-- all pins are dropped
abbrev pub unpinned : Residence → Residence
unpinned r = record r { pinned = [] }

-- the most pages that may be pinned
abbrev pub most_pins : ℕ
most_pins = 40

-- all pins are dropped where as many pages are pinned as may be
unfoldable pub eased : Residence → Residence
eased r = if length r.pinned == most_pins then unpinned r else r

-- an eviction
unfoldable pub taken_out : ℕ → Residence → Residence
taken_out page r =
    if is_listed page r.order
    then record r {
      order = leave_out page r.order;
      pinned = leave_out page r.pinned;
      kept = r.kept ++ page ∷ [];
      spoiled = if is_listed page r.pinned then raised r.spoiled else r.spoiled;
    }
    else r

-- the page that makes room: where as many are resident as may be, the first of them that isn't pinned
unfoldable pub victim : Residence → Option ℕ
victim r = if nat_lt (length r.order) r.frames then None else first_outside r.pinned r.order

abbrev pub without_victim : Option ℕ → Residence → Residence
without_victim None r = r
without_victim (Some page) r = record r { order = leave_out page r.order }

abbrev pub without_first : List ℕ → List ℕ
without_first [] = []
without_first (page ∷ pages) = leave_out page (page ∷ pages)

-- which pages keep a frame behind the service of this one: it has its own back, or else, where no frame is left, the first gives its up
unfoldable pub kept_after : ℕ → Residence → List ℕ
kept_after page r =
    if is_listed page r.kept then leave_out page r.kept
    else (if nat_lt (length r.order + length r.kept) r.frames then r.kept else without_first r.kept)

-- a service
unfoldable pub served : ℕ → Residence → Residence
served page r =
    let room = without_victim (victim r) r in
    record room { order = room.order ++ page ∷ []; pinned = room.pinned ++ page ∷ []; kept = kept_after page r }

-- a page comes in, if it isn't resident
abbrev pub brought_in : ℕ → Residence → Residence
brought_in page r = if is_resident r page then r else served page r

unfoldable pub all_brought : List ℕ → Residence → Residence
all_brought [] r = r
all_brought (page ∷ pages) r = all_brought pages (brought_in page r)

-- behind a deposit in these pages: no page is pinned before it and behind it
abbrev pub after_deposit : List ℕ → Residence → Residence
after_deposit pages r = unpinned (all_brought pages (unpinned r))

-- behind one in which the service of a page failed: those in front of it came in
pub record HasBroughtSome (pages : List ℕ) (r q : Residence) : Type 0 where
  pub front : List ℕ
  pub page : ℕ
  pub rest : List ℕ
  pub splits : pages ≡ front ++ page ∷ rest
  pub away : is_resident (all_brought front (unpinned r)) page ≡ false
  pub is : q ≡ after_deposit front r
