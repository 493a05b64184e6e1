-- What the processes of a pool keep beside the flat machines, and their resident pages.
use Rattle.std.specs.Prelude.{ℕ, ◌≡◌, ◌*◌, ◌≤◌, true, ◌==◌, Bool, false, ◌&&◌, if◌then◌else◌, nat_lt, Option, Some, None, List, [], ◌∷◌, ◌++◌, length, slice_get, slice_set}
use Rattle.std.specs.Option.{option_and_then, option_map_or}
use Rattle.std.specs.List.{list_all, list_any}
use Rattle.vax_pager.specs.Listing.{is_listed}
use Rattle.vax_machine.specs.Machine.{Keeping}
use Rattle.vax_machine.specs.Residence.{Residence, served, taken_out}
use Rattle.vax_jobs.specs.declared.pool.Pair.{Pair}

-- so many pages may be resident together; the resident pages of all in order of service; and what each process keeps
pub record Pooling : Type 0 where
  pub most : ℕ
  pub resident : List Pair
  pub processes : List Keeping

abbrev pub is_pair : ℕ → ℕ → Pair → Bool
is_pair job page pair = (pair.job == job) && (pair.page == page)

-- the page of the process is resident
abbrev pub is_there : List Pair → ℕ → ℕ → Bool
is_there pairs job page = list_any (is_pair job page) pairs

-- the pages of a process
unfoldable pub pages_in : ℕ → List Pair → List ℕ
pages_in job [] = []
pages_in job (pair ∷ pairs) = if pair.job == job then pair.page ∷ pages_in job pairs else pages_in job pairs

-- without a page of a process
unfoldable pub without : ℕ → ℕ → List Pair → List Pair
without job page [] = []
without job page (pair ∷ pairs) = if is_pair job page pair then without job page pairs else pair ∷ without job page pairs

-- a process keeps something else
abbrev pub altered : ℕ → (Keeping → Keeping) → List Keeping → List Keeping
altered job f processes = option_map_or (λ k. slice_set processes job (f k)) (slice_get processes job) processes

-- the pinned pages of a process
abbrev pub pins_at : List Keeping → ℕ → List ℕ
pins_at processes job = option_map_or (λ k. k.residence.pinned) (slice_get processes job) []

abbrev pub is_pinned : List Keeping → Pair → Bool
is_pinned processes pair = is_listed pair.page (pins_at processes pair.job)

-- the first page that isn't pinned
unfoldable pub first_free : List Keeping → List Pair → Option Pair
first_free processes [] = None
first_free processes (pair ∷ pairs) = if is_pinned processes pair then first_free processes pairs else Some pair

-- the page at this place
abbrev pub found_at : Option ℕ → List Pair → Option Pair
found_at None pairs = None
found_at (Some place) pairs = slice_get pairs place

-- a place of this page, where it is resident
abbrev pub IsPlace : ℕ → ℕ → List Pair → Option ℕ → Type 0
IsPlace job page pairs None = is_there pairs job page ≡ false
IsPlace job page pairs (Some place) = slice_get pairs place ≡ Some (record { job = job; page = page })

-- the page that makes room: where the pool is full, the one that was served longest ago and isn't pinned
unfoldable pub room_of : Pooling → Option Pair
room_of p = if nat_lt (length p.resident) p.most then None else first_free p.processes p.resident

-- a page is made absent
abbrev pub taken : ℕ → Keeping → Keeping
taken page k = record k { residence = taken_out page k.residence }

abbrev pub with_out : ℕ → ℕ → Pooling → Pooling
with_out job page p = record p { resident = without job page p.resident; processes = altered job (taken page) p.processes }

-- the one at this place is made absent
abbrev pub TakesOut : ℕ → Pooling → Pooling → Type 0
TakesOut place old new = (pair : Pair) → slice_get old.resident place ≡ Some pair → new ≡ with_out pair.job pair.page old

abbrev pub made_room : Option Pair → Pooling → Pooling
made_room None p = p
made_room (Some pair) p = with_out pair.job pair.page p

abbrev pub with_room : Pooling → Pooling
with_room p = made_room (room_of p) p

-- the page that a process missed
abbrev pub wanted_at : ℕ → Pooling → Option ℕ
wanted_at job p = option_and_then (λ k. k.wanted) (slice_get p.processes job)

-- the page that a process misses comes in
abbrev pub given : ℕ → Keeping → Keeping
given page k = record k { residence = served page k.residence; wanted = None }

abbrev pub came : ℕ → ℕ → Pooling → Pooling
came job page p = record p { resident = p.resident ++ record { job = job; page = page } ∷ []; processes = altered job (given page) p.processes }

-- the resident pages of a process are those of the pool that are its
pub record IsShare (most job : ℕ) (pairs : List Pair) (r : Residence) : Type 0 where
  pub order : r.order ≡ pages_in job pairs
  pub frames : r.frames ≡ most

-- the page is of one of so many processes
abbrev pub is_among : ℕ → Pair → Bool
is_among count pair = nat_lt pair.job count

-- what is so of every pool: 1 to 8 processes, and at most so many resident pages
pub record IsPooling (p : Pooling) : Type 0 where
  pub some : 1 ≤ length p.processes
  pub few : length p.processes ≤ 8
  pub least : 64 * length p.processes ≤ p.most
  pub most : p.most ≤ 32768
  pub held : length p.resident ≤ p.most
  pub named : list_all (is_among (length p.processes)) p.resident ≡ true
  pub shares : (job : ℕ) → (k : Keeping) → slice_get p.processes job ≡ Some k → IsShare p.most job p.resident k.residence
