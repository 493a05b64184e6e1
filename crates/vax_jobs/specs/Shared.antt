-- The runs of several flat machines in turns, with one bound on the pages that are resident together.
use Rattle.std.specs.Prelude.{ℕ, zero, suc, ◌+◌, ◌-◌, Bool, false, ◌&&◌, if◌then◌else◌, nat_lt, Option, Some, None, is_none, List, [], ◌∷◌, ◌++◌, length, map, drop, slice_get, slice_set}
use Rattle.std.specs.Option.{option_map_or}
use Rattle.std.specs.List.{list_any}
use Rattle.vax_flat.specs.Outcome.{first_missing}
use Rattle.vax_flat.specs.Parts.{Place, At, Turn, Completes, Leaves, machine_at, touches_at, turn}
use Rattle.vax_flat.specs.Step.{Flat}
use Rattle.vax_machine.specs.Paged.{place_after, steps_after}
use Rattle.vax_order.specs.declared.line.Line.{Line}
use Rattle.vax_pager.specs.Listing.{is_listed}
use Rattle.vax_jobs.specs.Pooling.{is_there, without}
use Rattle.vax_jobs.specs.declared.pool.Pair.{Pair}
use Rattle.vax_jobs.specs.declared.position.Position.{Position}

-- where a process is, the steps and the parts of steps that it completed, and its pinned pages
pub record Process : Type 0 where
  pub place : Place
  pub steps : ℕ
  pub parts : ℕ
  pub pinned : List ℕ

-- a byte that a process sent
pub record Sent : Type 0 where
  pub job : ℕ
  pub byte : ℕ

-- the processes, where the order stands, the attempts that were made, the resident pages of all processes in order of service, and the bytes that were sent
pub record Shared : Type 0 where
  pub processes : List Process
  pub at : Position
  pub turns : ℕ
  pub resident : List Pair
  pub sent : List Sent

-- what the processes are given: the lines of their order, the most steps of each, the most attempts of all, and the most resident pages of all
pub record Setting : Type 0 where
  pub order : List Line
  pub steps : ℕ
  pub turns : ℕ
  pub most : ℕ

-- a process hasn't ended, and has steps left
abbrev pub goes_on : ℕ → Process → Bool
goes_on limit p = is_none (machine_at p.place).ending && nat_lt p.steps limit

abbrev pub goes : ℕ → List Process → ℕ → Bool
goes limit processes job = option_map_or (goes_on limit) (slice_get processes job) false

abbrev pub pins_of : List Process → ℕ → List ℕ
pins_of processes job = option_map_or (λ p. p.pinned) (slice_get processes job) []

-- the first page that isn't pinned
unfoldable pub first_unpinned : (ℕ → List ℕ) → List Pair → Option Pair
first_unpinned pins [] = None
first_unpinned pins (pair ∷ pairs) = if is_listed pair.page (pins pair.job) then first_unpinned pins pairs else Some pair

-- the page that makes room: where so many pages are resident as may be, the one that was served longest ago and isn't pinned
unfoldable pub victim : ℕ → List Process → List Pair → Option Pair
victim most processes pairs = if nat_lt (length pairs) most then None else first_unpinned (pins_of processes) pairs

abbrev pub without_victim : Option Pair → List Pair → List Pair
without_victim None pairs = pairs
without_victim (Some pair) pairs = without pair.job pair.page pairs

-- a part of a step was completed, and all pins of the process are dropped
abbrev pub finished : Turn → Process → Process
finished t p = record { place = place_after t; steps = steps_after t p.steps; parts = p.parts + 1; pinned = [] }

abbrev pub completed : Process → Process
completed p = finished (turn p.place) p

-- a page was served and is pinned
abbrev pub given_page : ℕ → Process → Process
given_page page p = record p { pinned = p.pinned ++ page ∷ [] }

-- what a machine that had sent this sends with the step that it completes
abbrev pub sent_in : List ℕ → Turn → List ℕ
sent_in before (Completes m) = drop (length before) m.output
sent_in before (Leaves p) = []

abbrev pub sent_as : ℕ → ℕ → Sent
sent_as job byte = record { job = job; byte = byte }

abbrev pub sent_by : ℕ → Process → List Sent
sent_by job p = map (sent_as job) (sent_in (machine_at p.place).output (turn p.place))

-- An attempt of a process: a part of a step is completed, or the first page that it misses is served. Where so many pages are resident as may be, another
-- makes room.
abbrev pub by_missing : ℕ → ℕ → Process → Shared → Option ℕ → Shared
by_missing most job p s None = record s {
  processes = slice_set s.processes job (completed p);
  turns = s.turns + 1;
  sent = s.sent ++ sent_by job p;
}
by_missing most job p s (Some page) = record s {
  processes = slice_set s.processes job (given_page page p);
  turns = s.turns + 1;
  resident = without_victim (victim most s.processes s.resident) s.resident ++ record { job = job; page = page } ∷ [];
}

abbrev pub tried_by : ℕ → ℕ → Option Process → Shared → Shared
tried_by most job None s = s
tried_by most job (Some p) s = by_missing most job p s (first_missing (is_there s.resident job) (touches_at p.place))

unfoldable pub tried : ℕ → ℕ → Shared → Shared
tried most job s = tried_by most job (slice_get s.processes job) s

-- the process that a line names, and how many attempts it makes
abbrev pub job_at : List Line → ℕ → ℕ
job_at order line = option_map_or (λ l. l.job) (slice_get order line) 0

abbrev pub count_at : List Line → ℕ → ℕ
count_at order line = option_map_or (λ l. l.count) (slice_get order line) 0

-- at the beginning of an order
abbrev pub first_position : List Line → Position
first_position order = record { line = 0; left = count_at order 0 }

-- the first of lines, numbered from here on, whose process goes on
unfoldable pub first_going : (ℕ → Bool) → ℕ → List Line → Option Position
first_going going line [] = None
first_going going line (l ∷ ls) =
    if going l.job then Some (record { line = line; left = l.count }) else first_going going (line + 1) ls

abbrev pub or_first : Option Position → Option Position → Option Position
or_first (Some at) other = Some at
or_first None other = other

-- The line that gives the next process, and what is left of it: the present one, where attempts are left of it and its process goes on; else the first behind
-- it whose process does; after the last line the first follows again.
unfoldable pub next_position : (ℕ → Bool) → List Line → Position → Option Position
next_position going order at =
    if nat_lt 0 at.left && going (job_at order at.line) then Some at
    else or_first (first_going going (at.line + 1) (drop (at.line + 1) order)) (first_going going 0 order)

-- one attempt less is left
abbrev pub moved_on : Position → Position
moved_on at = record { line = at.line; left = at.left - 1 }

abbrev pub turned_by : Setting → Option Position → Shared → Shared
turned_by x None s = s
turned_by x (Some at) s = tried x.most (job_at x.order at.line) (record s { at = moved_on at })

-- one turn
abbrev pub next_turn : Setting → Shared → Shared
next_turn x s = turned_by x (next_position (goes x.steps s.processes) x.order s.at) s

-- so many turns
unfoldable pub shared : Setting → ℕ → Shared → Shared
shared x zero s = s
shared x (suc count) s = next_turn x (shared x count s)

-- why it stops before a turn: no process goes on, or the limit of attempts is reached
pub data Why : Type 0 where
  AllDone : Why
  ByTurns : Why

unfoldable pub stops : Setting → Shared → Option Why
stops x s = if list_any (goes_on x.steps) s.processes then (if nat_lt s.turns x.turns then None else Some ByTurns) else Some AllDone

-- the bytes that were sent
abbrev pub bytes_sent : Shared → List ℕ
bytes_sent s = map (λ (x : Sent). x.byte) s.sent

-- at the start
abbrev pub starting : Flat → Process
starting m = record { place = At m; steps = 0; parts = 0; pinned = [] }

-- nothing is resident, and nothing was sent
abbrev pub begun : List Line → List Flat → Shared
begun order starts = record { processes = map starting starts; at = first_position order; turns = 0; resident = []; sent = [] }
