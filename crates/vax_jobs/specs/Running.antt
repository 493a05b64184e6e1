-- What running several processes comes to.
use Rattle.std.specs.Prelude.{ℕ, suc, ◌≡◌, ◌≢◌, ◌^◌, ◌<◌, ◌≤◌, ◌⊎◌, Bool, true, false, ◌&&◌, is_none, nat_lt, Option, Some, None, Result, Ok, Err, List, [], ◌∷◌, length, map, slice_get}
use Rattle.std.specs.Option.{option_map_or}
use Rattle.vax_outside.specs.Blocks.{BlockFile}
use Rattle.vax_outside.specs.Channels.{Channels, Grew, GrewByPrefix, only}
use Rattle.vax_outside.specs.Faults.{Rose}
use Rattle.vax_outside.specs.declared.faults.Failures.{Failures}
use Rattle.vax_outside.specs.declared.traits.Chan.TheVariants as channel
use Rattle.vax_flat.specs.declared.Ending.{Ending}
use Rattle.vax_flat.specs.Parts.{machine_at, touches_at}
use Rattle.vax_machine.specs.Machine.{Keeping, Means}
use Rattle.vax_machine.specs.Meaning.{engine}
use Rattle.vax_machine.specs.Touched.{is_touched}
use Rattle.vax_machine.specs.declared.machine.Machine.{Machine}
use Rattle.vax_order.specs.declared.line.Line.{Line}
use Rattle.vax_pager.specs.Listing.{is_listed}
use Rattle.vax_window.specs.Windows.{its}
use Rattle.vax_jobs.specs.Pooling.{Pooling}
use Rattle.vax_jobs.specs.Sending.{Sends}
use Rattle.vax_jobs.specs.Shared.{Process, Setting, Shared, Why, AllDone, ByTurns, bytes_sent, first_position, goes, job_at, shared, stops, tried, victim, without_victim}
use Rattle.vax_jobs.specs.declared.ends.Fault.{Fault}
use Rattle.vax_jobs.specs.declared.ends.Fault.TheVariants.{Page, Write}
use Rattle.vax_jobs.specs.declared.ends.JobsEnd.{JobsEnd}
use Rattle.vax_jobs.specs.declared.ends.JobsEnd.TheVariants.{Done, Turns, PageFault, WriteFault}
use Rattle.vax_jobs.specs.declared.position.Position.{Position}
use Rattle.vax_jobs.specs.declared.turn.Turned.{Turned}
use Rattle.vax_jobs.specs.declared.turn.Turned.TheVariants.{Stepped}

-- what is counted of a process: its steps, its pinned pages, and how it ended, if it did
pub record Mark : Type 0 where
  pub steps : ℕ
  pub pinned : List ℕ
  pub ended : Option Ending

abbrev pub kept_mark : Keeping → Mark
kept_mark k = record { steps = k.steps; pinned = k.residence.pinned; ended = k.ended }

abbrev pub flat_mark : Process → Mark
flat_mark p = record { steps = p.steps; pinned = p.pinned; ended = (machine_at p.place).ending }

-- a process of a pool hasn't ended, and has steps left
abbrev pub has_left : ℕ → Keeping → Bool
has_left limit k = is_none k.ended && nat_lt k.steps limit

abbrev pub going : ℕ → Pooling → ℕ → Bool
going limit p job = option_map_or (has_left limit) (slice_get p.processes job) false

-- the processes of a pool, with what their machines and their parts of the file stand for
pub record System : Type 0 where
  pub pooling : Pooling
  pub machines : List Machine
  pub file : Option BlockFile

abbrev pub system_of : Pooling → List Machine → Option BlockFile → System
system_of p machines file = record { pooling = p; machines = machines; file = file }

-- each process is where it is there, has completed its steps, and has its pages pinned
pub record Stands (y : System) (processes : List Process) : Type 0 where
  pub marks : map kept_mark y.pooling.processes ≡ map flat_mark processes
  pub means : (job : ℕ) → (m : Machine) → (p : Process) → slice_get y.machines job ≡ Some m → slice_get processes job ≡ Some p →
      Means (engine m) (its job y.file) p.place

-- and its resident pages are those
pub record Tracks (y : System) (s : Shared) : Type 0 where
  pub stands : Stands y s.processes
  pub resident : y.pooling.resident ≡ s.resident

-- the attempt that comes touches each page that its process has pinned
abbrev pub IsTouching : Process → Type 0
IsTouching p = (page : ℕ) → is_listed page p.pinned ≡ true → is_touched page (touches_at p.place) ≡ true

pub record AreTouching (processes : List Process) : Type 0 where
  pub each : (job : ℕ) → (p : Process) → slice_get processes job ≡ Some p → IsTouching p

-- where a run of processes is that have sent so much since the channels told this
pub record IsAt (first : Option Channels) (s : Shared) (y : System) (held : List ℕ) (now : Option Channels) : Type 0 where
  pub tracks : Tracks y s
  pub sends : Sends first (bytes_sent s) held now

-- the service of a page failed: no process moved, and the page that makes room may be absent
pub record IsStuck (s : Shared) (y : System) : Type 0 where
  pub stands : Stands y s.processes
  pub resident : (y.pooling.resident ≡ s.resident)
      ⊎ (y.pooling.resident ≡ without_victim (victim y.pooling.most s.processes s.resident) s.resident)

-- the byte that a turn sends, if it sends one
abbrev pub bytes_in : Option ℕ → List ℕ
bytes_in None = []
bytes_in (Some byte) = byte ∷ []

abbrev pub byte_of : Turned → List ℕ
byte_of (Stepped sent) = bytes_in sent
byte_of result = []

-- a process that goes on, so many steps at most
pub record MayGo (limit job : ℕ) (s : Shared) : Type 0 where
  pub goes : goes limit s.processes job ≡ true
  pub few : limit < 2 ^ 64
  pub touching : AreTouching s.processes

-- what an attempt comes to
abbrev pub TurnsTo : Result (Unit {0}) Fault → ℕ → (first : Option Channels) → Shared → System → List ℕ → Option Channels → Type 0
TurnsTo (Ok x) job first s new left now = IsAt first (tried new.pooling.most job s) new left now
TurnsTo (Err Page) job first s new left now = IsStuck s new × (Sends first (bytes_sent s) left now)
TurnsTo (Err Write) job first s new left now =
    Tracks new (tried new.pooling.most job s) × GrewByPrefix first now (only channel.Out (bytes_sent (tried new.pooling.most job s)))

-- from wherever the processes are
abbrev pub MakesTurn : Result (Unit {0}) Fault → ℕ → System → List ℕ → Option Channels → System → List ℕ → Option Channels → Type 0
MakesTurn result job old held before new left now =
    (first : Option Channels) → (s : Shared) → (limit : ℕ) → MayGo limit job s → IsAt first s old held before →
    TurnsTo result job first s new left now

-- so many turns, none of them stopped before
pub record Runs (x : Setting) (s : Shared) (count : ℕ) : Type 0 where
  pub going : (i : ℕ) → i < count → stops x (shared x i s) ≡ None

-- the processes stand where turns begin, at the beginning of the order
pub record IsReady (x : Setting) (y : System) (s : Shared) : Type 0 where
  pub tracks : Tracks y s
  pub touching : AreTouching s.processes
  pub at : s.at ≡ first_position x.order
  pub turns : s.turns ≡ 0
  pub sent : s.sent ≡ []

-- the turns stopped by themselves
pub record IsWhole (x : Setting) (s : Shared) (why : Why) (y : System) (old new : Option Channels) : Type 0 where
  pub count : ℕ
  pub runs : Runs x s count
  pub stopped : stops x (shared x count s) ≡ Some why
  pub tracks : Tracks y (shared x count s)
  pub wrote : Grew old new (only channel.Out (bytes_sent (shared x count s)))

-- a call of the page file failed in the turn behind so many
pub record IsCut (x : Setting) (s : Shared) (y : System) (old new : Option Channels) : Type 0 where
  pub count : ℕ
  pub runs : Runs x s (suc count)
  pub stuck : IsStuck (shared x count s) y
  pub wrote : Grew old new (only channel.Out (bytes_sent (shared x count s)))

-- a write failed: each process is where so many turns lead, and a prefix of what these send was written; the page that makes room for the next may be absent
pub record IsLost (x : Setting) (s : Shared) (y : System) (old new : Option Channels) : Type 0 where
  pub count : ℕ
  pub runs : Runs x s count
  pub stands : IsStuck (shared x count s) y
  pub wrote : GrewByPrefix old new (only channel.Out (bytes_sent (shared x count s)))

abbrev pub Ends : JobsEnd → Setting → Shared → System → Option Channels → Option Channels → Type 0
Ends Done x s y old new = IsWhole x s AllDone y old new
Ends Turns x s y old new = IsWhole x s ByTurns y old new
Ends PageFault x s y old new = IsCut x s y old new
Ends WriteFault x s y old new = IsLost x s y old new

-- from wherever turns begin
abbrev pub RunsTo : JobsEnd → Setting → System → Option Channels → System → Option Channels → Type 0
RunsTo result x before old after new = (s : Shared) → IsReady x before s → Ends result x s after old new

abbrev pub setting_of : List Line → (steps turns : ℕ) → Pooling → Setting
setting_of order steps turns p = record { order = order; steps = steps; turns = turns; most = p.most }

-- a position of an order from which an attempt is made, of a process that goes on
pub record IsPosition (going : ℕ → Bool) (order : List Line) (at : Position) : Type 0 where
  pub line : at.line < length order
  pub left : 1 ≤ at.left
  pub goes : going (job_at order at.line) ≡ true

abbrev pub is_page_fault : {A : Type 0} → Result A Fault → Bool
is_page_fault (Ok x) = false
is_page_fault (Err Page) = true
is_page_fault (Err Write) = false

abbrev pub is_write_fault : {A : Type 0} → Result A Fault → Bool
is_write_fault (Ok x) = false
is_write_fault (Err Page) = false
is_write_fault (Err Write) = true

-- what a run does to the counts of failures of the page file and of the sink
pub record CountsEnd (result : JobsEnd) (file_before file_now sink_before sink_now : Failures) : Type 0 where
  pub later : file_before.count ≤ file_now.count
  pub failed : file_now.count ≢ file_before.count → Rose file_before file_now
  pub fault : result ≡ PageFault → Rose file_before file_now
  pub unfailed : result ≢ PageFault → result ≢ WriteFault → file_now.count ≡ file_before.count
  pub sunk : sink_before.count ≤ sink_now.count
  pub cause : result ≡ WriteFault → Rose sink_before sink_now
  pub written : result ≢ WriteFault → sink_now.count ≡ sink_before.count
