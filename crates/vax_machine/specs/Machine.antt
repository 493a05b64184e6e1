-- What a machine means, and what each event makes of it.
use Rattle.std.specs.Prelude.{ℕ, ◌≡◌, ◌+◌, ◌-◌, ◌^◌, ◌<◌, ◌≤◌, ◌==◌, ◌⊎◌, if◌then◌else◌, Bool, true, false, Option, Some, None, is_some, List, length}
use Rattle.vax_space.specs.declared.Area.{Area}
use Rattle.vax_space.specs.Areas.{area_of}
use Rattle.vax_outside.specs.Blocks.{BlockFile}
use Rattle.vax_outside.specs.Faults.{raised}
use Rattle.vax_flat.specs.declared.Ending.{Ending}
use Rattle.vax_flat.specs.Outcome.{first_missing, marked_by}
use Rattle.vax_flat.specs.Parts.{Partway, Place, At, Within, Completes, Leaves, gone_back, machine_at, touches_at, turn}
use Rattle.vax_flat.specs.Step.{Flat, ended, with_byte_sent}
use Rattle.vax_cpu.specs.Attempt.{flat_of, open_at}
use Rattle.vax_cpu.specs.declared.cpu.Cpu.{Cpu}
use Rattle.vax_pager.specs.Calls.{IsLeft, after_evict, after_flush, came, file_after, source, wrote_back}
use Rattle.vax_pager.specs.Listing.{is_listed}
use Rattle.vax_pager.specs.Meaning.{pages}
use Rattle.vax_pager.specs.Paging.{Paging, StandsWith}
use Rattle.vax_machine.specs.Residence.{Residence, residence_of, is_resident, unpinned, eased, taken_out, victim, served, most_pins}
use Rattle.vax_machine.specs.declared.engine.Engine.{Engine}
use Rattle.vax_machine.specs.declared.event.Applied.{Applied}
use Rattle.vax_machine.specs.declared.event.Applied.TheVariants.{Stepped, Parted, Absent, Ended, Served, Evicted, Flushed, Nothing, Failed}
use Rattle.vax_machine.specs.declared.event.Event.{Event}
use Rattle.vax_machine.specs.declared.event.Event.TheVariants as event

-- a processor that ended so, or goes on, is at this place
pub record IsThere (cpu : Cpu) (how : Option Ending) (place : Place) : Type 0 where
  pub open_one : cpu.latch ≡ open_at place
  pub machine : record (flat_of cpu (machine_at place).memory (machine_at place).output) { ending = how } ≡ machine_at place

-- The machine, with what this file tells, stands for the flat machine at this place: the start of a step, or between two parts of one.
pub record Means (m : Engine) (file : Option BlockFile) (place : Place) : Type 0 where
  pub processor : IsThere m.cpu m.ended place
  pub memory : StandsWith (pages m.pager) file (machine_at place).memory

abbrev pub residence : Engine → Residence
residence m = residence_of (pages m.pager)

-- the resident pages that have been written to since they came in or were last written to their blocks
abbrev pub modified_of : Engine → ℕ → Bool
modified_of m page = is_listed page (pages m.pager).modified

-- What is so of every machine: few pages are pinned, and a page that is wanted is one of an area, absent, and may be pinned.
pub record AreSound (areas : List Area) (r : Residence) (want : Option ℕ) : Type 0 where
  pub pins : length r.pinned ≤ most_pins
  pub frames : 64 ≤ r.frames
  pub wanted : (page : ℕ) → want ≡ Some page → (is_some (area_of areas page) ≡ true) × (is_listed page r.order ≡ false) × (length r.pinned < most_pins)

-- and no byte waits to be handed out
pub record IsSound (m : Engine) : Type 0 where
  pub pages : AreSound (pages m.pager).areas (residence m) m.wanted
  pub unsent : m.cpu.term.out ≡ None

-- what a machine keeps beside the flat machine
pub record Keeping : Type 0 where
  pub areas : List Area
  pub steps : ℕ
  pub turns : ℕ
  pub residence : Residence
  pub wanted : Option ℕ
  pub ended : Option Ending

abbrev pub keeping : Engine → Keeping
keeping m = record { areas = (pages m.pager).areas; steps = m.steps; turns = m.turns; residence = residence m; wanted = m.wanted; ended = m.ended }

-- what an attempt with this answer makes of that, of a machine that hasn't ended
abbrev pub tried : Applied → Keeping → Keeping
tried (Stepped sent) m = record { areas = m.areas; steps = raised m.steps; turns = raised m.turns; residence = unpinned m.residence; wanted = None; ended = m.ended }
tried Parted m = record { areas = m.areas; steps = m.steps; turns = raised m.turns; residence = unpinned m.residence; wanted = None; ended = m.ended }
tried (Absent page) m = record { areas = m.areas; steps = m.steps; turns = raised m.turns; residence = eased m.residence; wanted = Some page; ended = m.ended }
tried (Ended e) m = record { areas = m.areas; steps = raised m.steps; turns = raised m.turns; residence = unpinned m.residence; wanted = None; ended = Some e }
tried (Served page) m = m
tried Evicted m = m
tried Flushed m = m
tried Nothing m = m
tried Failed m = m

-- a step was completed that sent this byte, or none
pub record HasStepped (place : Place) (sent : Option ℕ) (new : Engine) (file : Option BlockFile) : Type 0 where
  pub next : Flat
  pub turn : turn place ≡ Completes next
  pub going : next.ending ≡ None
  pub sends : next.output ≡ with_byte_sent (machine_at place).output sent
  pub means : Means new file (At next)

-- a part of a step was completed, and more remains
pub record HasParted (place : Place) (new : Engine) (file : Option BlockFile) : Type 0 where
  pub next : Partway
  pub turn : turn place ≡ Leaves next
  pub means : Means new file (Within next)

-- the step ended the run
pub record HasEnded (place : Place) (e : Ending) (new : Engine) (file : Option BlockFile) : Type 0 where
  pub turn : turn place ≡ Completes (ended (gone_back place) e)
  pub means : Means new file (At (ended (gone_back place) e))

-- what the answer of an attempt says of the flat machine, by the first page that the attempt touches and that isn't resident
abbrev pub Goes : Applied → (ℕ → Bool) → Engine → Option BlockFile → Place → Type 0
Goes (Stepped sent) resident new file place = (first_missing resident (touches_at place) ≡ None) × HasStepped place sent new file
Goes Parted resident new file place = (first_missing resident (touches_at place) ≡ None) × HasParted place new file
Goes (Absent page) resident new file place = (first_missing resident (touches_at place) ≡ Some page) × Means new file place
Goes (Ended e) resident new file place = (first_missing resident (touches_at place) ≡ None) × HasEnded place e new file
Goes (Served page) resident new file place = ⊥
Goes Evicted resident new file place = ⊥
Goes Flushed resident new file place = ⊥
Goes Nothing resident new file place = ⊥
Goes Failed resident new file place = ⊥

-- an answer of an attempt
abbrev pub IsTry : Applied → Type 0
IsTry (Stepped sent) = Unit {0}
IsTry Parted = Unit {0}
IsTry (Absent page) = Unit {0}
IsTry (Ended e) = Unit {0}
IsTry (Served page) = ⊥
IsTry Evicted = ⊥
IsTry Flushed = ⊥
IsTry Nothing = ⊥
IsTry Failed = ⊥

-- an attempt of a machine that goes on: what it keeps changes by the answer alone, with whatever page file, and with each it goes on from the place
-- for which it stood; exactly the pages are modified anew to which the attempt writes, up to the first page that it misses
pub record HasTried (old : Engine) (result : Applied) (new : Engine) : Type 0 where
  pub answer : IsTry result
  pub keeps : keeping new ≡ tried result (keeping old)
  pub goes : (file : Option BlockFile) → (place : Place) → Means old file place → Goes result (is_resident (residence old)) new file place
  pub marks : (file : Option BlockFile) → (place : Place) → Means old file place → modified_of new ≡ marked_by (is_resident (residence old)) (modified_of old) (touches_at place)

-- an attempt of a machine that ended so, or goes on
abbrev pub Tries : Option Ending → Engine → Applied → Engine → Type 0
Tries (Some e) old result new = (result ≡ Ended e) × (new ≡ old)
Tries None old result new = HasTried old result new

-- nothing of what a machine and a file stand for is lost
abbrev pub KeepsPlace : Engine → Option BlockFile → Engine → Option BlockFile → Type 0
KeepsPlace old before new after = (place : Place) → Means old before place → Means new after place

-- a service of the page that is wanted
abbrev pub Serves : Option ℕ → Keeping → Applied → Keeping → Type 0
Serves None old result new = (result ≡ Nothing) × (new ≡ old)
Serves (Some page) old result new =
    ((result ≡ Failed) × (new ≡ old)) ⊎ ((result ≡ Served (victim old.residence)) × (new ≡ record old { residence = served page old.residence; wanted = None }))

-- an eviction of a page, which is resident or isn't
abbrev pub Evicts : ℕ → Bool → Keeping → Applied → Keeping → Type 0
Evicts page false old result new = (result ≡ Nothing) × (new ≡ old)
Evicts page true old result new =
    ((result ≡ Failed) × (new ≡ old)) ⊎ ((result ≡ Evicted) × (new ≡ record old { residence = taken_out page old.residence }))

-- a flush of a page, which is modified or isn't
abbrev pub Flushes : Bool → Keeping → Applied → Keeping → Type 0
Flushes false old result new = (result ≡ Nothing) × (new ≡ old)
Flushes true old result new = ((result ≡ Failed) ⊎ (result ≡ Flushed)) × (new ≡ old)

-- what each event does
abbrev pub Applies : Event → Engine → Option BlockFile → Applied → Engine → Option BlockFile → Type 0
Applies event.Attempt old before result new after = Tries old.ended old result new × (after ≡ before)
Applies event.Serve old before result new after = Serves old.wanted (keeping old) result (keeping new) × KeepsPlace old before new after
Applies (event.Evict page) old before result new after =
    Evicts page (is_listed page (pages old.pager).order) (keeping old) result (keeping new) × KeepsPlace old before new after
Applies (event.Flush page) old before result new after =
    Flushes (is_listed page (pages old.pager).modified) (keeping old) result (keeping new) × KeepsPlace old before new after

-- what a service of this page makes of the pager and of its file: at most one write, of the page that makes room, where that is modified, and then at
-- most one read
abbrev pub ServesFrom : ℕ → Applied → Paging → Option BlockFile → Paging → Option BlockFile → Type 0
ServesFrom page Failed s before t after = IsLeft (source page s) page s before t after
ServesFrom page (Served v) s before t after = (t ≡ came (source page s) page (t.frame page) s) × (after ≡ file_after (source page s) page s before)
ServesFrom page (Stepped sent) s before t after = ⊥
ServesFrom page Parted s before t after = ⊥
ServesFrom page (Absent other) s before t after = ⊥
ServesFrom page (Ended e) s before t after = ⊥
ServesFrom page Evicted s before t after = ⊥
ServesFrom page Flushed s before t after = ⊥
ServesFrom page Nothing s before t after = ⊥

abbrev pub ServesAs : Option ℕ → Applied → Paging → Option BlockFile → Paging → Option BlockFile → Type 0
ServesAs None result s before t after = (t ≡ s) × (after ≡ before)
ServesAs (Some page) result s before t after = ServesFrom page result s before t after

-- an eviction: one write of the page, where it is modified; it fails only there
abbrev pub EvictsFrom : ℕ → Applied → Paging → Option BlockFile → Paging → Option BlockFile → Type 0
EvictsFrom page Evicted s before t after = (t ≡ after_evict page s) × (after ≡ wrote_back page s before)
EvictsFrom page (Stepped sent) s before t after = ⊥
EvictsFrom page Parted s before t after = ⊥
EvictsFrom page (Absent other) s before t after = ⊥
EvictsFrom page (Ended e) s before t after = ⊥
EvictsFrom page (Served v) s before t after = ⊥
EvictsFrom page Flushed s before t after = ⊥
EvictsFrom page Nothing s before t after = (t ≡ s) × (after ≡ before)
EvictsFrom page Failed s before t after = (t ≡ s) × (after ≡ before) × (is_listed page s.modified ≡ true)

-- a flush: one write of the page, where it is modified
abbrev pub FlushesFrom : ℕ → Applied → Paging → Option BlockFile → Paging → Option BlockFile → Type 0
FlushesFrom page Flushed s before t after = (t ≡ after_flush page s) × (after ≡ wrote_back page s before)
FlushesFrom page (Stepped sent) s before t after = ⊥
FlushesFrom page Parted s before t after = ⊥
FlushesFrom page (Absent other) s before t after = ⊥
FlushesFrom page (Ended e) s before t after = ⊥
FlushesFrom page (Served v) s before t after = ⊥
FlushesFrom page Evicted s before t after = ⊥
FlushesFrom page Nothing s before t after = (t ≡ s) × (after ≡ before)
FlushesFrom page Failed s before t after = (t ≡ s) × (after ≡ before)

-- what each event makes of the pages and of the page file
abbrev pub Moves : Event → Engine → Option BlockFile → Applied → Engine → Option BlockFile → Type 0
Moves event.Attempt old before result new after = after ≡ before
Moves event.Serve old before result new after = ServesAs old.wanted result (pages old.pager) before (pages new.pager) after
Moves (event.Evict page) old before result new after = EvictsFrom page result (pages old.pager) before (pages new.pager) after
Moves (event.Flush page) old before result new after = FlushesFrom page result (pages old.pager) before (pages new.pager) after

-- attempts less pins less evictions of pinned pages rise by at most this much
abbrev pub RisesAtMost : ℕ → Keeping → Keeping → Type 0
RisesAtMost most old new =
    new.turns + length old.residence.pinned + old.residence.spoiled ≤ old.turns + length new.residence.pinned + new.residence.spoiled + most

-- they rise by this much
abbrev pub Rises : ℕ → Keeping → Keeping → Type 0
Rises count old new =
    new.turns + length old.residence.pinned + old.residence.spoiled ≡ old.turns + length new.residence.pinned + new.residence.spoiled + count

-- an attempt that misses a page pins nothing, and drops 40 pins at once
abbrev pub missed_cost : ℕ → ℕ
missed_cost pins = if pins == most_pins then 41 else 1

-- how far an event with this answer takes them
abbrev pub Spends : Applied → Keeping → Keeping → Type 0
Spends (Stepped sent) old new = RisesAtMost 41 old new
Spends Parted old new = RisesAtMost 41 old new
Spends (Ended e) old new = RisesAtMost 41 old new
Spends (Absent page) old new = Rises (missed_cost (length old.residence.pinned)) old new
Spends (Served v) old new = Rises 1 new old
Spends Evicted old new = Rises 0 old new
Spends Flushed old new = Rises 0 old new
Spends Nothing old new = Rises 0 old new
Spends Failed old new = Rises 0 old new

-- as long as the turns and the evictions of pinned pages haven't been counted up to their last values
abbrev pub HasSpent : Applied → Keeping → Keeping → Type 0
HasSpent result old new = old.turns < 2 ^ 64 - 1 → old.residence.spoiled < 2 ^ 64 - 1 → Spends result old new

-- a call of the page file failed
abbrev pub has_failed : Applied → Bool
has_failed Failed = true
has_failed result = false
