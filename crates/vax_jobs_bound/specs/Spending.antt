-- What a turn of several processes takes, by their pins and the evictions of pinned pages.
use Rattle.std.specs.Prelude.{ℕ, ◌≡◌, ◌+◌, ◌-◌, ◌^◌, ◌<◌, ◌≤◌, true, if◌then◌else◌, Option, Some, None, List, [], ◌∷◌, length, slice_get}
use Rattle.vax_flat.specs.declared.Ending.{Ending}
use Rattle.vax_pager.specs.Listing.{AreOnce}
use Rattle.vax_machine.specs.Machine.{Keeping, missed_cost}
use Rattle.vax_jobs.specs.Pooling.{Pooling, pins_at}
use Rattle.vax_jobs.specs.Turning.{IsTurned, ending_at, has_failed, has_missed, job_of}
use Rattle.vax_jobs.specs.declared.turn.Turn.{Turn}
use Rattle.vax_jobs.specs.declared.turn.Turn.TheVariants.{Go, Out, Clean}
use Rattle.vax_jobs.specs.declared.turn.Turned.{Turned}
use Rattle.vax_jobs.specs.declared.turn.Turned.TheVariants.{Stepped, Parted, Absent, Ended, Moved, Nothing, Failed}

-- the attempts of all processes
unfoldable pub attempts_in : List Keeping → ℕ
attempts_in [] = 0
attempts_in (k ∷ ks) = k.turns + attempts_in ks

-- their pinned pages, and the pinned pages of theirs that were evicted
unfoldable pub pins_in : List Keeping → ℕ
pins_in [] = 0
pins_in (k ∷ ks) = length k.residence.pinned + k.residence.spoiled + pins_in ks

-- each has few pages pinned, and none twice
pub record HaveFewPins (p : Pooling) : Type 0 where
  pub few : (job : ℕ) → (k : Keeping) → slice_get p.processes job ≡ Some k → length k.residence.pinned ≤ 40
  pub once : (job : ℕ) → (k : Keeping) → slice_get p.processes job ≡ Some k → AreOnce k.residence.pinned

-- none has counted its attempts, or the evictions of its pinned pages, up to the last value
pub record AreCounted (p : Pooling) : Type 0 where
  pub turns : (job : ℕ) → (k : Keeping) → slice_get p.processes job ≡ Some k → k.turns < 2 ^ 64 - 1
  pub spoiled : (job : ℕ) → (k : Keeping) → slice_get p.processes job ≡ Some k → k.residence.spoiled < 2 ^ 64 - 1

-- attempts less pins and evictions of pinned pages rise by at most this much
abbrev pub RisesAtMost : ℕ → Pooling → Pooling → Type 0
RisesAtMost most old new =
    attempts_in new.processes + pins_in old.processes ≤ attempts_in old.processes + pins_in new.processes + most

-- they rise by this much
abbrev pub Rises : ℕ → Pooling → Pooling → Type 0
Rises count old new =
    attempts_in new.processes + pins_in old.processes ≡ attempts_in old.processes + pins_in new.processes + count

-- A part that is completed takes them 41 up at most. A page that is missed takes them up by as much as it does for a process alone, and down by 1 where it is served.
abbrev pub GoSpends : ℕ → Turned → Pooling → Pooling → Type 0
GoSpends cost (Stepped sent) old new = RisesAtMost 41 old new
GoSpends cost Parted old new = RisesAtMost 41 old new
GoSpends cost (Ended e) old new = RisesAtMost 41 old new
GoSpends cost (Absent page) old new = Rises (cost - 1) old new
GoSpends cost Failed old new = Rises cost old new
GoSpends cost Moved old new = ⊥
GoSpends cost Nothing old new = ⊥

-- no other turn takes them up or down
abbrev pub Spends : Turn → Turned → Pooling → Pooling → Type 0
Spends (Go job) result old new = GoSpends (missed_cost (length (pins_at old.processes job))) result old new
Spends (Out job page) result old new = Rises 0 old new
Spends (Clean job) result old new = Rises 0 old new

-- a turn, and what it came to
pub record Happening : Type 0 where
  pub turn : Turn
  pub result : Turned

-- what is so of one that happened, of a process that there is, before anything is counted up to its last value: an attempt that missed a page dropped no pins
pub record Happens (h : Happening) (old new : Pooling) : Type 0 where
  pub there : job_of h.turn < length old.processes
  pub few : HaveFewPins old
  pub counted : AreCounted old
  pub turned : IsTurned h.turn h.result old new
  pub keeps : has_missed h.result ≡ true → length (pins_at old.processes (job_of h.turn)) < 40

-- a part that an attempt completed, of a process that had ended so, or went on
abbrev pub part_by : Option Ending → Turned → ℕ
part_by (Some e) result = 0
part_by None (Stepped sent) = 1
part_by None Parted = 1
part_by None (Ended e) = 1
part_by None (Absent page) = 0
part_by None Moved = 0
part_by None Nothing = 0
part_by None Failed = 0

-- these happened one after the other, and completed so many parts
unfoldable pub AllHappen : List Happening → ℕ → Pooling → Pooling → Type 0
AllHappen [] parts old new = (parts ≡ 0) × (new ≡ old)
AllHappen (h ∷ others) parts old new =
    (mid : Pooling) × (rest : ℕ) × (parts ≡ part_by (ending_at old (job_of h.turn)) h.result + rest) × Happens h old mid × AllHappen others rest mid new

-- the turns that failed
unfoldable pub failures : List Happening → ℕ
failures [] = 0
failures (h ∷ others) = (if has_failed h.result then 1 else 0) + failures others
