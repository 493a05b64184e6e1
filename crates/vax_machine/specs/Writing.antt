-- What a run writes: the bytes that the program sends go to Out, and the lines of the evictions to Record, where they are listed.
use Rattle.std.specs.Prelude.{ℕ, ◌≡◌, Bool, true, false, if◌then◌else◌, Option, Some, None, Result, Ok, Err, List, [], ◌∷◌}
use Rattle.std.specs.List.{flat_map}
use Rattle.vax_space.specs.declared.Area.{Area}
use Rattle.vax_outside.specs.Blocks.{BlockFile}
use Rattle.vax_outside.specs.Channels.{Channels, Grew, GrewByPrefix, append, nothing, only, unsaved}
use Rattle.vax_outside.specs.Faults.{CountsFailure}
use Rattle.vax_outside.specs.declared.faults.Failures.{Failures}
use Rattle.vax_outside.specs.declared.traits.Chan.TheVariants.{Out, Record}
use Rattle.vax_flat.specs.Parts.{machine_at}
use Rattle.vax_sched.specs.Printed.{at_line}
use Rattle.vax_machine.specs.Paged.{Eviction, Paged}
use Rattle.vax_machine.specs.declared.event.Fault.{Fault}
use Rattle.vax_machine.specs.declared.event.Fault.TheVariants.{Page, Write}
use Rattle.vax_machine.specs.declared.held.Held.{Held}

-- the line of a schedule that names an eviction
abbrev pub eviction_line : Eviction → List ℕ
eviction_line e = at_line e.turn e.page

-- the lines of evictions, where they are listed
unfoldable pub lines_of : Bool → List Eviction → List ℕ
lines_of listed evictions = if listed then flat_map eviction_line evictions else []

-- these bytes on Out, and these on Record
abbrev pub both : List ℕ → List ℕ → Channels
both out recorded = record nothing { out = out; recorded = recorded }

-- what a paged run writes
abbrev pub output_of : Bool → Paged → Channels
output_of listed p = both (machine_at p.place).output (lines_of listed p.evictions)

-- a byte that was sent, if one was
abbrev pub sent_by : Option ℕ → Channels
sent_by None = nothing
sent_by (Some byte) = only Out (byte ∷ [])

abbrev pub line_of : ℕ → Option ℕ → List ℕ
line_of turn None = []
line_of turn (Some page) = at_line turn page

-- the line of a page, if one was made absent before the attempt of this number, where evictions are listed
abbrev pub listed_by : Bool → ℕ → Option ℕ → Channels
listed_by listed turn page = only Record (if listed then line_of turn page else [])

-- what is held back: no lines where evictions aren't listed
abbrev pub held_in : Held → Channels
held_in h = both h.bytes.items (if h.listed then h.lines else [])

-- all of it was written, or a prefix where a write failed
abbrev pub Puts : Result (Unit {0}) Fault → Channels → Option Channels → Option Channels → Type 0
Puts (Ok x) all old new = Grew old new all
Puts (Err Page) all old new = ⊥
Puts (Err Write) all old new = GrewByPrefix old new all

-- more passed on through what is held back
pub record Passes (before more after : Channels) (old new : Option Channels) : Type 0 where
  pub sent : Channels
  pub is : append sent after ≡ append before more
  pub wrote : Grew old new sent

-- or a prefix of it all was written, where a write failed
abbrev pub Passed : Result (Unit {0}) Fault → Channels → Channels → Channels → Option Channels → Option Channels → Type 0
Passed (Ok x) before more after old new = Passes before more after old new
Passed (Err Page) before more after old new = ⊥
Passed (Err Write) before more after old new = GrewByPrefix old new (append before more)

-- nothing but Out grew, and Record where evictions are listed
pub record OnlyWrote (listed : Bool) (old new : Option Channels) : Type 0 where
  pub more : Channels
  pub silent : more.report ≡ []
  pub unlisted : listed ≡ false → more.recorded ≡ []
  pub unsaved : more.saved ≡ unsaved
  pub grew : Grew old new more

-- and whether evictions are listed stays
pub record StillWrites (before after : Held) (old new : Option Channels) : Type 0 where
  pub listed : after.listed ≡ before.listed
  pub only : OnlyWrote before.listed old new

-- a call of the page file failed
abbrev pub is_page_fault : Result (Unit {0}) Fault → Bool
is_page_fault (Ok x) = false
is_page_fault (Err Page) = true
is_page_fault (Err Write) = false

-- a write failed
abbrev pub is_write_fault : Result (Unit {0}) Fault → Bool
is_write_fault (Ok x) = false
is_write_fault (Err Page) = false
is_write_fault (Err Write) = true

-- what turns do to the counts of failures of the page file and of the sink
pub record Counts (result : Result (Unit {0}) Fault) (file_before file_now sink_before sink_now : Failures) : Type 0 where
  pub file : CountsFailure (is_page_fault result) file_before file_now
  pub sink : CountsFailure (is_write_fault result) sink_before sink_now

-- where a run begins: the paged run, the areas of its memory, what the page file and the channels hold, and whether evictions are listed
pub record Origin : Type 0 where
  pub at : Paged
  pub areas : List Area
  pub file : Option BlockFile
  pub channels : Option Channels
  pub listed : Bool

-- what the paged run wrote since the beginning went to the channels, but for what is held back
pub record Sends (o : Origin) (p : Paged) (now : Option Channels) (left : Channels) : Type 0 where
  pub sent : Channels
  pub is : output_of o.listed p ≡ append (output_of o.listed o.at) (append sent left)
  pub wrote : Grew o.channels now sent

-- all of it went to the channels
pub record Wrote (o : Origin) (p : Paged) (now : Option Channels) : Type 0 where
  pub more : Channels
  pub is : output_of o.listed p ≡ append (output_of o.listed o.at) more
  pub grew : Grew o.channels now more

-- a prefix of it did
pub record WrotePart (o : Origin) (p : Paged) (now : Option Channels) : Type 0 where
  pub more : Channels
  pub is : output_of o.listed p ≡ append (output_of o.listed o.at) more
  pub grew : GrewByPrefix o.channels now more
