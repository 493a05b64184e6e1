-- What clauses read of a sink in memory.
use Rattle.std.specs.Prelude.{ℕ, ◌-◌, Bool, false, ◌||◌, ◌==◌, if◌then◌else◌, List, ◌++◌, length, map, min, slice_index}
use Rattle.std.specs.List.{list_any}
use Rattle.vax_outside.specs.Channels.{Channels, Byte, bytes_on, change_of, file_of, is_changed}
use Rattle.vax_outside.specs.Fails.{names_write}
use Rattle.vax_outside.specs.Faults.{raised}
use Rattle.vax_outside.specs.declared.fails.Fail.{Fail}
use Rattle.vax_outside.specs.declared.faults.Failures.{Failures}
use Rattle.vax_outside.specs.declared.traits.Chan.{Chan}
use Rattle.vax_outside.specs.declared.traits.Chan.TheVariants.{Out, Report, Record, State}
use Rattle.vax_outside.specs.declared.mem_sink.MemSink.{MemSink}

-- the room of each channel, the most bytes that one write takes, and the calls that are to fail
pub record Limits : Type 0 where
  pub out : ℕ
  pub report : ℕ
  pub recorded : ℕ
  pub state : ℕ
  pub most : ℕ
  pub fails : List Fail

abbrev pub room : Limits → Chan → ℕ
room limits Out = limits.out
room limits Report = limits.report
room limits Record = limits.recorded
room limits State = limits.state

abbrev pub limits_of : MemSink → Limits
limits_of m = record { out = m.out.room; report = m.report.room; recorded = m.recorded.room; state = m.state.room; most = m.most; fails = m.fails.items }

-- of three rooms: those of Out and of Report, and one that Record and State each have
abbrev pub limits_from : List ℕ → ℕ → List Fail → Limits
limits_from room most fails = record { out = slice_index room 0; report = slice_index room 1; recorded = slice_index room 2; state = slice_index room 2; most = most; fails = fails }

abbrev pub channels_of : MemSink → Channels
channels_of m = record { out = m.out.bytes.items; report = m.report.bytes.items; recorded = m.recorded.bytes.items; saved = map Byte m.state.bytes.items ++ change_of m.file }

-- the number of calls so far
abbrev pub calls_of : MemSink → ℕ
calls_of m = m.calls

-- the calls that failed
abbrev pub faults_of : MemSink → Failures
faults_of m = m.faults

-- nothing more is written to State once its file was changed
abbrev pub is_shut : Channels → Chan → Bool
is_shut written Out = false
is_shut written Report = false
is_shut written Record = false
is_shut written State = is_changed (file_of written.saved)

-- the room that is left in a channel
abbrev pub room_left : MemSink → Chan → ℕ
room_left m chan = if is_shut (channels_of m) chan then 0 else room (limits_of m) chan - length (bytes_on (channels_of m) chan)

-- how many of so many bytes the next write takes
abbrev pub taken : MemSink → Chan → ℕ → ℕ
taken m chan count = min (min (limits_of m).most count) (room_left m chan)

-- the next call is one of those that are to fail
abbrev pub next_named : MemSink → Bool
next_named m = list_any (names_write (raised m.calls) (raised m.calls)) m.fails.items

-- a write to this channel is to fail
abbrev pub next_fails : MemSink → Chan → Bool
next_fails m chan = next_named m || room_left m chan == 0

-- a change of the state's file is to fail
abbrev pub change_fails : MemSink → Bool
change_fails m = next_named m || is_changed (file_of (channels_of m).saved)
