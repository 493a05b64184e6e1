-- What a tree of accesses does to the whole memory of the flat machine.
use Rattle.std.specs.Prelude.{ℕ, Option, Some, None, Bool, true, false, if◌then◌else◌, List, [], ◌∷◌, length}
use Rattle.vax_space.specs.declared.Access.TheVariants.{Read, Write}
use Rattle.vax_space.specs.declared.Area.{Area}
use Rattle.vax_space.specs.declared.Violation.{Violation}
use Rattle.vax_flat.specs.declared.Exception.{Exception}
use Rattle.vax_flat.specs.declared.Exception.TheVariants as exception
use Rattle.vax_space.specs.Reference.{violation}
use Rattle.vax_flat.specs.Memory.{byte_at, number, bytes_from, written, written_run}
use Rattle.vax_flat.specs.Port.{first_absent, marking}
use Rattle.vax_flat.specs.Accesses.{Accesses, Done, Raises, Checks, Asks, Reads, Writes, ReadsRun, WritesRun}

-- it comes to its end with this memory, or raises an exception
pub data Outcome (A : Type 0) : Type 0 where
  Ends : A → List Area → Outcome A
  Raised : Exception → Outcome A

abbrev pub unless_violated : {A : Type 0} → Option Violation → Outcome A → Outcome A
unless_violated (Some v) outcome = Raised (exception.Access v)
unless_violated None outcome = outcome

abbrev pub is_allowed : Option Violation → Bool
is_allowed (Some v) = false
is_allowed None = true

unfoldable pub outcome_of : {A : Type 0} → Accesses A → List Area → Outcome A
outcome_of (Done x) memory = Ends x memory
outcome_of (Raises e) memory = Raised e
outcome_of (Checks addr len mode access next) memory =
    unless_violated (violation memory addr len mode access) (outcome_of next memory)
outcome_of (Asks addr len mode access next) memory =
    outcome_of (next (is_allowed (violation memory addr len mode access))) memory
outcome_of (Reads addr len mode next) memory =
    unless_violated (violation memory addr len mode Read) (outcome_of (next (number (byte_at memory) addr len)) memory)
outcome_of (Writes addr len value mode next) memory =
    unless_violated (violation memory addr len mode Write) (outcome_of next (written memory addr len value))
outcome_of (ReadsRun addr len mode next) memory =
    unless_violated (violation memory addr len mode Read) (outcome_of (next (bytes_from (byte_at memory) addr len)) memory)
outcome_of (WritesRun addr bytes mode next) memory =
    unless_violated (violation memory addr (length bytes) mode Write) (outcome_of next (written_run memory addr bytes))

-- a range of bytes that is read or written
pub record Range : Type 0 where
  pub addr : ℕ
  pub len : ℕ
  pub writes : Bool

abbrev pub unless_stopped : Option Violation → List Range → List Range
unless_stopped (Some v) ranges = []
unless_stopped None ranges = ranges

-- the ranges that it reads or writes, in order, up to its end or its exception
unfoldable pub touches_of : {A : Type 0} → Accesses A → List Area → List Range
touches_of (Done x) memory = []
touches_of (Raises e) memory = []
touches_of (Checks addr len mode access next) memory =
    unless_stopped (violation memory addr len mode access) (touches_of next memory)
touches_of (Asks addr len mode access next) memory =
    touches_of (next (is_allowed (violation memory addr len mode access))) memory
touches_of (Reads addr len mode next) memory =
    unless_stopped (violation memory addr len mode Read)
    (record { addr = addr; len = len; writes = false } ∷ touches_of (next (number (byte_at memory) addr len)) memory)
touches_of (Writes addr len value mode next) memory =
    unless_stopped (violation memory addr len mode Write)
    (record { addr = addr; len = len; writes = true } ∷ touches_of next (written memory addr len value))
touches_of (ReadsRun addr len mode next) memory =
    unless_stopped (violation memory addr len mode Read)
    (record { addr = addr; len = len; writes = false } ∷ touches_of (next (bytes_from (byte_at memory) addr len)) memory)
touches_of (WritesRun addr bytes mode next) memory =
    unless_stopped (violation memory addr (length bytes) mode Write)
    (record { addr = addr; len = length bytes; writes = true } ∷ touches_of next (written_run memory addr bytes))

abbrev pub or_else : Option ℕ → Option ℕ → Option ℕ
or_else (Some page) other = Some page
or_else None other = other

-- the first page of these ranges that is absent
unfoldable pub first_missing : (ℕ → Bool) → List Range → Option ℕ
first_missing resident [] = None
first_missing resident (range ∷ ranges) =
    or_else (first_absent resident range.addr range.len) (first_missing resident ranges)

abbrev pub marked_after : (ℕ → Bool) → Range → ℕ → Bool
marked_after marked range = if range.writes then marking marked range.addr range.len else marked

abbrev pub unless_absent : Option ℕ → (ℕ → Bool) → (ℕ → Bool) → ℕ → Bool
unless_absent (Some page) stopped next = stopped
unless_absent None stopped next = next

-- the pages that are marked after these ranges: those of each range that is written, up to the first range that has an absent page
unfoldable pub marked_by : (ℕ → Bool) → (ℕ → Bool) → List Range → ℕ → Bool
marked_by resident marked [] = marked
marked_by resident marked (range ∷ ranges) =
    unless_absent (first_absent resident range.addr range.len) marked (marked_by resident (marked_after marked range) ranges)
