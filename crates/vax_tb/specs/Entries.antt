-- The places of a translation buffer.
use Rattle.std.specs.Prelude.{◌≡◌, ℕ, ◌%◌, ◌<◌, ◌≤◌, Bool, true, false, ◌==◌, if◌then◌else◌, Option, Some, None, List, [], slice_index_or, length}
use Rattle.vax_space.specs.declared.Access.{Access}
use Rattle.vax_table.specs.declared.Walk.{Walk}
use Rattle.vax_table.specs.declared.Walk.TheVariants.{Resident, Absent, Outside}
use Rattle.vax_space.specs.declared.Right.{Right}
use Rattle.vax_space.specs.declared.Right.TheVariants.{Nothing, ReadOnly, ReadWrite}
use Rattle.vax_space.specs.Protection.{permits, right_of}
use Rattle.vax_tb.specs.declared.buffer.Entry.{Entry}
use Rattle.vax_tb.specs.declared.buffer.Said.{Said}
use Rattle.vax_tb.specs.declared.buffer.Said.TheVariants as said
use Rattle.vax_tb.specs.Buffer.{at_once}

abbrev pub no_entry : Entry
no_entry = record { page = 0; frame = 0; rights = []; said = said.Nothing }

-- a right without writes to a page that isn't modified
abbrev pub unless_new : Right → Bool → Right
unless_new Nothing modified = Nothing
unless_new ReadOnly modified = ReadOnly
unless_new ReadWrite false = ReadOnly
unless_new ReadWrite true = ReadWrite

-- what each mode may do at once to a page with this protection code
pub record HaveRights (prot : ℕ) (modified : Bool) (rights : List Right) : Type 0 where
  pub modes : length rights ≡ 4
  pub each : (mode : ℕ) → slice_index_or rights mode Nothing ≡ unless_new (right_of prot mode) modified

-- what an entry says of its page, none where it is of no page
abbrev pub told_by : ℕ → Said → Option Walk
told_by frame said.Nothing = None
told_by frame (said.Resident prot modified) = Some (Resident frame prot modified)
told_by frame (said.Absent prot) = Some (Absent prot)
told_by frame (said.Outside past) = Some (Outside past)

abbrev pub told : Entry → Option Walk
told entry = told_by entry.frame entry.said

-- the entry of a page, by the page's low seven bits
unfoldable pub entry_for : List Entry → ℕ → Option Walk
entry_for entries page =
    let entry = slice_index_or entries (page % 128) no_entry in
    if entry.page == page then told entry else None

-- what each mode may do at once is what the entry says
pub record AreRights (entry : Entry) : Type 0 where
  pub modes : length entry.rights ≡ 4
  pub rights : (mode : ℕ) (access : Access) → mode ≤ 3 →
      (if permits (slice_index_or entry.rights mode Nothing) access then Some entry.frame else None) ≡ at_once (told entry) mode access

pub record AreSound (entries : List Entry) : Type 0 where
  pub size : length entries ≡ 128
  pub each : (place : ℕ) → place < 128 → AreRights (slice_index_or entries place no_entry)
