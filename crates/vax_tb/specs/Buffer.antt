-- What a translation buffer keeps: for some pages what the page tables say of them
-- (VAX Architecture Reference Manual, memory management, translation buffer).
use Rattle.std.specs.Prelude.{◌≡◌, ℕ, ◌%◌, ◌+◌, ◌-◌, ◌^◌, min, Bool, true, false, ◌==◌, ◌&&◌, if◌then◌else◌, Option, Some, None}
use Rattle.vax_space.specs.declared.Access.{Access}
use Rattle.vax_space.specs.declared.Access.TheVariants.{Read, Write}
use Rattle.vax_space.specs.Protection.{allows}
use Rattle.vax_table.specs.declared.Walk.{Walk}
use Rattle.vax_table.specs.declared.Walk.TheVariants.{Resident, Absent, Outside}

-- each entry is the tables' answer for its page
pub record Agrees (buffered : ℕ → Option Walk) (walked : ℕ → Walk) : Type 0 where
  pub holds : (page : ℕ) (walk : Walk) → buffered page ≡ Some walk → walked page ≡ walk

-- a page's entry is there, which takes the place of any other with its low seven bits
unfoldable pub filled : (ℕ → Option Walk) → ℕ → Walk → ℕ → Option Walk
filled buffered page walk other =
    if other == page then Some walk else (if other % 128 == page % 128 then None else buffered other)

-- the same where the entry comes in
abbrev pub filled_if : Bool → (ℕ → Option Walk) → ℕ → Walk → ℕ → Option Walk
filled_if true buffered page walk = filled buffered page walk
filled_if false buffered page walk = buffered

-- a page's entry is dropped
unfoldable pub dropped : (ℕ → Option Walk) → ℕ → ℕ → Option Walk
dropped buffered page other = if other == page then None else buffered other

abbrev pub empty : ℕ → Option Walk
empty page = None

-- an access that changes no entry of the tables: a read, or a write to a modified page
abbrev pub leaves_entry : Access → Bool → Bool
leaves_entry Read modified = true
leaves_entry Write modified = modified

-- the frame in which an access may be made with no look at the tables
abbrev pub at_once : Option Walk → ℕ → Access → Option ℕ
at_once None mode access = None
at_once (Some (Resident frame prot modified)) mode access =
    if allows prot mode access && leaves_entry access modified then Some frame else None
at_once (Some (Absent prot)) mode access = None
at_once (Some (Outside past)) mode access = None

-- one more where it is so; the count stands still at the last value of 64 bits
abbrev pub raised_if : Bool → ℕ → ℕ
raised_if true count = min (count + 1) (2 ^ 64 - 1)
raised_if false count = count
