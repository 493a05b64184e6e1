-- Memory in which pages may be absent, as a port to it shows it.
use Rattle.std.specs.Prelude.{◌≡◌, ℕ, ◌<◌, suc, zero, ◌/◌, ◌%◌, ◌==◌, ◌||◌, Bool, true, false, if◌then◌else◌, Option, Some, None, Result, Ok, Err, List, [], ◌∷◌, length}
use Rattle.vax_space.specs.declared.Access.{Access}
use Rattle.vax_space.specs.declared.Access.TheVariants.{Read, Write}
use Rattle.vax_space.specs.declared.Area.{Area}
use Rattle.vax_space.specs.declared.Violation.{Violation}
use Rattle.vax_space.specs.Reference.{page_of, violation}
use Rattle.vax_flat.specs.declared.Cut.{Cut}
use Rattle.vax_flat.specs.declared.Cut.TheVariants.{Absent, Event}
use Rattle.vax_flat.specs.declared.Exception.TheVariants as exception
use Rattle.vax_flat.specs.declared.Stop.{Stop}
use Rattle.vax_flat.specs.declared.Stop.TheVariants.{NotResident, Violated}
use Rattle.vax_flat.specs.Memory.{after, byte_at, number, IsWhole}

-- the areas, of which the bytes don't count here; which pages are resident; the byte at each address of a resident page; and which pages are
-- marked as written to
pub record View : Type 0 where
  pub areas : List Area
  pub resident : ℕ → Bool
  pub byte : ℕ → ℕ
  pub marked : ℕ → Bool

-- a range has a byte in a page
unfoldable pub is_in : ℕ → ℕ → ℕ → Bool
is_in addr zero page = false
is_in addr (suc len) page = (page == page_of addr) || is_in (after addr) len page

-- the marks after a write to a range: its pages are marked too
abbrev pub marking : (ℕ → Bool) → ℕ → ℕ → ℕ → Bool
marking marked addr len page = marked page || is_in addr len page

abbrev pub with_marks : View → (ℕ → Bool) → View
with_marks view marked = record view { marked = marked }

-- what counts where the marks don't
abbrev pub unmarked : View → View
unmarked view = with_marks view (λ page. false)

-- the first page of a range that is absent
unfoldable pub first_absent : (ℕ → Bool) → ℕ → ℕ → Option ℕ
first_absent resident addr zero = None
first_absent resident addr (suc len) =
    if resident (page_of addr) then first_absent resident (after addr) len else Some (page_of addr)

abbrev pub stop_of : Option Violation → Option ℕ → Option Stop
stop_of (Some v) absent = Some (Violated v)
stop_of None (Some page) = Some (NotResident page)
stop_of None None = None

-- why a range can't be used, if it can't: first that it isn't allowed, then that a page is absent
abbrev pub stop : View → ℕ → ℕ → ℕ → Access → Option Stop
stop view addr len mode access = stop_of (violation view.areas addr len mode access) (first_absent view.resident addr len)

abbrev pub cut_of : Stop → Cut
cut_of (NotResident page) = Absent page
cut_of (Violated v) = Event (exception.Access v)

-- the bytes after a number of so many bytes was written
unfoldable pub put : (ℕ → ℕ) → ℕ → ℕ → ℕ → ℕ → ℕ
put byte addr zero value place = byte place
put byte addr (suc len) value place =
    if place == addr then value % 256 else put byte (after addr) len (value / 256) place

-- the bytes after a run was written
unfoldable pub put_run : (ℕ → ℕ) → ℕ → List ℕ → ℕ → ℕ
put_run byte addr [] place = byte place
put_run byte addr (b ∷ bs) place = if place == addr then b else put_run byte (after addr) bs place

abbrev pub with_number : View → ℕ → ℕ → ℕ → View
with_number view addr len value = record view { byte = put view.byte addr len value; marked = marking view.marked addr len }

abbrev pub with_run : View → ℕ → List ℕ → View
with_run view addr bytes = record view { byte = put_run view.byte addr bytes; marked = marking view.marked addr (length bytes) }

-- a number put back, which leaves the marks
abbrev pub with_number_back : View → ℕ → ℕ → ℕ → View
with_number_back view addr len value = record view { byte = put view.byte addr len value }

abbrev pub loaded_by : Option Stop → ℕ → Result ℕ Stop
loaded_by (Some s) value = Err s
loaded_by None value = Ok value

-- what a read of a number answers
abbrev pub loaded : View → ℕ → ℕ → ℕ → Result ℕ Stop
loaded view addr len mode = loaded_by (stop view addr len mode Read) (number view.byte addr len)

abbrev pub unless_cut : Option Stop → View → View → View
unless_cut (Some s) old new = old
unless_cut None old new = new

-- what a write leaves
abbrev pub stored : View → ℕ → ℕ → ℕ → ℕ → View
stored view addr len value mode =
    unless_cut (stop view addr len mode Write) view (with_number view addr len value)

abbrev pub stored_run : View → ℕ → List ℕ → ℕ → View
stored_run view addr bytes mode =
    unless_cut (stop view addr (length bytes) mode Write) view (with_run view addr bytes)

-- the areas alone, without their bytes
unfoldable pub layout : List Area → List Area
layout [] = []
layout (area ∷ areas) = record area { bytes = [] } ∷ layout areas

-- A port stands for each whole memory that has its areas, and its bytes on the resident pages.
pub record StandsFor (view : View) (memory : List Area) : Type 0 where
  pub areas : layout memory ≡ layout view.areas
  pub bytes : (addr : ℕ) → view.resident (page_of addr) ≡ true → view.byte addr ≡ byte_at memory addr
  pub whole : IsWhole memory

pub record AreBytes (byte : ℕ → ℕ) : Type 0 where
  pub below : (addr : ℕ) → byte addr < 256
