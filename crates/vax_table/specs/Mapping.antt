-- What page tables mean: for each page, what a walk says of it.
use Rattle.std.specs.Prelude.{◌≡◌, ℕ, Bool, true, false, ◌==◌, if◌then◌else◌, Option, Some, None, List}
use Rattle.vax_space.specs.declared.Area.{Area}
use Rattle.vax_space.specs.Areas.{prot_of}
use Rattle.vax_space.specs.Reference.{is_past_region}
use Rattle.vax_table.specs.declared.Walk.{Walk}
use Rattle.vax_table.specs.declared.Walk.TheVariants.{Resident, Absent, Outside}

-- the frame that a page is in, and whether the page was modified
pub record Held : Type 0 where
  pub frame : ℕ
  pub modified : Bool

abbrev pub unmodified : ℕ → Held
unmodified frame = record { frame = frame; modified = false }

abbrev pub dirty : Held → Held
dirty held = record { frame = held.frame; modified = true }

abbrev pub present : Option Held → ℕ → Walk
present None prot = Absent prot
present (Some held) prot = Resident held.frame prot held.modified

abbrev pub inside : Option ℕ → Bool → Option Held → Walk
inside None past held = Outside past
inside (Some prot) past held = present held prot

-- the areas, and for each page what the last of the calls for it left
unfoldable pub mapped : List Area → (ℕ → Option Held) → ℕ → Walk
mapped areas held page = inside (prot_of areas page) (is_past_region areas page) (held page)

abbrev pub all_absent : ℕ → Option Held
all_absent page = None

-- a function of pages with a new value at one page
unfoldable pub changed : {X : Type 0} → (ℕ → X) → ℕ → X → ℕ → X
changed f page x q = if q == page then x else f q

-- what is said of one page changes, by what was said of it
abbrev pub ChangesAt : ℕ → (Walk → Walk) → (old new : ℕ → Walk) → Type 0
ChangesAt page now old new = new ≡ changed old page (now (old page))

-- tables that mean what was last done with each page mean it still, with this now done with one page
abbrev pub MapsAt : ℕ → ((ℕ → Option Held) → Option Held) → (old new : ℕ → Walk) → Type 0
MapsAt page now old new =
    (areas : List Area) → (held : ℕ → Option Held) → old ≡ mapped areas held → new ≡ mapped areas (changed held page (now held))

abbrev pub is_inside : Walk → Bool
is_inside (Resident frame prot modified) = true
is_inside (Absent prot) = true
is_inside (Outside past) = false

abbrev pub is_resident : Walk → Bool
is_resident (Resident frame prot modified) = true
is_resident (Absent prot) = false
is_resident (Outside past) = false

-- the protection code of a page, none where no area has it
abbrev pub prot_said : Walk → Option ℕ
prot_said (Resident frame prot modified) = Some prot
prot_said (Absent prot) = Some prot
prot_said (Outside past) = None

-- the frame that a resident page is in
abbrev pub frame_of : Walk → Option ℕ
frame_of (Resident frame prot modified) = Some frame
frame_of (Absent prot) = None
frame_of (Outside past) = None

-- no page is kept
abbrev pub none_kept : ℕ → Option ℕ
none_kept page = None

-- the page in a frame, not modified
abbrev pub set_in : Walk → ℕ → Walk
set_in (Resident old prot modified) frame = Resident frame prot false
set_in (Absent prot) frame = Resident frame prot false
set_in (Outside past) frame = Outside past

abbrev pub cleared : Walk → Walk
cleared (Resident frame prot modified) = Absent prot
cleared (Absent prot) = Absent prot
cleared (Outside past) = Outside past

abbrev pub marked : Walk → Walk
marked (Resident frame prot modified) = Resident frame prot true
marked (Absent prot) = Absent prot
marked (Outside past) = Outside past
