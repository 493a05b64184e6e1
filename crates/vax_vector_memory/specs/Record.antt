-- What a memory keeps of the accesses to it.
use Rattle.std.specs.Prelude.{◌≡◌, ℕ, Bool, true, false, List, [], ◌∷◌, ◌++◌, map, IsTrue}
use Rattle.vax_space.specs.declared.Access.{Access}
use Rattle.vax_flat.specs.Port.{View}
use Rattle.vax_undo.specs.Plain.{view_of as plain_view}
use Rattle.vax_undo.specs.Trail.{Made, Trail, KeptUpTo, NoneKept}
use Rattle.vax_vectors.specs.declared.vector.Touch.{Touch}
use Rattle.vax_vectors.specs.Truth.{AreInOrder, bytes_after}
use Rattle.vax_vector_memory.specs.declared.recorder.Recorder.{Recorder}

-- the pages by the areas that say what a mode may do, and the bytes by areas to which every mode may do all
abbrev pub view_of : Recorder → View
view_of r = record (plain_view r.memory) { areas = r.rights }

-- an access as it was made
abbrev pub made_of : Touch → Made
made_of t = record { access = t.access; addr = t.addr; bytes = t.bytes.items }

-- how many accesses are kept at most
abbrev pub most_kept : ℕ
most_kept = 4096

abbrev pub trail_by : Bool → List Touch → Trail
trail_by true touches = KeptUpTo most_kept (map made_of touches)
trail_by false touches = NoneKept

-- the accesses that were made since it was told to forget them, where all are kept
abbrev pub trail_of : Recorder → Trail
trail_of r = trail_by r.complete r.touches.items

-- one access more is kept
pub record Keeps (old new : Recorder) (access : Access) (addr : ℕ) (bytes : List ℕ) : Type 0 where
  pub complete : IsTrue old.complete
  pub touch : Touch
  pub more : new.touches.items ≡ old.touches.items ++ touch ∷ []
  pub access_is : touch.access ≡ access
  pub addr_is : touch.addr ≡ addr
  pub bytes_are : touch.bytes.items ≡ bytes

-- what was kept between two states of a memory is what was read and written between them
pub record IsKept (start now : Recorder) : Type 0 where
  pub complete : IsTrue start.complete
  pub touches : List Touch
  pub more : now.touches.items ≡ start.touches.items ++ touches
  pub order : AreInOrder (view_of start).byte touches
  pub bytes : (view_of now).byte ≡ bytes_after (view_of start).byte touches

-- all was kept between two states of a memory, where the second says that it keeps all
abbrev pub Since : Recorder → Recorder → Type 0
Since start now = IsTrue now.complete → IsKept start now
