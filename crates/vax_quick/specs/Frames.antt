-- Frames that lie within one page.
use Rattle.std.specs.Prelude.{◌≡◌, ℕ, ◌*◌, ◌%◌, ◌^◌, ◌<◌, ◌≤◌, Bool, true, Option, Some, None, List}
use Rattle.vax_space.specs.declared.Access.TheVariants.{Write}
use Rattle.vax_space.specs.Reference.{page_of, may_access}
use Rattle.vax_word.specs.declared.Core.{Core}
use Rattle.vax_word.specs.Status.{mode_of}
use Rattle.vax_flat.specs.Field.{bits_of}
use Rattle.vax_flat.specs.State.{State}
use Rattle.vax_flat.specs.Accesses.{Accesses, Leaf}
use Rattle.vax_flat.specs.Port.{View, stop, with_number}
use Rattle.vax_quick.specs.Made.{Computer, GoesOn}

-- a call that gives a value makes the accesses of a tree; one that gives none says nothing
abbrev pub Finds : {X : Type 0} → (State → (X → State → Accesses Leaf) → Accesses Leaf) → Option X → Computer → Computer → Type 0
Finds tree None old new = Unit {0}
Finds tree (Some found) old new = GoesOn tree found old new

-- the same of a field of so many bits, as the number that they are
abbrev pub FindsBits : ℕ → (State → (List Bool → State → Accesses Leaf) → Accesses Leaf) → Option ℕ → Computer → Computer → Type 0
FindsBits size tree None old new = Unit {0}
FindsBits size tree (Some bits) old new = GoesOn tree (bits_of size bits) old new

-- nothing stops a write to so many bytes
abbrev pub MayWrite : View → Core → ℕ → ℕ → Type 0
MayWrite view core addr n = None ≡ stop view addr n (mode_of core.psl) Write

-- nothing stopped the write of a number
pub record IsWritten (old : View) (core : Core) (addr n value : ℕ) (new : View) : Type 0 where
  pub free : MayWrite old core addr n
  pub now : new ≡ with_number old addr n value

-- below an address there is room for so many longwords in its page, which may be written
pub record HasRoom (view : View) (core : Core) (top count : ℕ) : Type 0 where
  pub small : top < 2 ^ 32
  pub enough : 4 * count ≤ top % 512
  pub resident : view.resident (page_of top) ≡ true
  pub allowed : may_access view.areas (page_of top) (mode_of core.psl) Write ≡ true
