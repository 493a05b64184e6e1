-- What stands where in an image (VAX/VMS Linker Reference Manual, "Image section generation" and "Relocation").
use Rattle.std.specs.Prelude.{◌≡◌, ℕ, ◌+◌, ◌^◌, ◌<◌, ◌≤◌, ◌⊎◌, ◌≢◌, true, List, All, Contains, Some, slice_get}
use Rattle.vax_flat.specs.Memory.{byte_at}
use Rattle.vax_image.specs.declared.Image.{Image}
use Rattle.vax_image.specs.Image.{is_in}
use Rattle.vax_link.specs.Names.{module_at}
use Rattle.vax_module.specs.Formed.{end_of}
use Rattle.vax_module.specs.declared.Module.{Module}
use Rattle.vax_module.specs.declared.Reloc.{Reloc}
use Rattle.vax_module.specs.declared.Section.{Section}
use Rattle.vax_module.specs.declared.Symbol.{Symbol}

-- an area has the address, which has 32 bits, and this byte there
pub record Holds (image : Image) (address byte : ℕ) : Type 0 where
  pub below : address < 2 ^ 32
  pub there : is_in image.areas address ≡ true
  pub held : byte_at image.areas address ≡ byte

-- a module has a section with this number
abbrev pub HasSection : List Module → (owner number : ℕ) → Section → Type 0
HasSection modules owner number s = slice_get (module_at modules owner).sections number ≡ Some s

-- a module has a field that the linker fills in
abbrev pub HasField : List Module → (owner : ℕ) → Reloc → Type 0
HasField modules owner r = Contains (module_at modules owner).relocs r

-- a module defines a global name
abbrev pub HasName : List Module → (owner : ℕ) → Symbol → Type 0
HasName modules owner g = Contains (module_at modules owner).globals g

-- the field doesn't have this byte of a section
abbrev pub Misses : (number place : ℕ) → Reloc → Type 0
Misses number place r = r.section ≡ number → (place < r.offset) ⊎ (end_of r ≤ place)

-- the linker fills in no field that has this byte of a module's section
abbrev pub IsOwn : List Module → (owner number place : ℕ) → Type 0
IsOwn modules owner number place = All (Misses number place) (module_at modules owner).relocs

-- they aren't one section
abbrev pub AreOthers : (owner number other index : ℕ) → Type 0
AreOthers owner number other index = (owner ≢ other) ⊎ (number ≢ index)

-- two ranges of addresses have none in common
abbrev pub LieApart : (first size other more : ℕ) → Type 0
LieApart first size other more = (first + size ≤ other) ⊎ (other + more ≤ first)
