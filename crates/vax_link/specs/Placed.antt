-- What the code keeps of where sections lie, and of what names and fields are there.
use Rattle.std.specs.Prelude.{◌≡◌, ℕ, ◌<◌, List, length, map, slice_index}
use Rattle.std.specs.Global.{Vec}
use Rattle.vax_module.specs.declared.Section.{Section}
use Rattle.vax_module.specs.declared.Module.{Module}
use Rattle.vax_image.specs.declared.Base.{Base}
use Rattle.vax_link.specs.declared.placed.Layout.{Layout}
use Rattle.vax_link.specs.declared.fields.Values.{Values}
use Rattle.vax_link.specs.Layout.{pieces_of, first_piece, sections_in}
use Rattle.vax_link.specs.Values.{external_value}

-- the bytes of pieces
abbrev pub bytes_in : List (Vec ℕ) → List (List ℕ)
bytes_in pieces = map (λ v. v.items) pieces

-- the place of each module's first section among the pieces
pub record AreFirsts (modules : List Module) (firsts : List ℕ) : Type 0 where
  pub count : length firsts ≡ length modules
  pub each : (owner : ℕ) → owner < length modules → slice_index firsts owner ≡ first_piece modules owner

-- where these modules lie
pub record IsLayout (layout : Layout) (region : Base) (modules : List Module) : Type 0 where
  pub place : layout.base ≡ region
  pub pieces : sections_in layout.pieces.items ≡ pieces_of modules
  pub firsts : AreFirsts modules layout.firsts.items

-- the values of each module's external names
abbrev pub external_values : Base → List Module → List (List ℕ)
external_values region modules = map (λ m. map (external_value region modules) m.externals) modules

-- what the names of these modules stand for, where they lie
pub record IsValues (values : Values) (region : Base) (modules : List Module) : Type 0 where
  pub layout : IsLayout values.layout region modules
  pub externals : bytes_in values.externals.items ≡ external_values region modules

-- these are the bytes of the pieces, as many of each as it has
abbrev pub IsFilling : List Section → List (List ℕ) → Type 0
IsFilling pieces filled = map length filled ≡ map (λ s. length s.bytes) pieces
