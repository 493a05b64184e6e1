-- A program's sources, and their listing.
use Rattle.std.specs.Prelude.{◌≡◌, ℕ, ◌+◌, List, [], ◌∷◌, ◌++◌, length, map, Ok, Err}
use Rattle.std.specs.Global.{Vec}
use Rattle.vax_asm.specs.Walk.{assembled}
use Rattle.vax_dialect.specs.declared.Dialect.{Dialect}
use Rattle.vax_image.specs.declared.Base.{Base}
use Rattle.vax_image.specs.declared.Image.{Image}
use Rattle.vax_link.specs.Layout.{addresses, pieces_of}
use Rattle.vax_link.specs.Linked.{Gives, linked}
use Rattle.vax_link.specs.declared.LinkError.{LinkError}
use Rattle.vax_macro.specs.declared.error.FaultKind.{FaultKind}
use Rattle.vax_module.specs.declared.Module.{Module}
use Rattle.vax_asm_listing.specs.Listing.{Part, listing_of}
use Rattle.vax_asm_listing.specs.Rows.{IsTrace}
use Rattle.vax_asm_listing.specs.declared.program.ListingError.{ListingError}
use Rattle.vax_asm_listing.specs.declared.program.ListingError.TheVariants.{Source, Link, NoMemory}
use Rattle.vax_asm_listing.specs.declared.types.Notes.{Notes}

-- the module that a source is, and what its statements leave beside it
pub record IsTraced (dialect : Dialect) (source : List ℕ) (m : Module) (n : Notes) : Type 0 where
  pub assembles : assembled dialect source ≡ Ok m
  pub trace : IsTrace dialect source (record { «module» = m; notes = n })

abbrev pub AreTraced : Dialect → List (List ℕ) → List Module → List Notes → Type 0
AreTraced dialect [] [] [] = Unit {0}
AreTraced dialect (s ∷ sources) (m ∷ modules) (n ∷ notes) = IsTraced dialect s m n × AreTraced dialect sources modules notes
AreTraced _ _ _ _ = ⊥

-- modules with their sources and what these leave, as they are listed
abbrev pub parts_in : List (List ℕ) → List Module → List Notes → List Part
parts_in (s ∷ sources) (m ∷ modules) (n ∷ notes) =
    record { source = s; sections = m.sections; rows = n.rows.items; labels = n.labels.items } ∷ parts_in sources modules notes
parts_in _ _ _ = []

-- the bytes of files
abbrev pub texts : List (Vec ℕ) → List (List ℕ)
texts files = map (λ v. v.items) files

-- The listing of sources of a dialect for a base: of the modules that they are, and of the image that these are linked to. So the bytes that stand beside a
-- statement are those that the image has at its address.
pub record IsListing (dialect : Dialect) (region : Base) (sources : List (List ℕ)) (text : List ℕ) : Type 0 where
  pub modules : List Module
  pub notes : List Notes
  pub image : Image
  pub traced : AreTraced dialect sources modules notes
  pub links : linked region modules ≡ Ok image
  pub listed : text ≡ listing_of image.areas (addresses region (pieces_of modules)) (parts_in sources modules notes) image.transfer

-- why a source, which is this one of several, has no module; memory may be refused at any time
abbrev pub FileRefuses : Dialect → (source : List ℕ) → (number : ℕ) → ListingError → Type 0
FileRefuses dialect source number NoMemory = Unit {0}
FileRefuses dialect source number (Source file line kind) = (file ≡ number) × ((place : ℕ) × (assembled dialect source ≡ Err (record { origin = record { line = line; place = place }; kind = kind })))
FileRefuses dialect source number (Link e) = ⊥

-- the first of several sources that has a fault, by its number from 1 on, and that fault: those before it have modules
pub record IsFaulty (dialect : Dialect) (sources : List (List ℕ)) (file line : ℕ) (kind : FaultKind) : Type 0 where
  pub before : List (List ℕ)
  pub source : List ℕ
  pub rest : List (List ℕ)
  pub modules : List Module
  pub notes : List Notes
  pub are : sources ≡ before ++ source ∷ rest
  pub traced : AreTraced dialect before modules notes
  pub faulty : FileRefuses dialect source (length before + 1) (Source file line kind)

abbrev pub FilesRefuse : Dialect → List (List ℕ) → ListingError → Type 0
FilesRefuse dialect sources NoMemory = Unit {0}
FilesRefuse dialect sources (Source file line kind) = IsFaulty dialect sources file line kind
FilesRefuse dialect sources (Link e) = ⊥

-- what the linker finds of the modules that sources are
pub record IsUnlinked (dialect : Dialect) (region : Base) (sources : List (List ℕ)) (e : LinkError) : Type 0 where
  pub modules : List Module
  pub notes : List Notes
  pub traced : AreTraced dialect sources modules notes
  pub found : Gives (Err e) (linked region modules)

abbrev pub LinkRefuses : Base → List Module → ListingError → Type 0
LinkRefuses region modules NoMemory = Unit {0}
LinkRefuses region modules (Source file line kind) = ⊥
LinkRefuses region modules (Link e) = Gives (Err e) (linked region modules)

-- why sources have no listing
abbrev pub Refuses : Dialect → Base → List (List ℕ) → ListingError → Type 0
Refuses dialect region sources NoMemory = Unit {0}
Refuses dialect region sources (Source file line kind) = IsFaulty dialect sources file line kind
Refuses dialect region sources (Link e) = IsUnlinked dialect region sources e
