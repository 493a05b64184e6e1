-- What the code's types mean.
use Rattle.std.specs.Prelude.{◌≡◌, ◌≤◌, ℕ, All, List, Vec, length, map, Result, Ok, Err}
use Rattle.std.specs.Global.{Global}
use Rattle.vax_image.specs.declared.Base.{Base}
use Rattle.vax_image.specs.declared.Image.{Image}
use Rattle.vax_image.specs.Image.{IsImage}
use Rattle.vax_module.specs.Formed.{Formed}
use Rattle.vax_program.specs.Program as specs
use Rattle.vax_program.specs.Program.{Link, Source, InImage}
use Rattle.vax_program.specs.declared.types.Refusal.{Refusal}
use Rattle.vax_program.specs.declared.types.Refusal.TheVariants as refusals
use Rattle.vax_program.specs.declared.types.Parts.{Parts}
use Rattle.vax_program.specs.declared.types.Parts.TheVariants as parts
use Rattle.vax_program.specs.declared.types.ProgramError.{ProgramError}
use Rattle.vax_program.specs.declared.types.ProgramError.TheVariants.{Refused, NoMemory}

abbrev pub texts : List (Vec ℕ Global) → List (List ℕ)
texts files = map (λ v. v.items) files

abbrev pub refusal_seen : Refusal → specs.Refusal
refusal_seen (refusals.Source file line kind) = Source file line kind
refusal_seen (refusals.Link kind name address) = Link kind name address
refusal_seen (refusals.Image place kind) = InImage place kind

abbrev pub parts_seen : Parts → specs.Parts
parts_seen (parts.Image image) = specs.AnImage image
parts_seen (parts.Modules linked list) = specs.Modules linked list.items

-- the base that parts are for
abbrev pub base_of : Parts → Base
base_of (parts.Image image) = image.base
base_of (parts.Modules linked list) = linked

-- they can be linked: an image, or 1 to 8 modules
abbrev pub IsSound : Parts → Type 0
IsSound (parts.Image image) = IsImage image
IsSound (parts.Modules linked list) = (1 ≤ length list.items) × (length list.items ≤ 8) × All Formed list.items

-- what is meant, or its refusal; memory may be refused at any time
abbrev pub Answers : {X Y : Type 0} → (X → Y) → Result X ProgramError → Result Y specs.Refusal → Type 0
Answers seen (Ok x) meant = meant ≡ Ok (seen x)
Answers seen (Err (Refused refusal)) meant = meant ≡ Err (refusal_seen refusal)
Answers seen (Err NoMemory) meant = Unit {0}
