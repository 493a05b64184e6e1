-- The image of modules, or why they have none.
use Rattle.std.specs.Prelude.{◌≡◌, ℕ, suc, ◌-◌, Bool, true, false, not, ◌&&◌, ◌==◌, if◌then◌else◌, List, [], ◌∷◌, ◌++◌, length, replicate, Option, Some, None, Result, Ok, Err}
use Rattle.std.specs.List.{filter, filter_map, fold, zip}
use Rattle.vax_space.specs.declared.Area.{Area}
use Rattle.vax_module.specs.declared.Section.{Section}
use Rattle.vax_module.specs.declared.Module.{Module}
use Rattle.vax_image.specs.declared.Base.{Base}
use Rattle.vax_image.specs.declared.Base.TheVariants.{Bare, User}
use Rattle.vax_image.specs.declared.Image.{Image}
use Rattle.vax_image.specs.Image.{is_in}
use Rattle.vax_link.specs.declared.LinkError.{LinkError}
use Rattle.vax_link.specs.declared.LinkError.TheVariants.{Duplicate, Undefined, Pages, NoTransfer, Reach, NoMemory}
use Rattle.vax_link.specs.Names.{Name, duplicate, undefined}
use Rattle.vax_link.specs.Layout.{pieces_of, is_named, align_of, is_writable, aligned, is_control_block, pages_of, placed_names, is_too_large}
use Rattle.vax_link.specs.Values.{value_of, filled_from, unreached_from}

-- a section's bytes with those of one more piece: gaps hold 0, and so does what overlaid pieces cover behind these bytes
abbrev pub with_piece : Name → ℕ → List ℕ → Section × List ℕ → List ℕ
with_piece name align front (piece, bytes) =
    if is_named name piece && not (length bytes == 0) then front ++ (replicate (aligned align (length front) - length front) 0 ++ bytes) else front

abbrev pub bytes_of : List Section → List (List ℕ) → Name → List ℕ
bytes_of pieces filled name = fold (with_piece name (align_of name pieces)) [] (zip pieces filled)

-- what may write a section: every mode of a user's, the kernel alone of a bare program's, and none where it may not be
-- written; the control block belongs to the kernel
abbrev pub protection : Base → Bool → Bool → ℕ
protection region true write = 2
protection region false false = 15
protection Bare false true = 14
protection User false true = 4

-- the area of a section that begins at a page
abbrev pub area_of : Base → List Section → List (List ℕ) → Name × ℕ → Area
area_of region pieces filled (name, first) = record {
  first = first;
  pages = pages_of pieces name;
  prot = protection region (is_control_block region name) (is_writable name pieces);
  bytes = bytes_of pieces filled name;
}

-- none for an empty section
abbrev pub area_unless_empty : Base → List Section → List (List ℕ) → Name × ℕ → Option Area
area_unless_empty region pieces filled (name, first) = if pages_of pieces name == 0 then None else Some (area_of region pieces filled (name, first))

-- the control block, or another section
abbrev pub is_chosen : Base → Bool → Name × ℕ → Bool
is_chosen region true (name, first) = is_control_block region name
is_chosen region false (name, first) = not (is_control_block region name)

-- in ascending order: the control block first, then the others as they appear
abbrev pub ordered : Base → List (Name × ℕ) → List (Name × ℕ)
ordered region names = filter (is_chosen region true) names ++ filter (is_chosen region false) names

abbrev pub areas_of : Base → List Section → List (List ℕ) → List Area
areas_of region pieces filled = filter_map (area_unless_empty region pieces filled) (ordered region (placed_names region pieces))

-- the address of the first transfer name
unfoldable pub transfer_from : Base → List Module → ℕ → List Module → Option ℕ
transfer_from region modules owner [] = None
transfer_from region modules owner (m ∷ rest) = elim m.transfer [
  | None ↦ transfer_from region modules (suc owner) rest
  | Some symbol ↦ Some (value_of region modules owner symbol.value)
]

abbrev pub refuses : {X Y : Type 0} → Option X → (X → LinkError) → Result Y LinkError → Result Y LinkError
refuses None error next = next
refuses (Some x) error next = Err (error x)

abbrev pub begun : Base → List Area → Option ℕ → Result Image LinkError
begun region areas None = Err NoTransfer
begun region areas (Some transfer) = if is_in areas transfer then Ok (record { base = region; transfer = transfer; areas = areas }) else Err NoTransfer

abbrev pub reached : Option ℕ → Result Image LinkError → Result Image LinkError
reached found (Err e) = Err e
reached found (Ok image) = refuses found Reach (Ok image)

-- the image without regard to names and room
unfoldable pub placed : Base → List Module → Result Image LinkError
placed region modules =
    let areas = areas_of region (pieces_of modules) (filled_from region modules 0 modules) in
    reached (unreached_from region modules 0 None modules) (begun region areas (transfer_from region modules 0 modules))

-- the refusals in their order: a name that is defined twice, a name that isn't, no room, no beginning, a field out of
-- reach; else the image
unfoldable pub linked : Base → List Module → Result Image LinkError
linked region modules =
    refuses (duplicate modules) Duplicate
    (refuses (undefined modules) Undefined
    (if is_too_large region (pieces_of modules) then Err Pages else placed region modules))

-- what the linker returned, unless memory was refused
abbrev pub Gives : Result Image LinkError → Result Image LinkError → Type 0
Gives (Ok image) is = is ≡ Ok image
Gives (Err NoMemory) is = Unit {0}
Gives (Err (Duplicate name)) is = is ≡ Err (Duplicate name)
Gives (Err (Undefined name)) is = is ≡ Err (Undefined name)
Gives (Err Pages) is = is ≡ Err Pages
Gives (Err NoTransfer) is = is ≡ Err NoTransfer
Gives (Err (Reach address)) is = is ≡ Err (Reach address)
