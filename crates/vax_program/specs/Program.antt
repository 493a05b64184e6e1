-- What the files of a program come to: an image, or the first refusal.
use Rattle.std.specs.Prelude.{ℕ, suc, List, [], ◌∷◌, Result, Ok, Err, Bool, true, false, ◌||◌, codes, take, if◌then◌else◌}
use Rattle.std.specs.Str.{bytes_eq}
use Rattle.vax_asm.specs.Walk.{assembled}
use Rattle.vax_asm_second.specs.declared.types.Fault.{Fault}
use Rattle.vax_dialect.specs.declared.Dialect.{Dialect}
use Rattle.vax_elf.specs.Executable.{is_executable}
use Rattle.vax_elf.specs.Faults.{code_of as elf_code_of}
use Rattle.vax_elf.specs.Reading as elf
use Rattle.vax_elf.specs.declared.faults.ElfError.{ElfError}
use Rattle.vax_elf.specs.declared.faults.ElfError.TheVariants as elf_error
use Rattle.vax_image.specs.Reading.{image_of}
use Rattle.vax_image.specs.declared.Base.{Base}
use Rattle.vax_image.specs.declared.Base.TheVariants.{Bare, User}
use Rattle.vax_image.specs.declared.Image.{Image}
use Rattle.vax_image.specs.declared.ImageError.{ImageError}
use Rattle.vax_image.specs.declared.ImageError.TheVariants as image_error
use Rattle.vax_link.specs.Linked.{linked}
use Rattle.vax_link.specs.declared.LinkError.{LinkError}
use Rattle.vax_link.specs.declared.LinkError.TheVariants as link_error
use Rattle.vax_macro.specs.Fault.{code_of}
use Rattle.vax_module.specs.declared.Module.{Module}

-- What files are: a linked program that stands alone, which is an image, or sources, each assembled, which are linked for a base.
pub data Parts : Type 0 where
  AnImage : Image → Parts
  Modules : Base → List Module → Parts

-- Why they are no program: a fault of a source, what the linker found, with a name or an address, or a fault of an image's file. The
-- answers of the linker that have no name have the empty one, and those without an address the address 0.
pub data Refusal : Type 0 where
  Source : (file line kind : ℕ) → Refusal
  Link : (kind : ℕ) → List ℕ → (address : ℕ) → Refusal
  InImage : (place kind : ℕ) → Refusal
  -- a fault of a source that is in one of the files that are read before it
  InPrelude : (file line kind : ℕ) → Refusal

-- a file of an image begins so
abbrev pub is_image : List ℕ → Bool
is_image bytes = bytes_eq (take 4 bytes) (codes "VAXI")

abbrev pub same_base : Base → Base → Bool
same_base Bare Bare = true
same_base User User = true
same_base _ _ = false

-- a linked program for another base has a fault at the field that tells its base
abbrev pub for_base : Base → (place kind : ℕ) → Image → Result Parts Refusal
for_base wanted place kind image = if same_base wanted image.base then Ok (AnImage image) else Err (InImage place kind)

abbrev pub from_image : Base → Result Image ImageError → Result Parts Refusal
from_image wanted (Ok image) = for_base wanted 6 3 image
from_image wanted (Err (image_error.Fault place kind)) = Err (InImage place kind)
from_image wanted (Err image_error.NoMemory) = Err (InImage 0 0)

-- a file of a linked program begins as that of an image or as an executable
abbrev pub is_linked : List ℕ → Bool
is_linked bytes = is_image bytes || is_executable bytes

-- an executable tells its base by where it begins
abbrev pub from_executable : Base → Result Image ElfError → Result Parts Refusal
from_executable wanted (Ok image) = for_base wanted 24 34 image
from_executable wanted (Err (elf_error.Fault place kind)) = Err (InImage place (elf_code_of kind))
from_executable wanted (Err elf_error.NoMemory) = Err (InImage 0 0)

-- a source's module, and those behind it
abbrev pub and_others : ℕ → Result Module Fault → Result (List Module) Refusal → Result (List Module) Refusal
and_others file (Err fault) others = Err (Source file fault.origin.line (code_of fault.kind))
and_others file (Ok m) (Ok others) = Ok (m ∷ others)
and_others file (Ok m) (Err refusal) = Err refusal

-- Sources of a dialect in order. A linked program among several files has a fault at its head.
abbrev pub modules_of : Dialect → ℕ → List (List ℕ) → Result (List Module) Refusal
modules_of dialect file [] = Ok []
modules_of dialect file (text ∷ texts) =
    if is_linked text then Err (InImage 0 11) else and_others file (assembled dialect text) (modules_of dialect (suc file) texts)

abbrev pub as_parts : Base → Result (List Module) Refusal → Result Parts Refusal
as_parts wanted (Ok modules) = Ok (Modules wanted modules)
as_parts wanted (Err refusal) = Err refusal

-- The parts of a program for a base, whose sources are of a dialect; its files are numbered from the first number on.
unfoldable pub parts_of : Dialect → Base → ℕ → List (List ℕ) → Result Parts Refusal
parts_of dialect base first [] = as_parts base (modules_of dialect first [])
parts_of dialect base first (text ∷ []) =
    if is_image text then from_image base (image_of text)
    else (if is_executable text then from_executable base (elf.image_of text) else as_parts base (modules_of dialect first (text ∷ [])))
parts_of dialect base first (text ∷ other ∷ texts) = as_parts base (modules_of dialect first (text ∷ other ∷ texts))

abbrev pub from_link : Result Image LinkError → Result Image Refusal
from_link (Ok image) = Ok image
from_link (Err (link_error.Undefined name)) = Err (Link 1 name 0)
from_link (Err (link_error.Duplicate name)) = Err (Link 2 name 0)
from_link (Err link_error.Pages) = Err (Link 3 [] 0)
from_link (Err link_error.NoTransfer) = Err (Link 4 [] 0)
from_link (Err (link_error.Reach address)) = Err (Link 5 [] address)
from_link (Err link_error.NoMemory) = Err (Link 0 [] 0)

-- the image of parts
unfoldable pub linked_of : Parts → Result Image Refusal
linked_of (AnImage image) = Ok image
linked_of (Modules base modules) = from_link (linked base modules)
