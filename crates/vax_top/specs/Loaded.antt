-- The programs of a command: what its files come to.
use Rattle.std.specs.Prelude.{◌≡◌, ℕ, suc, false, if◌then◌else◌, List, [], ◌∷◌, map, Option, Some, None, Result, Ok, Err}
use Rattle.vax_asm.specs.Walk.{assembled}
use Rattle.vax_dialect.specs.declared.Dialect.{Dialect}
use Rattle.vax_dialect.specs.declared.Dialect.TheVariants.{Vax}
use Rattle.vax_guest.specs.Executive.{executive_source}
use Rattle.vax_image.specs.declared.Base.{Base}
use Rattle.vax_image.specs.declared.Base.TheVariants as base
use Rattle.vax_image.specs.declared.Image.{Image}
use Rattle.vax_module.specs.declared.Module.{Module}
use Rattle.vax_program.specs.Program.{Parts, Refusal, Source, Link, InImage, InPrelude, and_others, as_parts, is_linked, parts_of, linked_of}
use Rattle.vax_prelude.specs.Preludes as prelude
use Rattle.vax_prelude.specs.Preludes.{Place, Prelude, joined, told_at}
use Rattle.vax_cli.specs.Words.{Text}
use Rattle.vax_command.specs.Loaded.{Loaded}
use Rattle.vax_command.specs.declared.status.Status.{Status}
use Rattle.vax_command.specs.declared.status.Status.TheVariants as status

abbrev pub alone : Result Image Refusal → Result Loaded Refusal
alone (Ok image) = Ok (record { system = image; user = None })
alone (Err refusal) = Err refusal

abbrev pub and_then : {X Y : Type 0} → Result X Refusal → (X → Result Y Refusal) → Result Y Refusal
and_then (Ok x) next = next x
and_then (Err refusal) next = Err refusal

-- The image of a program's files, which are numbered from 1; its sources are of a dialect.
abbrev pub image_from : Dialect → Base → List Text → Result Image Refusal
image_from dialect base texts = and_then (parts_of dialect base 1 texts) linked_of

-- The modules of sources of a dialect, numbered from the first number on. A file that begins as an image or an executable is a source here like any other.
abbrev pub sources_from : Dialect → ℕ → List Text → Result (List Module) Refusal
sources_from dialect file [] = Ok []
sources_from dialect file (text ∷ texts) = and_others file (assembled dialect text) (sources_from dialect (suc file) texts)

-- The image that sources are linked to, which are numbered from 1.
abbrev pub sources_image : Dialect → Base → List Text → Result Image Refusal
sources_image dialect base texts = and_then (as_parts base (sources_from dialect 1 texts)) linked_of

-- none of them begins as an image or an executable
abbrev pub AreSources : List Text → Type 0
AreSources [] = Unit {0}
AreSources (text ∷ texts) = (is_linked text ≡ false) × AreSources texts

-- A program for the bare machine.
abbrev pub bare_loaded : Dialect → List Text → Result Loaded Refusal
bare_loaded dialect texts = alone (image_from dialect base.Bare texts)

-- A program in user mode and its system, whose file has number 0: both are assembled before either is linked.
abbrev pub linked_over : Parts → Parts → Result Loaded Refusal
linked_over user system =
    and_then (linked_of user) (λ program. and_then (linked_of system) (λ below. Ok (record { system = below; user = Some program })))

-- the parts of a system: those of its file, whose source is of the program's dialect, or of the executive, which is of the smaller one
abbrev pub system_parts : Dialect → Option Text → Result Parts Refusal
system_parts dialect None = parts_of Vax base.Bare 0 (executive_source ∷ [])
system_parts dialect (Some text) = parts_of dialect base.Bare 0 (text ∷ [])

abbrev pub user_loaded : Dialect → List Text → (system : Option Text) → Result Loaded Refusal
user_loaded dialect texts system =
    and_then (parts_of dialect base.User 1 texts) (λ user. and_then (system_parts dialect system) (λ below. linked_over user below))

-- how a refusal is answered
abbrev pub refused_as : Refusal → Status
refused_as (Source file line kind) = status.Refused file line kind
refused_as (Link kind name address) = status.Link kind name address
refused_as (InImage place kind) = status.Image place kind
refused_as (InPrelude file line kind) = status.Macros file line kind

-- why files come to nothing
pub record IsRefused {X : Type 0} (loaded : Result X Refusal) (status : Status) : Type 0 where
  pub refusal : Refusal
  pub found : loaded ≡ Err refusal
  pub answer : status ≡ refused_as refusal

-- What is read for a file: a source begins with its preludes. A linked program has none.
abbrev pub joined_file : List Prelude → Text → Text
joined_file preludes text = if is_linked text then text else joined preludes text

abbrev pub joined_files : List Prelude → List Text → List Text
joined_files preludes texts = map (joined_file preludes) texts

-- a fault at a line of that is one of a prelude, or one of the source
abbrev pub placed : (file kind : ℕ) → Place → Refusal
placed file kind (prelude.InPrelude number name line) = InPrelude number line kind
placed file kind (prelude.InSource line) = Source file line kind

abbrev pub told_of : List Prelude → Refusal → Refusal
told_of preludes (Source file line kind) = placed file kind (told_at preludes line)
told_of preludes (Link kind name address) = Link kind name address
told_of preludes (InImage place kind) = InImage place kind
told_of preludes (InPrelude file line kind) = InPrelude file line kind

-- what files come to, with a fault told where it is
abbrev pub told_in : {X : Type 0} → List Prelude → Result X Refusal → Result X Refusal
told_in preludes (Ok x) = Ok x
told_in preludes (Err refusal) = Err (told_of preludes refusal)

-- the image of a program's files, whose sources have these preludes
abbrev pub image_for : List Prelude → Dialect → Base → List Text → Result Image Refusal
image_for preludes dialect base texts = told_in preludes (image_from dialect base (joined_files preludes texts))

-- the answer to a refusal, told where it is
abbrev pub placed_as : (file kind : ℕ) → Place → Status
placed_as file kind (prelude.InPrelude number name line) = status.Macros number line kind
placed_as file kind (prelude.InSource line) = status.Refused file line kind
