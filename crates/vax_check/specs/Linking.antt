-- What the linker found, as text: the files that are concerned, and the lines where it shows.
use Rattle.std.specs.Prelude.{ℕ, ◌&&◌, ◌==◌, nat_le, not, Bool, false, if◌then◌else◌, List, [], ◌∷◌, ◌++◌, length, codes, decimal, Option, None, Some, is_some, Result, Ok, Err}
use Rattle.std.specs.List.{filter, list_any}
use Rattle.std.specs.Str.{bytes_eq}
use Rattle.vax_asm.specs.Walk.{assembled}
use Rattle.vax_asm_causes.specs.Places.{first_line}
use Rattle.vax_asm_causes.specs.declared.places.Sought.TheVariants.{Anywhere, Definition}
use Rattle.vax_asm_second.specs.declared.types.Fault.{Fault}
use Rattle.vax_check.specs.declared.sources.Role.{Role}
use Rattle.vax_check.specs.declared.sources.Role.TheVariants.{Asks, Defines, Begins}
use Rattle.vax_dialect.specs.declared.Dialect.{Dialect}
use Rattle.vax_lines.specs.Lines.{Text}
use Rattle.vax_prelude.specs.Preludes.{Title, name_at, number_at}
use Rattle.vax_module.specs.declared.Module.{Module}
use Rattle.vax_outside.specs.Hex.{hex}
use Rattle.vax_program.specs.Program.{is_linked}

-- A file by its title and its bytes.
pub record File : Type 0 where
  pub title : Title
  pub text : Text

unfoldable pub files_of : List Title → (texts : List Text) → List File
files_of [] texts = []
files_of (title ∷ titles) [] = []
files_of (title ∷ titles) (text ∷ texts) = record { title = title; text = text } ∷ files_of titles texts

-- a module asks other files for a name that must be there, defines it for them, or says where the program begins
abbrev pub has_part : Role → (name : Text) → Module → Bool
has_part Asks name m = list_any (λ external. not external.weak && bytes_eq name external.name) m.externals
has_part Defines name m = list_any (λ symbol. bytes_eq name symbol.name) m.globals
has_part Begins name m = is_some m.transfer

abbrev pub has_part_so : Role → (name : Text) → Result Module Fault → Bool
has_part_so role name (Ok m) = has_part role name m
has_part_so role name (Err fault) = false

-- the same of a file: a source that assembles in a dialect
abbrev pub plays : Dialect → Role → (name : Text) → File → Bool
plays dialect role name file = if is_linked file.text then false else has_part_so role name (assembled dialect file.text)

-- the files that do
abbrev pub those : Dialect → Role → (name : Text) → List File → List File
those dialect role name files = filter (plays dialect role name) files

abbrev pub or_else : Option ℕ → Option ℕ → Option ℕ
or_else (Some line) other = Some line
or_else None other = other

-- the line of a source of a dialect where it does: where the name stands first, where it is defined, or where `.END` stands
abbrev pub line_for : Dialect → Role → (name source : Text) → Option ℕ
line_for dialect Asks name source = first_line dialect Anywhere name source
line_for dialect Defines name source = or_else (first_line dialect Definition name source) (first_line dialect Anywhere name source)
line_for dialect Begins name source = first_line dialect Anywhere (codes ".END") source

-- a place: a file, and a line of it where one is known
abbrev pub line_text : Title → Option ℕ → Text
line_text title None = title.name
line_text title (Some line) = name_at title line ++ codes ":" ++ decimal (number_at title line)

unfoldable pub spot : Dialect → Role → (name : Text) → File → Text
spot dialect role name file = line_text file.title (line_for dialect role name file.text)

-- the place of the first of these files
abbrev pub first_spot : Dialect → Role → (name : Text) → List File → Text
first_spot dialect role name [] = []
first_spot dialect role name (file ∷ files) = spot dialect role name file ++ codes ": "

-- no file defines a name
abbrev pub unknown_words : (name : Text) → Text
unknown_words name = codes "nothing defines the name " ++ name

-- what is wrong with a name without a value that these files define: nothing defines it, or its definition waits for itself
unfoldable pub undefined_words : Dialect → (name : Text) → (defining : List File) → Text
undefined_words dialect name [] = unknown_words name
undefined_words dialect name (file ∷ files) = codes "the definition of the name " ++ name ++ codes " goes in a circle; it is at " ++ spot dialect Defines name file

-- a name without a value, at the first file that asks for it
unfoldable pub undefined_text : Dialect → (name : Text) → List File → Text
undefined_text dialect name files =
    first_spot dialect Asks name (those dialect Asks name files) ++ codes "error: " ++ undefined_words dialect name (those dialect Defines name files) ++ codes "\n"

-- what is there a second time
abbrev pub twice_words : Role → (name : Text) → Text
twice_words Asks name = []
twice_words Defines name = codes "a second definition of the name " ++ name
twice_words Begins name = codes "a second beginning of the program"

-- that, at the second of these files, with the place in the first
abbrev pub second_text : Dialect → Role → (name : Text) → List File → Text
second_text dialect role name [] = codes "error: " ++ twice_words role name ++ codes "\n"
second_text dialect role name (first ∷ []) = codes "error: " ++ twice_words role name ++ codes "\n"
second_text dialect role name (first ∷ second ∷ more) =
    spot dialect role name second ++ codes ": error: " ++ twice_words role name ++ codes "; the first is at " ++ spot dialect role name first ++ codes "\n"

-- a name that two files define; where no two do, a second file that says where the program begins
unfoldable pub twice_text : Dialect → (name : Text) → List File → Text
twice_text dialect name files =
    if nat_le 2 (length (those dialect Defines name files)) then second_text dialect Defines name (those dialect Defines name files)
    else second_text dialect Begins name (those dialect Begins name files)

-- what else the linker found, in words
unfoldable pub link_words : ℕ → Text
link_words kind =
    if kind == 3 then codes "the program has too many pages or sections"
    else (if kind == 4 then codes "no file says where the program begins"
    else (if kind == 5 then codes "a distance to another file's name is too long at address "
    else codes "the program can't be linked"))

-- behind kind 5 stands an address
abbrev pub link_detail : ℕ → ℕ → Text
link_detail kind address = if kind == 5 then hex 8 address else []

-- the name of a file that stands alone
abbrev pub lone_file : List File → Text
lone_file [] = []
lone_file (file ∷ []) = file.title.name ++ codes ": "
lone_file (file ∷ other ∷ files) = []

unfoldable pub other_text : (kind address : ℕ) → List File → Text
other_text kind address files = lone_file files ++ codes "error: " ++ link_words kind ++ link_detail kind address ++ codes "\n"

-- the error of what the linker found, where the sources are of a dialect
unfoldable pub link_text : Dialect → (kind : ℕ) → (name : Text) → (address : ℕ) → List File → Text
link_text dialect kind name address files =
    if kind == 1 then undefined_text dialect name files else (if kind == 2 then twice_text dialect name files else other_text kind address files)
