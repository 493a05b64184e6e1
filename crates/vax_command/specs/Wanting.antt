-- The files that a command reads where the first of them may be the file of a saved state, which may have more bytes than another.
use Rattle.std.specs.Prelude.{◌≡◌, ℕ, List, [], ◌∷◌, Option, None, Some, IfSome, Result, Ok, Err}
use Rattle.vax_outside.specs.Directory.{Directory, read_result}
use Rattle.vax_outside.specs.declared.traits.FilesFault.{FilesFault}
use Rattle.vax_cli.specs.Words.{Options, Text}
use Rattle.vax_command.specs.Around.{Change, HasFailed}
use Rattle.vax_command.specs.Reading.{EndsBy, Sought, Texts, joined_reads, of_options, read_files, texts_of}
use Rattle.vax_command.specs.declared.status.Status.{Status}

-- the most bytes of the file of a saved state
abbrev pub saved_limit : ℕ
saved_limit = 67108864

-- the file of a saved state, if there is one, and the others
pub record Wanted : Type 0 where
  pub saved : Option Text
  pub names : List Sought

-- none is that of a saved state
abbrev pub plain : List Sought → Wanted
plain names = record { saved = None; names = names }

-- what the read of one file gives that has at most so many bytes
abbrev pub read_one : Directory → Text → ℕ → Result (List Text) (Text × FilesFault)
read_one files name limit = joined_reads name (read_result files name limit) (Ok [])

abbrev pub ReadsOne : Option Directory → Text → ℕ → Result (List Text) (Text × FilesFault) → Type 0
ReadsOne contents name limit given = IfSome contents (λ files. read_one files name limit ≡ given)

abbrev pub read_first : Directory → Option Text → Result (List Text) (Text × FilesFault) → Result (List Text) (Text × FilesFault)
read_first files None rest = rest
read_first files (Some name) rest = joined_reads name (read_result files name saved_limit) rest

-- their bytes in order, or the first name that can't be read, and why
abbrev pub read_wanted : Directory → Wanted → Result (List Text) (Text × FilesFault)
read_wanted files wanted = read_first files wanted.saved (read_files files wanted.names)

abbrev pub ReadsWanted : Option Directory → Wanted → Result (List Text) (Text × FilesFault) → Type 0
ReadsWanted contents wanted given = IfSome contents (λ files. read_wanted files wanted ≡ given)

-- when reading one, or all of them, ends the call
abbrev pub OneEnds : Change Directory → Text → ℕ → Status → Type 0
OneEnds files name limit status = EndsBy (HasFailed files) (λ why. ReadsOne files.before.told name limit (Err why)) status

abbrev pub WantedEnds : Change Directory → Wanted → Status → Type 0
WantedEnds files wanted status = EndsBy (HasFailed files) (λ why. ReadsWanted files.before.told wanted (Err why)) status

-- the files of a run that goes on from the saved state of this name
abbrev pub resumed_files : Text → Options → Wanted
resumed_files name options = record { saved = Some name; names = of_options options None }

-- reading them gives the bytes of the state, and these texts
pub record HasSaved (contents : Option Directory) (name : Text) (options : Options) (bytes : Text) (texts : Texts) : Type 0 where
  pub files : List Text
  pub read : ReadsWanted contents (resumed_files name options) (Ok (bytes ∷ files))
  pub are : texts_of 0 options None files ≡ texts
