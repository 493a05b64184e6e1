-- What `check` tells of a program.
use Rattle.std.specs.Prelude.{◌≡◌, ◌⊎◌, Bool, true, false, List, [], ◌∷◌, ◌++◌, take, drop, length, Option, None, Some, Result, Ok, Err}
use Rattle.vax_check.specs.Told.{Tells}
use Rattle.vax_cli.specs.Words.{Text}
use Rattle.vax_command.specs.Around.{Change}
use Rattle.vax_command.specs.Reading.{given}
use Rattle.vax_command.specs.Running.{LacksMemory}
use Rattle.vax_command.specs.declared.status.Part.{Part}
use Rattle.vax_command.specs.declared.status.Part.TheVariants as part
use Rattle.vax_command.specs.declared.status.Status.{Status}
use Rattle.vax_command.specs.declared.status.Status.TheVariants.{Done, Told}
use Rattle.vax_dialect.specs.declared.Dialect.{Dialect}
use Rattle.vax_image.specs.declared.Base.{Base}
use Rattle.vax_image.specs.declared.Base.TheVariants.{User, Bare}
use Rattle.vax_outside.specs.Blocks.{BlockFile}
use Rattle.vax_outside.specs.Channels.{Channels, only}
use Rattle.vax_outside.specs.declared.traits.Chan.TheVariants.{Out}
use Rattle.vax_prelude.specs.Preludes.{Title}
use Rattle.vax_program.specs.Program.{Refusal, Source, Link, InImage, InPrelude}
use Rattle.vax_top.specs.Loaded.{image_from, user_loaded}

-- why there is no program, if there is none
abbrev pub refusal_of : {X : Type 0} → Result X Refusal → Option Refusal
refusal_of (Ok x) = None
refusal_of (Err refusal) = Some refusal

-- Why files give no program, if they give none: no image for a base, or, where a system's file is given, none in user mode under this.
abbrev pub found_in : Dialect → Base → (files system : List Text) → Option Refusal
found_in dialect linked files [] = refusal_of (image_from dialect linked files)
found_in dialect linked files (system ∷ more) = refusal_of (user_loaded dialect files (Some system))

-- the names of a program's files, and behind them that of a system's, if it is given
abbrev pub checked_names : List Text → Option Text → List Text
checked_names names system = names ++ given system

-- the same of files, of which the first are the program's
abbrev pub found_of : Dialect → Base → List Text → (files : List Text) → Option Refusal
found_of dialect linked names files = found_in dialect linked (take (length names) files) (drop (length names) files)

-- a base is the bare machine's
abbrev pub is_bare : Base → Bool
is_bare User = false
is_bare Bare = true

-- what of a program keeps it from being built
abbrev pub part_of : Refusal → Part
part_of (Source file line kind) = part.Source
part_of (Link kind name address) = part.Link
part_of (InImage place kind) = part.Image
part_of (InPrelude file line kind) = part.Source

-- the answer to that
abbrev pub answer_of : Option Refusal → Status
answer_of None = Done
answer_of (Some refusal) = Told (part_of refusal)

-- What was found of a program, which may be one for the bare machine, was told on Out: no error of one that is built, and of any other what keeps it
-- from that; and then the remarks on its sources.
pub record IsTold (dialect : Dialect) (bare : Bool) (found : Option Refusal) (titles : List Title) (files : List Text) (status : Status) (grown : Channels) : Type 0 where
  pub text : Text
  pub tells : Tells dialect bare titles files found text
  pub answer : status ≡ answer_of found
  pub wrote : grown ≡ only Out text

-- what `check` does
abbrev pub CheckDoes : Change BlockFile → Dialect → (bare : Bool) → Option Refusal → List Title → (files : List Text) → Status → Channels → Type 0
CheckDoes pages dialect bare found titles files status grown = IsTold dialect bare found titles files status grown × pages.same

-- a program was checked so, or memory was refused before
abbrev pub IsChecking : Change BlockFile → Dialect → (bare : Bool) → Option Refusal → List Title → (files : List Text) → Status → Channels → Type 0
IsChecking pages dialect bare found titles files status grown = LacksMemory pages status grown ⊎ CheckDoes pages dialect bare found titles files status grown
