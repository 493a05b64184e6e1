-- What `resume` does with its files.
use Rattle.std.specs.Prelude.{List, [], ◌∷◌, None}
use Rattle.vax_outside.specs.Channels.{Channels}
use Rattle.vax_cli.specs.Words.{Options, Text}
use Rattle.vax_command.specs.Around.{Outside}
use Rattle.vax_command.specs.Reading.{texts_of}
use Rattle.vax_command.specs.Resuming.{ResumesSo}
use Rattle.vax_command.specs.declared.status.Status.{Status}

-- the first is that of the saved state: a run goes on from there, unless the state or the schedule has a fault
abbrev pub ResumeDoes : Outside → (files : List Text) → Options → Status → Channels → Type 0
ResumeDoes outside [] options status grown = ⊥
ResumeDoes outside (saved ∷ files) options status grown = ResumesSo outside saved (texts_of 0 options None files).schedule options status grown
