-- What `vectors` comes to.
use Rattle.std.specs.Prelude.{◌≡◌, ◌⊎◌, ℕ, List}
use Rattle.vax_outside.specs.Blocks.{BlockFile}
use Rattle.vax_outside.specs.Channels.{Channels, only}
use Rattle.vax_outside.specs.declared.traits.Chan.TheVariants as channel
use Rattle.vax_cli.specs.declared.vectors.Opcodes.{Opcodes}
use Rattle.vax_cli.specs.declared.vectors.Opcodes.TheVariants as opcodes
use Rattle.vax_cli.specs.declared.vectors.VectorRequest.{VectorRequest}
use Rattle.vax_vector_lines.specs.Lines.{AreGroups, AreOfAll, AreVectors}
use Rattle.vax_command.specs.Around.{Change}
use Rattle.vax_command.specs.declared.status.Status.{Status}
use Rattle.vax_command.specs.declared.status.Status.TheVariants.{Done, Unfinished}

-- Such text was written to Out. The page file was left alone.
pub record AreWritten (Such : List ℕ → Type 0) (answer : Status) (pages : Change BlockFile) (status : Status) (grown : Channels) : Type 0 where
  pub text : List ℕ
  pub such : Such text
  pub answers : status ≡ answer
  pub wrote : grown ≡ only channel.Out text
  pub keeps : pages.same

-- the lines of the vectors that are asked for: so many steps of an instruction in an access mode, or of each by ascending opcodes
abbrev pub AreAsked : Opcodes → VectorRequest → List ℕ → Type 0
AreAsked opcodes.All request text = AreOfAll request.mode request.absent request.count 256 text
AreAsked (opcodes.One opcode) request text = AreGroups opcode request.mode request.absent request.count text

-- all that are asked for were written, or memory was refused behind some vectors
abbrev pub VectorsDo : Change BlockFile → VectorRequest → Status → Channels → Type 0
VectorsDo pages request status grown =
    AreWritten (AreAsked request.opcodes request) Done pages status grown ⊎ AreWritten AreVectors Unfinished pages status grown
