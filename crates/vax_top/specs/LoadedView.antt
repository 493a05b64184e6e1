-- What the code's programs mean.
use Rattle.std.specs.Prelude.{◌≡◌, ◌⊎◌, ℕ, List, Result, Ok, Err}
use Rattle.vax_asm_listing.specs.Listed.{Refuses}
use Rattle.vax_asm_listing.specs.declared.program.ListingError.{ListingError}
use Rattle.vax_dialect.specs.declared.Dialect.{Dialect}
use Rattle.vax_image.specs.declared.Base.{Base}
use Rattle.vax_image.specs.declared.Image.{Image}
use Rattle.vax_prelude.specs.Preludes.{Prelude, told_at}
use Rattle.vax_program.specs.Program as specs
use Rattle.vax_program.specs.View as program
use Rattle.vax_program.specs.View.{refusal_seen}
use Rattle.vax_program.specs.declared.types.ProgramError.{ProgramError}
use Rattle.vax_program.specs.declared.types.ProgramError.TheVariants as errors
use Rattle.vax_top.specs.Loaded.{IsRefused, placed_as, refused_as, sources_image}
use Rattle.vax_command.specs.declared.status.Status.{Status}
use Rattle.vax_command.specs.declared.status.Status.TheVariants.{NoMemory, Refused}

-- the programs that are meant, or the answer to their refusal; memory may be refused at any time
abbrev pub Loads : {X Y : Type 0} → (X → Y) → Result X Status → Result Y specs.Refusal → Type 0
Loads seen (Ok x) loaded = loaded ≡ Ok (seen x)
Loads seen (Err status) loaded = IsRefused loaded status ⊎ (status ≡ NoMemory)

-- the answer to an error
abbrev pub Answers : ProgramError → Status → Type 0
Answers (errors.Refused refusal) status = status ≡ refused_as (refusal_seen refusal)
Answers errors.NoMemory status = status ≡ NoMemory

-- this is why sources give no program where that is why they have no listing
abbrev pub AnswersListing : ListingError → ProgramError → Type 0
AnswersListing error answer =
    (dialect : Dialect) → (region : Base) → (sources : List (List ℕ)) → Refuses dialect region sources error
    → program.Answers (λ (image : Image). image) (Err answer) (sources_image dialect region sources)

-- an answer with a fault told where it is
abbrev pub retold : List Prelude → Status → Status
retold preludes (Refused file line kind) = placed_as file kind (told_at preludes line)
retold preludes status = status
