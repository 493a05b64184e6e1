-- Programs that start together.
use Rattle.std.specs.Prelude.{ℕ, ◌≡◌, List, Some, map}
use Rattle.vax_flat.specs.Step.{Flat}
use Rattle.vax_image.specs.Image.{IsImage}
use Rattle.vax_image.specs.Start.{Start}
use Rattle.vax_image.specs.declared.Base.TheVariants.{User}
use Rattle.vax_image.specs.declared.Image.{Image}
use Rattle.vax_jobs.specs.declared.job.Job.{Job}

-- a program in user mode
pub record IsUser (image : Image) : Type 0 where
  pub sound : IsImage image
  pub base : image.base ≡ User

-- a process has this input
abbrev pub HasInput : List ℕ → Job → Type 0
HasInput input job = job.input.items ≡ input

-- the flat machine of a program under its system
abbrev pub start_under : Image → (input : List ℕ) → Image → Flat
start_under system input user = Start system (Some user) input

-- those of several programs, each with all of the input
abbrev pub starts_of : Image → List Image → (input : List ℕ) → List Flat
starts_of system users input = map (start_under system input) users
