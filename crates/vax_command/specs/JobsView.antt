-- What the code's files of several programs mean, and what their processes are.
use Rattle.std.specs.Prelude.{ℕ, ◌≡◌, ◌≤◌, List, Some, length}
use Rattle.std.specs.List.{All}
use Rattle.vax_outside.specs.Blocks.{BlockFile}
use Rattle.vax_image.specs.Image.{IsImage}
use Rattle.vax_image.specs.declared.Base.TheVariants as base
use Rattle.vax_jobs.specs.Beginning.{machines, pooling}
use Rattle.vax_jobs.specs.Running.{IsReady, system_of}
use Rattle.vax_jobs.specs.Shared.{Setting, begun}
use Rattle.vax_jobs.specs.declared.jobs.Jobs.{Jobs}
use Rattle.vax_together.specs.Starting.{IsUser, starts_of}
use Rattle.vax_cli.specs.Words.{Text}
use Rattle.vax_command.specs.Jobs.{JobsTexts, Users}
use Rattle.vax_command.specs.ReadingView.{bytes_of}
use Rattle.vax_command.specs.declared.jobs.JobsGiven.{JobsGiven}
use Rattle.vax_command.specs.declared.jobs.Together.{Together}

abbrev pub jobs_texts_seen : List Text → JobsGiven → JobsTexts
jobs_texts_seen programs g = record { programs = programs; input = g.input.items; order = bytes_of g.order }

abbrev pub together_seen : Together → Users
together_seen t = record { system = t.system; users = t.users.items }

-- processes can start with them
pub record AreTogether (t : Together) : Type 0 where
  pub system : IsImage t.system
  pub bare : t.system.base ≡ base.Bare
  pub users : All IsUser t.users.items
  pub some : 1 ≤ length t.users.items
  pub few : length t.users.items ≤ 8

-- the processes of programs stand where turns begin
pub record IsPreparedFor (programs : Users) (input : Text) (pool : ℕ) (r : Jobs) : Type 0 where
  pub ready : (x : Setting) → (file : BlockFile) → IsReady x (system_of (pooling r) (machines r) (Some file)) (begun x.order (starts_of programs.system programs.users input))
  pub most : (pooling r).most ≡ pool
