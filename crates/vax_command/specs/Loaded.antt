-- What a machine starts with.
use Rattle.std.specs.Prelude.{◌≡◌, IfSome, Option}
use Rattle.vax_image.specs.declared.Base.TheVariants as base
use Rattle.vax_image.specs.declared.Image.{Image}
use Rattle.vax_image.specs.Image.{IsImage}
use Rattle.vax_command.specs.declared.programs.Programs.{Programs}

-- the system that it runs in kernel mode, and a program in user mode under it, if there is one
pub record Loaded : Type 0 where
  pub system : Image
  pub user : Option Image

abbrev pub loaded_seen : Programs → Loaded
loaded_seen p = record { system = p.system; user = p.user }

-- a machine can start with them
pub record AreSound (p : Programs) : Type 0 where
  pub system : IsImage p.system
  pub bare : p.system.base ≡ base.Bare
  pub user : IfSome p.user IsImage
  pub under : IfSome p.user (λ image. image.base ≡ base.User)
