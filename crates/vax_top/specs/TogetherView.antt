-- What the code's programs that run together mean.
use Rattle.std.specs.Prelude.{◌≡◌}
use Rattle.vax_image.specs.declared.Base.TheVariants as base
use Rattle.vax_program.specs.View.{IsSound, base_of}
use Rattle.vax_program.specs.declared.types.Parts.{Parts}

-- the parts of a program in user mode
pub record IsForUser (parts : Parts) : Type 0 where
  pub sound : IsSound parts
  pub base : base_of parts ≡ base.User
