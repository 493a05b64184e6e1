-- How the errors of a source begin.
use Rattle.std.specs.Prelude.{◌≡◌, ℕ, ◌++◌}
use Rattle.vax_asm_errors.specs.Errors.{place}
use Rattle.vax_asm_second.specs.declared.types.Fault.{Fault}
use Rattle.vax_lines.specs.Lines.{Text}
use Rattle.vax_prelude.specs.Preludes.{Title}

-- what was added begins with an error at the line of a fault
pub record BeginsAt (title : Title) (f : Fault) (before after : Text) : Type 0 where
  pub column : ℕ
  pub rest : Text
  pub text : after ≡ before ++ place title f.origin.line column ++ rest
