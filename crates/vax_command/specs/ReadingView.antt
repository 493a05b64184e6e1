-- What the code's files mean.
use Rattle.std.specs.Prelude.{ℕ, List, map, Option}
use Rattle.std.specs.Option.{option_map}
use Rattle.std.specs.Global.{Vec}
use Rattle.vax_cli.specs.Words.{Text}
use Rattle.vax_command.specs.Reading.{Texts}
use Rattle.vax_command.specs.declared.load.Given.{Given}

abbrev pub texts : List (Vec ℕ) → List Text
texts files = map (λ v. v.items) files

abbrev pub bytes_of : Option (Vec ℕ) → Option Text
bytes_of file = option_map (λ v. v.items) file

-- the texts of a run with these programs
abbrev pub given_seen : List Text → Given → Texts
given_seen programs g = record { programs = programs; system = bytes_of g.system; input = g.input.items; schedule = g.schedule.items; script = g.script.items }
