-- What calls on a port answer.
use Rattle.std.specs.Prelude.{ℕ, Option, Some, None, Result, Ok, Err}
use Rattle.vax_space.specs.declared.Access.TheVariants.{Write}
use Rattle.vax_flat.specs.declared.Stop.{Stop}
use Rattle.vax_flat.specs.Memory.{number}
use Rattle.vax_flat.specs.Port.{View, loaded_by, stop}

-- why a call failed, if it did
abbrev pub err_of : {A E : Type 0} → Result A E → Option E
err_of (Ok x) = None
err_of (Err e) = Some e

-- a write: the number that was there
abbrev pub replaced : View → ℕ → ℕ → ℕ → Result ℕ Stop
replaced v addr len mode = loaded_by (stop v addr len mode Write) (number v.byte addr len)
