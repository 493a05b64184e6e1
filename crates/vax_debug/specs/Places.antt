-- Where the addresses of expressions lie, on the flat machine; and expressions that have no value since a number is too large.
use Rattle.std.specs.Prelude.{ℕ, Bool, false, Option, None, Some}
use Rattle.vax_flat.specs.Step.{Flat}
use Rattle.vax_machine.specs.Console.{memory_at}
use Rattle.vax_debug.specs.Values.{evaluated}
use Rattle.vax_debug.specs.declared.places.Place.{Place}
use Rattle.vax_debug.specs.declared.places.Place.TheVariants as place
use Rattle.vax_debug_words.specs.declared.request.Base.{Base}
use Rattle.vax_debug_words.specs.declared.request.Base.TheVariants.{Register, Named}
use Rattle.vax_debug_words.specs.declared.request.Expression.{Expression}
use Rattle.vax_debug_names.specs.Names.{is_too_large}
use Rattle.vax_debug_names.specs.declared.Legend.{Legend}

-- an area has the address where it has a byte there
abbrev pub place_of : (address : ℕ) → Option ℕ → Place
place_of address None = place.Outside
place_of address (Some byte) = place.Inside address

unfoldable pub located_at : Flat → (address : ℕ) → Place
located_at m address = place_of address (memory_at m.memory address)

abbrev pub located_by : Flat → Option ℕ → Place
located_by m None = place.Unknown
located_by m (Some address) = located_at m address

-- where an expression leads
unfoldable pub located : Legend → Expression → Flat → Place
located legend e m = located_by m (evaluated legend e m)

-- an expression begins with a number of more than 32 bits
abbrev pub begins_too_large : Legend → Base → Bool
begins_too_large legend (Register n) = false
begins_too_large legend (Named word) = is_too_large legend.symbols.now word
