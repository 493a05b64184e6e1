-- Addresses with the names of symbols.
use Rattle.std.specs.Prelude.{ℕ, ◌==◌, List, [], ◌∷◌, ◌++◌, take, drop, slice_get, Option, None, Some, if◌then◌else◌}
use Rattle.std.specs.List.{prefix_len}
use Rattle.vax_outside.specs.Hex.{hex}
use Rattle.vax_debug_names.specs.Names.{nearest}
use Rattle.vax_debug_names.specs.declared.Legend.{Legend}
use Rattle.vax_debug_names.specs.declared.Symbol.{Symbol}
use Rattle.vax_debug_names.specs.declared.Near.{Near}

-- how many zeros stand before all else
abbrev pub zeros : List ℕ → ℕ
zeros w = prefix_len (λ c. c == 48) w

-- a number in 1 to 8 digits
unfoldable pub digits : ℕ → List ℕ
digits n = drop (zeros (take 7 (hex 8 n))) (hex 8 n)

-- the distance from a symbol, where there is one
abbrev pub distance : ℕ → List ℕ
distance n = if n == 0 then [] else 43 ∷ digits n

-- the first 31 characters of a symbol's name, and the distance from it
abbrev pub name_of : Option Symbol → ℕ → List ℕ
name_of None n = []
name_of (Some symbol) n = 32 ∷ (take 31 symbol.name ++ distance n)

abbrev pub near : List Symbol → Option Near → List ℕ
near symbols None = []
near symbols (Some found) = name_of (slice_get symbols found.index) found.distance

-- an address, and behind it the nearest symbol
unfoldable pub place : Legend → ℕ → List ℕ
place legend address = hex 8 address ++ near legend.symbols.now (nearest legend.symbols.now address)
