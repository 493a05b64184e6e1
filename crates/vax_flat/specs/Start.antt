-- The flat machine's memory at the start.
use Rattle.std.specs.Prelude.{ℕ, ◌-◌, ◌*◌, List, [], ◌∷◌, ◌++◌, length, replicate}
use Rattle.vax_space.specs.declared.Area.{Area}

-- an area's bytes, followed by zeros
abbrev pub filled : Area → List ℕ
filled area = area.bytes ++ replicate (512 * area.pages - length area.bytes) 0

unfoldable pub start_memory : List Area → List Area
start_memory [] = []
start_memory (area ∷ areas) = record area { bytes = filled area } ∷ start_memory areas
