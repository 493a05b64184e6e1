-- A processor and a memory of which more and more pages are resident, until an attempt at a step doesn't stop for one.
use Rattle.std.specs.Prelude.{ℕ, true, List}
use Rattle.vax_space.specs.declared.Area.{Area}
use Rattle.vax_flat.specs.Memory.{byte_at}
use Rattle.vax_flat.specs.Port.{View}
use Rattle.vax_vectors.specs.Truth.{is_among}

-- the areas, which pages are resident, and the bytes
abbrev pub seen : List Area → List Area → List ℕ → View
seen space memory touched = record {
  areas = space;
  resident = is_among touched;
  byte = byte_at memory;
  marked = λ page. true;
}
