-- The ends of steps.
use Rattle.std.specs.Prelude.{◌≡◌, ℕ, None, List, [], map, true}
use Rattle.vax_word.specs.declared.Core.{Core}
use Rattle.vax_space.specs.Reference.{page_of}
use Rattle.vax_flat.specs.Step.{Flat}
use Rattle.vax_vectors.specs.declared.vector.Cell.{Cell}
use Rattle.vax_vectors.specs.declared.vector.End.{End}
use Rattle.vax_vectors.specs.Truth.{EndsBy, is_among, page_missed}
use Rattle.vax_vector_memory.specs.Record.{made_of}
use Rattle.vax_vector_runs.specs.Exact.{ExactBy}

-- a byte of a page among these
pub record IsCell (touched : List ℕ) (byte : ℕ → ℕ) (cell : Cell) : Type 0 where
  pub inside : is_among touched (page_of cell.addr) ≡ true
  pub is : byte cell.addr ≡ cell.byte

-- a machine at the start of a step, with no input
pub record IsStart (m : Flat) (core : Core) : Type 0 where
  pub core_is : m.core ≡ core
  pub input : m.input ≡ []
  pub taken : m.taken ≡ 0
  pub ending : m.ending ≡ None

-- the step of the machine ends so, and no page is missed
pub record EndsWell (m : Flat) (touched : List ℕ) (end : End) : Type 0 where
  pub found : page_missed end.ends ≡ None
  pub ends : EndsBy m touched end end.ends
  pub exact : ExactBy m touched end.ends (map made_of end.touches.items)
