-- The accesses of vectors are those of the definitions, and no other.
use Rattle.std.specs.Prelude.{◌≡◌, ℕ, None, List, [], map}
use Rattle.vax_space.specs.declared.Area.{Area}
use Rattle.vax_flat.specs.Parts.{part_step}
use Rattle.vax_flat.specs.Port.{layout}
use Rattle.vax_flat.specs.State.{State}
use Rattle.vax_flat.specs.Step.{Flat}
use Rattle.vax_undo.specs.Trail.{Made, Traced, KeptUpTo}
use Rattle.vax_cpu.specs.declared.cpu.Attempt.TheVariants as attempt
use Rattle.vax_cpu.specs.Trail.{Trailed}
use Rattle.vax_vectors.specs.declared.vector.Ends.{Ends}
use Rattle.vax_vectors.specs.declared.vector.Ends.TheVariants.{Step, Part, Absent, Ended}
use Rattle.vax_vectors.specs.declared.vector.Vector.{Vector}
use Rattle.vax_vectors.specs.Truth.{IsTold, machine_of}
use Rattle.vax_vector_memory.specs.Record.{made_of, most_kept}
use Rattle.vax_vector_memory.specs.Seen.{seen}

-- registers and console of a machine, with nothing sent
abbrev pub state_of : Flat → State
state_of m = record { core = m.core; input = m.input; taken = m.taken; sent = None }

-- where a step begins, over memory of which these pages are resident, before any access
abbrev pub begin_at : Flat → List Area → List ℕ → Traced
begin_at m space touched = record { state = state_of m; view = seen space m.memory touched; trail = KeptUpTo most_kept [] }

-- These are the accesses of a step, or of its first part, with all pages that it touches resident: those of its definition, in order, and where that
-- raises an exception, behind them the writes that put memory back, and those of the exception's delivery. A step that leaves nothing tells none.
abbrev pub ExactBy : Flat → List ℕ → Ends → List Made → Type 0
ExactBy m touched (Step sent) accesses =
    Trailed part_step m.core (begin_at m (layout m.memory) touched) (attempt.Step sent) (KeptUpTo most_kept accesses)
ExactBy m touched (Part opcode units) accesses =
    Trailed part_step m.core (begin_at m (layout m.memory) touched) attempt.Part (KeptUpTo most_kept accesses)
ExactBy m touched (Absent page) accesses = accesses ≡ []
ExactBy m touched (Ended e) accesses = accesses ≡ []

-- a vector is true, and its accesses are those of its step
pub record IsExact (v : Vector) : Type 0 where
  pub told : IsTold v
  pub accesses : ExactBy (machine_of v.start) v.touched.items v.end.ends (map made_of v.end.touches.items)
