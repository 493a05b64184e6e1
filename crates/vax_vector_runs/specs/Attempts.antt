-- A processor and a memory that are where a machine is, before and after the attempt that doesn't stop.
use Rattle.std.specs.Prelude.{◌≡◌, ℕ, None, List, [], IsTrue}
use Rattle.vax_space.specs.declared.Area.{Area}
use Rattle.vax_flat.specs.Memory.{byte_at, IsWhole}
use Rattle.vax_flat.specs.Parts.{At, part_step}
use Rattle.vax_flat.specs.Port.{layout}
use Rattle.vax_flat.specs.Step.{Flat}
use Rattle.vax_cpu.specs.declared.cpu.Attempt.{Attempt}
use Rattle.vax_cpu.specs.declared.cpu.Attempt.TheVariants.{Step, Part, Absent, Ended}
use Rattle.vax_cpu.specs.declared.cpu.Cpu.{Cpu}
use Rattle.vax_cpu.specs.Attempt.{Attempted, flat_of}
use Rattle.vax_cpu.specs.Trail.{Trailed}
use Rattle.vax_vectors.specs.Truth.{AreInOrder, AreTouchedInOrder, bytes_after}
use Rattle.vax_vector_memory.specs.declared.recorder.Recorder.{Recorder}
use Rattle.vax_vector_runs.specs.declared.settle.Settled.{Settled}
use Rattle.vax_vector_memory.specs.Record.{trail_of, view_of}
use Rattle.vax_vector_runs.specs.Exact.{begin_at}
use Rattle.vax_vector_memory.specs.Seen.{seen}

-- these pages are resident, and no instruction is open
pub record IsReady (m : Flat) (space : List Area) (touched : List ℕ) (cpu : Cpu) (memory : Recorder) : Type 0 where
  pub machine : flat_of cpu m.memory [] ≡ m
  pub closed : cpu.latch ≡ None
  pub view : view_of memory ≡ seen space m.memory touched
  pub areas : layout m.memory ≡ layout space
  pub bare : layout space ≡ space
  pub whole : IsWhole m.memory

-- it doesn't stop for a page
abbrev pub IsSettling : Attempt → Type 0
IsSettling (Step sent) = Unit {0}
IsSettling Part = Unit {0}
IsSettling (Absent page) = ⊥
IsSettling (Ended e) = Unit {0}

-- what was kept of the last attempt is what it read and wrote
pub record IsRecord (m : Flat) (memory : Recorder) : Type 0 where
  pub order : AreInOrder (byte_at m.memory) memory.touches.items
  pub bytes : (view_of memory).byte ≡ bytes_after (byte_at m.memory) memory.touches.items

-- the pages that the step touches, in order, and what the attempt came to with all of them resident
pub record IsSettled (m : Flat) (space : List Area) (settled : Settled) (cpu : Cpu) (memory : Recorder) : Type 0 where
  pub order : AreTouchedInOrder m settled.touched.items
  pub settling : IsSettling settled.attempt
  pub attempted : Attempted (seen space m.memory settled.touched.items) (At m) settled.attempt cpu (view_of memory)
  pub kept : IsTrue memory.complete → IsRecord m memory
  pub trail : Trailed part_step m.core (begin_at m space settled.touched.items) settled.attempt (trail_of memory)
  pub areas : layout m.memory ≡ layout space
  pub bare : layout space ≡ space
