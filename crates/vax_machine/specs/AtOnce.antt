-- Steps that the processor makes at once.
use Rattle.std.specs.Prelude.{◌≡◌, ◌<◌, ℕ, false, None}
use Rattle.vax_space.specs.Reference.{page_of}
use Rattle.vax_flat.specs.Memory.{byte_at}
use Rattle.vax_flat.specs.Outcome.{first_missing}
use Rattle.vax_flat.specs.Parts.{At, Completes, touches_at, turn}
use Rattle.vax_flat.specs.Port.{StandsFor, View}
use Rattle.vax_flat.specs.Step.{Flat, run, step}
use Rattle.vax_cpu.specs.Attempt.{flat_of}
use Rattle.vax_cpu.specs.Batch.{marks_after}
use Rattle.vax_cpu.specs.declared.cpu.Cpu.{Cpu}

-- So many steps of the flat machine, each made at once on resident pages alone and with no byte sent; the processor and its port are where they lead. The bytes
-- of absent pages stay throughout.
pub record AreSteps (before : View) (m : Flat) (count : ℕ) (cpu : Cpu) (after : View) : Type 0 where
  pub here : Flat
  pub steps : run count m ≡ here
  pub running : here.ending ≡ None
  pub resident : (k : ℕ) → k < count → first_missing before.resident (touches_at (At (run k m))) ≡ None
  pub at_once : (k : ℕ) → k < count → turn (At (run k m)) ≡ Completes (step (run k m))
  pub silent : here.output ≡ m.output
  pub absent : (addr : ℕ) → before.resident (page_of addr) ≡ false → byte_at here.memory addr ≡ byte_at m.memory addr
  pub processor : flat_of cpu here.memory here.output ≡ here
  pub stands : StandsFor after here.memory
  pub marks : after.marked ≡ marks_after before.resident before.marked count m
  pub pages : after.resident ≡ before.resident
  pub areas : after.areas ≡ before.areas
