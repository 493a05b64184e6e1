-- Runs of a processor, by the flat machine.
use Rattle.std.specs.Prelude.{◌≡◌, ◌<◌, ◌≤◌, ℕ, Option, None}
use Rattle.vax_flat.specs.Port.{View, StandsFor}
use Rattle.vax_flat.specs.Step.{Flat, run}
use Rattle.vax_outside.specs.Channels.{Channels, Grew, GrewByPrefix, only}
use Rattle.vax_outside.specs.declared.traits.Chan.TheVariants.{Out}
use Rattle.vax_cpu.specs.declared.cpu.Cpu.{Cpu}
use Rattle.vax_bare.specs.declared.runs.Stopped.{Stopped}

-- n is the least number of steps after which the machine has ended, or the limit
pub record StopsAt (n limit : ℕ) (m : Flat) : Type 0 where
  pub within : n ≤ limit
  pub going : (k : ℕ) → k < n → (run k m).ending ≡ None
  pub stopped : (run n m).ending ≡ None → n ≡ limit

-- the flat machine's run, as far as it goes within the limit: its registers, its memory, its input, its ending, and what it sent
pub record IsRun (limit : ℕ) (m : Flat) (cpu : Cpu) (view : View) (old new : Option Channels) (stopped : Stopped) : Type 0 where
  pub stops : StopsAt stopped.steps limit m
  pub core : (run stopped.steps m).core ≡ cpu.core
  pub stands : StandsFor view (run stopped.steps m).memory
  pub taken : (run stopped.steps m).taken ≡ cpu.term.place
  pub ending : (run stopped.steps m).ending ≡ stopped.ending
  pub wrote : Grew old new (only Out (run stopped.steps m).output)

-- a prefix of what that run sends was written
pub record IsCutShort (limit : ℕ) (m : Flat) (old new : Option Channels) : Type 0 where
  pub steps : ℕ
  pub stops : StopsAt steps limit m
  pub wrote : GrewByPrefix old new (only Out (run steps m).output)
