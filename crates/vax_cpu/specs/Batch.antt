-- Several attempts, one after the other.
use Rattle.std.specs.Prelude.{◌≡◌, ◌<◌, ℕ, zero, suc, Bool, false, None}
use Rattle.vax_space.specs.Reference.{page_of}
use Rattle.vax_flat.specs.Memory.{byte_at}
use Rattle.vax_flat.specs.declared.Exception.{Exception}
use Rattle.vax_flat.specs.Port.{View, StandsFor, with_marks}
use Rattle.vax_flat.specs.OverPort.{Present}
use Rattle.vax_flat.specs.Outcome.{Raised, first_missing, marked_by}
use Rattle.vax_flat.specs.Step.{Flat, run, step}
use Rattle.vax_flat.specs.Parts.{Place, At, Completes, outcome_at, part_step, touches_at, turn}
use Rattle.vax_cpu.specs.declared.attempt.Tried.TheVariants as tried
use Rattle.vax_cpu.specs.declared.cpu.Attempt.{Attempt}
use Rattle.vax_cpu.specs.declared.cpu.Attempt.TheVariants.{Step, Part, Absent, Ended}
use Rattle.vax_cpu.specs.declared.cpu.Cpu.{Cpu}
use Rattle.vax_cpu.specs.Tried.{IsTried}
use Rattle.vax_cpu.specs.Attempt.{flat_of, Attempted}

-- so many steps over a port were completed, and none sent a byte
abbrev pub Ran : ℕ → Present → Present → Type 0
Ran zero old new = new ≡ old
Ran (suc count) old new =
    (mid : Present) × Ran count old mid × IsTried part_step mid (tried.Step None) new × (new.state.input ≡ mid.state.input)

-- the instruction at PC raises an exception
abbrev pub Raises : Flat → Type 0
Raises m = (e : Exception) × (outcome_at (At m) ≡ Raised e)

-- where the last attempt made no step, the processor and its port are where the flat machine is
abbrev pub StaysAt : Flat → Attempt → Cpu → View → Type 0
StaysAt m (Step sent) cpu after = Unit {0}
StaysAt m Part cpu after = Unit {0}
StaysAt m (Absent page) cpu after = (flat_of cpu m.memory m.output ≡ m) × StandsFor after m.memory
StaysAt m (Ended e) cpu after = (flat_of cpu m.memory m.output ≡ m) × StandsFor after m.memory

-- the marked pages after so many steps
unfoldable pub marks_after : (ℕ → Bool) → (ℕ → Bool) → ℕ → Flat → ℕ → Bool
marks_after resident marked zero m = marked
marks_after resident marked (suc count) m = marked_by resident (marks_after resident marked count m) (touches_at (At (run count m)))

-- so many steps of the flat machine, each made at once on resident pages alone and with no byte sent, and then one more attempt; the bytes of absent pages
-- stay throughout
pub record AreAttempts (before : View) (m : Flat) (count : ℕ) (last : Attempt) (cpu : Cpu) (after : View) : Type 0 where
  pub here : Flat
  pub steps : run count m ≡ here
  pub running : here.ending ≡ None
  pub resident : (k : ℕ) → k < count → first_missing before.resident (touches_at (At (run k m))) ≡ None
  pub at_once : (k : ℕ) → k < count → turn (At (run k m)) ≡ Completes (step (run k m))
  pub silent : here.output ≡ m.output
  pub absent : (addr : ℕ) → before.resident (page_of addr) ≡ false → byte_at here.memory addr ≡ byte_at m.memory addr
  pub attempted : Attempted (with_marks before (marks_after before.resident before.marked count m)) (At here) last cpu after
  pub stays : StaysAt here last cpu after
  pub pages : after.resident ≡ before.resident
  pub areas : after.areas ≡ before.areas

-- where a string instruction is open, that one attempt
pub record IsOneAttempt (before : View) (place : Place) (count : ℕ) (last : Attempt) (cpu : Cpu) (after : View) : Type 0 where
  pub steps : count ≡ 0
  pub attempted : Attempted before place last cpu after
