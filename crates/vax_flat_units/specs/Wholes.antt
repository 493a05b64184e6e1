-- What the ranges of a tree are together.
use Rattle.std.specs.Prelude.{◌≡◌, ℕ, ◌+◌, if◌then◌else◌, List, [], ◌∷◌}
use Rattle.vax_word.specs.Status.{codes_of}
use Rattle.vax_space.specs.declared.Area.{Area}
use Rattle.vax_flat.specs.declared.Flow.TheVariants.{Done}
use Rattle.vax_flat.specs.State.{State}
use Rattle.vax_flat.specs.Accesses.{Accesses, Leaf, Went}
use Rattle.vax_flat.specs.Outcome.{Ends, Range, outcome_of, touches_of}

-- how many bytes are read
unfoldable pub bytes_read : List Range → ℕ
bytes_read [] = 0
bytes_read (range ∷ ranges) = if range.writes then bytes_read ranges else range.len + bytes_read ranges

-- how many bytes are written
unfoldable pub bytes_written : List Range → ℕ
bytes_written [] = 0
bytes_written (range ∷ ranges) = if range.writes then range.len + bytes_written ranges else bytes_written ranges

-- where an instruction is completed on a memory, this holds of its state then and of the ranges that it touched
abbrev pub IfCompleted : Accesses Leaf → List Area → (State → List Range → Type 0) → Type 0
IfCompleted tree memory holds = (t : State) → (after : List Area) → outcome_of tree memory ≡ Ends (Went Done t) after → holds t (touches_of tree memory)

-- a byte has escaped where V is set
abbrev pub if_escaped : State → ℕ
if_escaped s = if (codes_of s.core.psl).v then 1 else 0
