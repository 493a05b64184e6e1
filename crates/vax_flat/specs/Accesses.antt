-- An instruction as the tree of its accesses to memory, in the order in which it makes them. What comes next may depend on what was read.
-- This one tree gives the instruction's results, the ranges that it touches, and what an attempt at it over absent pages answers.
use Rattle.std.specs.Prelude.{ℕ, Bool, List}
use Rattle.vax_space.specs.declared.Access.{Access}
use Rattle.vax_flat.specs.declared.Exception.{Exception}
use Rattle.vax_flat.specs.declared.Flow.{Flow}
use Rattle.vax_flat.specs.declared.Operand.{Operand}
use Rattle.vax_flat.specs.State.{State}

pub data Accesses (A : Type 0) : Type 0 where
  -- the end
  Done : A → Accesses A
  Raises : Exception → Accesses A
  -- the range must be allowed; nothing is touched
  Checks : (addr len mode : ℕ) → Access → Accesses A → Accesses A
  -- whether the range is allowed; nothing is touched
  Asks : (addr len mode : ℕ) → Access → (Bool → Accesses A) → Accesses A
  -- a number of len bytes
  Reads : (addr len mode : ℕ) → (ℕ → Accesses A) → Accesses A
  Writes : (addr len value mode : ℕ) → Accesses A → Accesses A
  -- a run of bytes
  ReadsRun : (addr len mode : ℕ) → (List ℕ → Accesses A) → Accesses A
  WritesRun : (addr : ℕ) → List ℕ → (mode : ℕ) → Accesses A → Accesses A

-- what such a tree comes to: an instruction that went so, or one operand
pub data Leaf : Type 0 where
  Went : Flow → State → Leaf
  Found : Operand → State → Leaf
