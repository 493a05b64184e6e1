use Rattle.std.proofs.Common.{◌≡◌, ℕ, ◌<◌, ◌≤◌, List, None}
use Rattle.vax_space.specs.declared.Area.{Area}
use Rattle.vax_space.specs.Faults.{end_before, fault_at}
use Rattle.vax_space.proofs.faults.first_fault.Given as goal

pub record HasNoFault (areas : List Area) (low place : ℕ) : Type 0 where
  pub low_is : low ≡ end_before areas place
  pub counted : place ≤ low
  pub within : low ≤ 0x401000
  pub before : (k : ℕ) → k < place → fault_at areas k ≡ None

abbrev pub invariant-loop-place : goal.invariant-loop-place
invariant-loop-place l = HasNoFault l.areas l.low l.place
