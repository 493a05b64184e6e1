use Rattle.std.proofs.Common.{◌≡◌, ◌+◌, ◌-◌, ◌≤◌, length, drop}
use Rattle.std.specs.List.{position_or_len}
use Rattle.vax_strpart.proofs.marks.first_slowly.Given as goal

abbrev pub invariant-loop-i : goal.invariant-loop-i
invariant-loop-i g l = (l.from + position_or_len (λ b. b) (drop l.from (g.M.Marks.marks l.marks)) ≡ l.i + position_or_len (λ b. b) (drop l.i (g.M.Marks.marks l.marks))) × (l.i ≤ length (g.M.Marks.marks l.marks))

abbrev pub decreases-loop-i : goal.decreases-loop-i
decreases-loop-i g l = length (g.M.Marks.marks l.marks) - l.i
