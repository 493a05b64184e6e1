use Rattle.std.proofs.Common.{◌≤◌, ◌-◌, length, map, take}
use Rattle.vax_asm_circles.specs.Heights.{NoneBack}
use Rattle.vax_asm_circles.specs.View.{step_of}
use Rattle.vax_asm_circles.proofs.circles.most_with_heights.Given as goal

abbrev pub invariant-halving : goal.invariant-halving
invariant-halving l = record { ordered : l.count ≤ l.past; within : l.past ≤ length l.steps; none_back : NoneBack (take l.count (map step_of l.steps)) }

abbrev pub decreases-halving : goal.decreases-halving
decreases-halving l = l.past - l.count
