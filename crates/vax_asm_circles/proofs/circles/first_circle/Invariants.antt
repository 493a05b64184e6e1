use Rattle.std.proofs.Common.{◌≡◌, drop, map, take}
use Rattle.vax_asm_circles.specs.Circles.{circle, first_back}
use Rattle.vax_asm_circles.specs.View.{step_of}
use Rattle.vax_asm_circles.proofs.circles.first_circle.Given as goal

abbrev pub invariant-loop-at : goal.invariant-loop-at
invariant-loop-at l = circle (map step_of l.steps) ≡ first_back (take l.at (map step_of l.steps)) (drop l.at (map step_of l.steps))
