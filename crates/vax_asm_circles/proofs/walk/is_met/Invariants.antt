use Rattle.std.proofs.Common.{◌+◌, ◌-◌, length, map}
use Rattle.vax_asm_circles.specs.Circles.{waits}
use Rattle.vax_asm_circles.specs.Growing.{all_awaited}
use Rattle.vax_asm_circles.specs.View.{step_of}
use Rattle.vax_asm_circles.specs.Walks.{Walked}
use Rattle.vax_asm_circles.proofs.walk.is_met.Given as goal

abbrev pub invariant-work : goal.invariant-work
invariant-work l = Walked (waits (map step_of l.steps)) (all_awaited (map step_of l.steps)) l.number l.met.keys l.work.items

abbrev pub decreases-work : goal.decreases-work
decreases-work l = (length (all_awaited (map step_of l.steps)) - length l.met.keys) + length l.work.items
