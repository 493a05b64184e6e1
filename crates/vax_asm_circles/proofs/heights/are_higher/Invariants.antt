use Rattle.std.proofs.Common.{◌≡◌, ◌<◌, ℕ, map, true}
use Rattle.vax_asm_circles.specs.Circles.{among, waits}
use Rattle.vax_asm_circles.specs.Heights.{height}
use Rattle.vax_asm_circles.specs.Places.{place}
use Rattle.vax_asm_circles.specs.View.{step_of}
use Rattle.vax_asm_circles.proofs.heights.are_higher.Given as goal

abbrev pub invariant-loop-at : goal.invariant-loop-at
invariant-loop-at l = (i k : ℕ) → place (map step_of l.steps) i < l.at → among k (waits (map step_of l.steps) i) ≡ true → height l.heights (map step_of l.steps) k < height l.heights (map step_of l.steps) i
