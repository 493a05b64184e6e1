use Rattle.std.proofs.Common.{◌≡◌, ◌<◌, ℕ, map, take, true}
use Rattle.vax_asm_circles.specs.Circles.{among}
use Rattle.vax_asm_circles.specs.Heights.{height}
use Rattle.vax_asm_circles.specs.View.{step_of}
use Rattle.vax_asm_circles.proofs.heights.are_below.Given as goal

abbrev pub invariant-loop-number : goal.invariant-loop-number
invariant-loop-number l = (k : ℕ) → among k (take l.number-index l.numbers) ≡ true → height l.heights (map step_of l.steps) k < l.limit
