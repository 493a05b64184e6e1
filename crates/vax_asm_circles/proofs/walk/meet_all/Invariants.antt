use Rattle.std.proofs.Common.{take}
use Rattle.vax_asm_circles.specs.Walks.{Met}
use Rattle.vax_asm_circles.proofs.walk.meet_all.Given as goal

abbrev pub invariant-loop-number : goal.invariant-loop-number
invariant-loop-number l = Met (take l.number-index l.numbers) l.fn.met.keys l.fn.work.items l.met.keys l.work.items
