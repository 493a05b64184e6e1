use Rattle.std.proofs.Common.{take}
use Rattle.vax_undo.specs.Blocks.{AreStarts}
use Rattle.vax_undo.proofs.plain.blocks_of.Given as goal

abbrev pub invariant-loop-area : goal.invariant-loop-area
invariant-loop-area l = AreStarts (take l.area-index l.areas) l.blocks.items
