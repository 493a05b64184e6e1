use Rattle.std.proofs.Common.{◌≡◌, drop, map}
use Rattle.vax_asm.specs.Walk.{nothing}
use Rattle.vax_asm_check.specs.Restating.{restated}
use Rattle.vax_asm_check.specs.View.{left_of, said_of}
use Rattle.vax_asm_check.proofs.left.restated.Given as goal

abbrev pub invariant-loop-stated : goal.invariant-loop-stated
invariant-loop-stated l = restated (map said_of (drop l.stated-index l.stood)) (left_of l.left) ≡ restated (map said_of l.stood) (nothing l.fn.dialect)
