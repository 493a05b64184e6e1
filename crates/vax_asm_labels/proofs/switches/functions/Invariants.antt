use Rattle.std.proofs.Common.{◌≡◌, Ok, drop, map}
use Rattle.vax_asm_first.specs.View.{standing_of, KeepsMark}
use Rattle.vax_asm_labels.specs.Functions.{all_switched}
use Rattle.vax_asm_statement.specs.Parts.{parts}
use Rattle.vax_asm_labels.proofs.switches.functions.Given as goal

abbrev pub invariant-loop-part : goal.invariant-loop-part
invariant-loop-part l = record {
  switched : all_switched l.on l.line (map (λ s. s.now) (drop l.part-index l.part-items)) (Ok (standing_of l.standing))
      ≡ all_switched l.on l.line (parts l.operands) (Ok (standing_of l.fn.standing));
  mark : KeepsMark l.fn.standing l.standing;
}
