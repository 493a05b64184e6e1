use Rattle.std.proofs.Common.{◌≡◌, Some, drop, map}
use Rattle.vax_asm_labels.specs.Naming.{attributes_from, nothing_said}
use Rattle.vax_asm_labels.proofs.sections.attributes_of.Given as goal

abbrev pub invariant-loop-operand : goal.invariant-loop-operand
invariant-loop-operand l =
    attributes_from l.dialect l.line (map (λ o. o.now) (drop l.operand-index l.operands)) l.said
    ≡ attributes_from l.dialect l.line (map (λ o. o.now) l.operands) (Some nothing_said)
