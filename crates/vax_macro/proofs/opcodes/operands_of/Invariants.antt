use Rattle.std.proofs.Common.{◌≡◌, map, drop}
use Rattle.vax_macro.specs.ArgumentViews.{argument_view}
use Rattle.vax_macro.specs.Opcodes.{operands_of}
use Rattle.vax_macro.proofs.Operands.{behind}
use Rattle.vax_macro.proofs.opcodes.operands_of.Given as goal

abbrev pub invariant-loop-descriptor : goal.invariant-loop-descriptor
invariant-loop-descriptor l =
    behind l.operands.items (operands_of (map argument_view (drop l.descriptor-index l.descriptors))) ≡ operands_of (map argument_view l.descriptors)
