use Rattle.std.proofs.Common.{None, Some, arith}
use Rattle.vax_isa.proofs.Laws.{operands_agree, slot_action}
use Rattle.vax_isa.proofs.action.Goals as goal

pub returns-in-Some : goal.returns-in-Some
returns-in-Some c =
    record { action = slot_action c.slots.result.now c.slots.ensures.actions c.args.code (Some c.in-Some.entry) (omega arith) c.in-Some.is; operands = operands_agree }

pub returns-in-None : goal.returns-in-None
returns-in-None c = record { action = slot_action c.slots.result.now c.slots.ensures.actions c.args.code None (omega arith) (cc); operands = operands_agree }
