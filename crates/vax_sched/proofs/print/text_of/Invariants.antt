use Rattle.std.proofs.Common.{◌≡◌, take}
use Rattle.vax_sched.specs.Printed.{printed}
use Rattle.vax_sched.proofs.print.text_of.Given as goal

abbrev pub invariant-loop-rule : goal.invariant-loop-rule
invariant-loop-rule l = l.text.items ≡ printed (take l.rule-index l.rules)
