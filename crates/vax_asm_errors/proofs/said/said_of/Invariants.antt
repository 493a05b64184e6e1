use Rattle.std.proofs.Common.{◌≡◌, ◌++◌, drop, map, All}
use Rattle.vax_asm_errors.specs.Errors.{IsPlain}
use Rattle.vax_asm_errors.proofs.said.said_of.Given as goal

abbrev pub invariant-loop-fault : goal.invariant-loop-fault
invariant-loop-fault l = record {
  same : map (λ s. s.fault) l.all.items ++ drop l.fault-index l.faults ≡ l.faults;
  plain : All IsPlain l.all.items;
}
