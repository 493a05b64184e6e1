use Rattle.std.proofs.Common.{◌≡◌, true, false, [], length, take}
use Rattle.vax_link.specs.Names.{transfers}
use Rattle.vax_link.proofs.names.second_transfer.Given as goal

abbrev pub invariant-loop-module : goal.invariant-loop-module
invariant-loop-module l = record {
  none : l.found ≡ false → transfers (take l.module-index l.modules) ≡ [];
  one : l.found ≡ true → length (transfers (take l.module-index l.modules)) ≡ 1;
}
