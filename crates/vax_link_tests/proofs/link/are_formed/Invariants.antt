use Rattle.std.proofs.Common.{All, take}
use Rattle.vax_module.specs.Formed.{Formed}
use Rattle.vax_link_tests.proofs.link.are_formed.Given as goal

abbrev pub invariant-loop-module : goal.invariant-loop-module
invariant-loop-module l = All Formed (take l.module-index l.modules)
