use Rattle.std.proofs.Common.{All, take}
use Rattle.vax_module.specs.Formed.{IsKnown}
use Rattle.vax_link_tests.proofs.link.are_known.Given as goal

abbrev pub invariant-loop-global : goal.invariant-loop-global
invariant-loop-global l = All (λ g. IsKnown l.sections l.externals g.value) (take l.global-index l.globals)
