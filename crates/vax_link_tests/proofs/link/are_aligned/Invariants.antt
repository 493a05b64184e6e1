use Rattle.std.proofs.Common.{All, take}
use Rattle.vax_module.specs.Formed.{IsAlignment}
use Rattle.vax_link_tests.proofs.link.are_aligned.Given as goal

abbrev pub invariant-loop-section : goal.invariant-loop-section
invariant-loop-section l = All (λ s. IsAlignment s.align) (take l.section-index l.sections)
