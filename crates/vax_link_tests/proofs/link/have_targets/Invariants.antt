use Rattle.std.proofs.Common.{All, take}
use Rattle.vax_module.specs.Formed.{IsKnown}
use Rattle.vax_link_tests.proofs.link.have_targets.Given as goal

abbrev pub invariant-loop-field : goal.invariant-loop-field
invariant-loop-field l = All (λ r. IsKnown l.sections l.externals r.target) (take l.field-index l.fields)
