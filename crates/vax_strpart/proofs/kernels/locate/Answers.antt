use Rattle.std.proofs.Common.{◌==◌, ◌∙◌}
use Rattle.vax_strpart.proofs.MarkLaws.{position-map}
use Rattle.vax_strpart.proofs.kernels.locate.Goals as goal

pub returns-clause-exact : goal.returns-clause-exact
returns-clause-exact c = c.first.ensures.exact ∙ position-map (λ x. x == c.args.byte) c.args.s.now
