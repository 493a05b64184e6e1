use Rattle.std.proofs.Common.{◌==◌, not, ◌∙◌}
use Rattle.vax_strpart.proofs.MarkLaws.{position-map}
use Rattle.vax_strpart.proofs.kernels.skip.Goals as goal

pub returns-clause-exact : goal.returns-clause-exact
returns-clause-exact c = c.first.ensures.exact ∙ position-map (λ x. not (x == c.args.byte)) c.args.s.now
