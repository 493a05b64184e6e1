use Rattle.std.proofs.Common.{◌∙◌}
use Rattle.vax_strpart.specs.Kernels.{is_miss}
use Rattle.vax_strpart.proofs.MarkLaws.{position-map}
use Rattle.vax_strpart.proofs.kernels.span.Goals as goal

pub returns-clause-exact : goal.returns-clause-exact
returns-clause-exact c = c.first.ensures.exact ∙ position-map (is_miss c.args.table.now c.args.mask) c.args.s.now
