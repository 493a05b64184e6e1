use Rattle.std.proofs.Common.{ap, ◌∙◌}
use Rattle.vax_debug_views.specs.Views.{unless_head}
use Rattle.vax_debug_views.proofs.queues.next_entry.Goals as goal

pub returns-in-Ok-clause-tells : goal.returns-in-Ok-clause-tells
returns-in-Ok-clause-tells g c = λ sink o s replies here. c.unless_head.ensures ∙ ap (unless_head c.args.head) (c.in-Ok.ensures.tells sink o s replies here)
