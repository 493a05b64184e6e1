use Rattle.std.proofs.Common.{ap}
use Rattle.vax_debug_views.specs.Views.{beyond}
use Rattle.vax_debug_views.proofs.Wholes.{behind_told}
use Rattle.vax_debug_views.proofs.instructions.behind_instruction.Goals as goal

pub returns-in-Ok-clause-tells : goal.returns-in-Ok-clause-tells
returns-in-Ok-clause-tells g c = λ sink o s replies here.
    behind_told c.args.address c.span_of.result c.examine.new.cells s.machine _ (c.in-Ok.ensures.shows sink o s replies here) c.span_of.ensures (ap (beyond c.args.address) c.from.ensures)
