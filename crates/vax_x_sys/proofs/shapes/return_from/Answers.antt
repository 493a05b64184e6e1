use Rattle.std.proofs.Common.{sym, ◌∙◌}
use Rattle.vax_x_sys.proofs.Closed.{refused_closed}
use Rattle.vax_x_sys.proofs.shapes.return_from.Goals as goal

pub go_on-requires-clause-closed : goal.go_on-requires-clause-closed
go_on-requires-clause-closed g c = refused_closed _ c.args.psl (sym c.is_refused.ensures ∙ c.if-is_refused.false)
