use Rattle.vax_debug_session.proofs.Asking.{no_end}
use Rattle.vax_debug_session.proofs.turns.end_for.Goals as goal

pub returns-in_default : goal.returns-in_default
returns-in_default c = no_end c.args.request.now c.in_default.not-Quit c.in_default.not-Save c.in_default.not-Restart
