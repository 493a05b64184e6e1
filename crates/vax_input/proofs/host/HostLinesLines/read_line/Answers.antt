use Rattle.vax_input.proofs.Taking.{took_untold}
use Rattle.vax_input.proofs.host.HostLinesLines.read_line.Goals as goal

pub returns-in-Ok-Some-clause-ok : goal.returns-in-Ok-Some-clause-ok
returns-in-Ok-Some-clause-ok g c = took_untold _ _ c.hold.ensures
