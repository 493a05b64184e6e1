use Rattle.vax_debug_session.proofs.Asking.{span_shown}
use Rattle.vax_debug_session.proofs.requests.disassemble_at.Goals as goal

pub returns-in-Some-clause-shows : goal.returns-in-Some-clause-shows
returns-in-Some-clause-shows g c =
    span_shown _ _ _ c.args.legend.now _ _ c.in-Some.is c.disassemble.ensures.shows

pub returns-in-None-clause-shows : goal.returns-in-None-clause-shows
returns-in-None-clause-shows g c =
    span_shown _ _ _ c.args.legend.now _ _ c.in-None.is c.disassemble_here.ensures.shows
