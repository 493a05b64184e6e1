use Rattle.vax_machine.specs.Meaning.{engine}
use Rattle.vax_console.specs.Ends.{scene}
use Rattle.vax_debug_acts.specs.Pages.{pages_at}
use Rattle.vax_debug_session.specs.Exchanges.{exchange}
use Rattle.vax_debug_session.proofs.Asking.{blank_acts, blank_breaks, line_acts_as, line_breaks_as, refused_acts, refused_breaks}
use Rattle.vax_console.proofs.Only.{only_none}
use Rattle.vax_debug_views.proofs.Telling.{replied_only}
use Rattle.vax_debug_session.proofs.turns.carry_out.Goals as goal

pub returns-in-Blank-clause-acts : goal.returns-in-Blank-clause-acts
returns-in-Blank-clause-acts g c =
    blank_acts (scene (engine c.args.machine.now) (g.F.PageFile.contents c.args.file.now) (g.K.Sink.contents c.args.sink.now)) c.args.setting.now.limits.now c.args.setting.now.legend.now c.args.breaks.now (exchange c.args.line.now (pages_at (engine c.args.machine.now))) c.args.said.now c.in-Blank.is

pub returns-in-Blank-clause-breaks : goal.returns-in-Blank-clause-breaks
returns-in-Blank-clause-breaks g c =
    blank_breaks (scene (engine c.args.machine.now) (g.F.PageFile.contents c.args.file.now) (g.K.Sink.contents c.args.sink.now)) c.args.setting.now.legend.now c.args.breaks.now c.args.said.now c.in-Blank.is

pub returns-in-Request-clause-acts : goal.returns-in-Request-clause-acts
returns-in-Request-clause-acts g c =
    line_acts_as (scene (engine c.args.machine.now) (g.F.PageFile.contents c.args.file.now) (g.K.Sink.contents c.args.sink.now)) (scene (engine c.answer.new.machine) (g.F.PageFile.contents c.answer.new.file) (g.K.Sink.contents c.answer.new.sink)) c.answer.result c.args.setting.now.limits.now c.args.setting.now.legend.now c.args.breaks.now (exchange c.args.line.now (pages_at (engine c.args.machine.now))) _ _ c.in-Request.is c.answer.ensures.acts

pub returns-in-Request-clause-breaks : goal.returns-in-Request-clause-breaks
returns-in-Request-clause-breaks g c =
    line_breaks_as (scene (engine c.args.machine.now) (g.F.PageFile.contents c.args.file.now) (g.K.Sink.contents c.args.sink.now)) c.answer.result c.answer.new.breaks c.args.setting.now.legend.now c.args.breaks.now _ _ c.in-Request.is c.answer.ensures.breaks

pub returns-in-Refused-clause-acts : goal.returns-in-Refused-clause-acts
returns-in-Refused-clause-acts g c =
    refused_acts (scene (engine c.args.machine.now) (g.F.PageFile.contents c.args.file.now) (g.K.Sink.contents c.args.sink.now)) (g.K.Sink.contents c.show_refusal.new.sink) c.show_refusal.result c.args.setting.now.limits.now c.args.setting.now.legend.now c.args.breaks.now (exchange c.args.line.now (pages_at (engine c.args.machine.now))) c.args.said.now c.in-Refused.refusal c.in-Refused.is c.show_refusal.ensures.replied

pub returns-in-Refused-clause-breaks : goal.returns-in-Refused-clause-breaks
returns-in-Refused-clause-breaks g c =
    refused_breaks (scene (engine c.args.machine.now) (g.F.PageFile.contents c.args.file.now) (g.K.Sink.contents c.args.sink.now)) c.show_refusal.result c.args.setting.now.legend.now c.args.breaks.now c.args.said.now c.in-Refused.refusal c.in-Refused.is

pub returns-in-Blank-clause-only : goal.returns-in-Blank-clause-only
returns-in-Blank-clause-only g c = only_none _

pub returns-in-Refused-clause-only : goal.returns-in-Refused-clause-only
returns-in-Refused-clause-only g c = replied_only _ _ _ _ c.show_refusal.ensures.replied
