use Rattle.std.proofs.Common.{subst, sym}
use Rattle.vax_flat.specs.OverPort.{Present}
use Rattle.vax_undo.specs.Transaction.{seen}
use Rattle.vax_cpu.specs.declared.attempt.Tried.{Tried}
use Rattle.vax_cpu.specs.Tried.{IsFinal, IsTried}
use Rattle.vax_cpu.proofs.Attempts.{step_closed_later}
use Rattle.vax_cpu.proofs.Settled.{later_delivered, later_ended, later_made}
use Rattle.vax_cpu.proofs.Steps.{final_of}
use Rattle.vax_cpu.proofs.Trails.{at_once, delivered}
use Rattle.vax_cpu.proofs.attempt.settle_later.Goals as goal

pub returns-in-Event-clause-made : goal.returns-in-Event-clause-made
returns-in-Event-clause-made g c = λ tree old is.
    let now : Present = seen g.P.Port.view c.args.core.now c.args.term.now c.args.port.now in
    let d = c.deliver_from.ensures.delivered in
    later_delivered tree c.args.start old now d.0 _ c.in-Event.exception c.deliver_from.result (subst (λ (t : Tried). IsTried tree old t now) c.in-Event.is is) d.1 d.2

pub returns-in-Ended-clause-made : goal.returns-in-Ended-clause-made
returns-in-Ended-clause-made g c = λ tree old is.
    let now : Present = seen g.P.Port.view c.args.core.now c.args.term.now c.args.port.now in
    later_ended tree old now c.args.start c.args.tried _ c.in-Ended.is is

pub returns-in_default-clause-made : goal.returns-in_default-clause-made
returns-in_default-clause-made g c = λ tree old is. later_made tree old _ c.args.start c.args.tried (final_of c.args.tried c.in_default.not-Event) c.in_default.not-Ended is

pub returns-in_default-clause-closed : goal.returns-in_default-clause-closed
returns-in_default-clause-closed g c = λ start closed. step_closed_later c.args.core.now.psl c.args.tried closed c.in_default.not-Ended

pub returns-in-Event-clause-trail : goal.returns-in-Event-clause-trail
returns-in-Event-clause-trail g c = λ tree old is traces.
    let now : Present = seen g.P.Port.view c.args.core.now c.args.term.now c.args.port.now in
    delivered tree c.args.start old now c.in-Event.exception c.args.tried (g.P.Port.trail c.args.port.now) c.deliver_from.result _ c.in-Event.is is traces c.deliver_from.ensures.quiet c.deliver_from.ensures.traces

pub returns-in-Ended-clause-trail : goal.returns-in-Ended-clause-trail
returns-in-Ended-clause-trail g c = λ tree old is traces. at_once tree c.args.start old c.args.tried _ (subst IsFinal (sym c.in-Ended.is) tt) traces

pub returns-in_default-clause-trail : goal.returns-in_default-clause-trail
returns-in_default-clause-trail g c = λ tree old is traces. at_once tree c.args.start old c.args.tried _ (final_of c.args.tried c.in_default.not-Event) traces
