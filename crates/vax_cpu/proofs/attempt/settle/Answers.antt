use Rattle.std.proofs.Common.{subst}
use Rattle.vax_flat.specs.OverPort.{Present}
use Rattle.vax_undo.specs.Transaction.{seen}
use Rattle.vax_cpu.specs.declared.attempt.Tried.{Tried}
use Rattle.vax_cpu.specs.Tried.{IsTried}
use Rattle.vax_cpu.proofs.Settled.{first_delivered, first_made}
use Rattle.vax_cpu.proofs.Steps.{final_of}
use Rattle.vax_cpu.proofs.Trails.{at_once, first_delivered as first_traced}
use Rattle.vax_cpu.proofs.attempt.settle.Goals as goal

pub returns-in-Event-clause-made : goal.returns-in-Event-clause-made
returns-in-Event-clause-made g c = λ tree old is.
    let now : Present = seen g.P.Port.view c.args.core.now c.args.term.now c.args.port.now in
    let new : Present = seen g.P.Port.view c.try_delivery.new.core c.try_delivery.new.term c.try_delivery.new.port in
    first_delivered tree old now new c.in-Event.exception c.try_delivery.result (subst (λ (t : Tried). IsTried tree old t now) c.in-Event.is is) c.try_delivery.ensures.tried

pub returns-in_default-clause-made : goal.returns-in_default-clause-made
returns-in_default-clause-made g c = λ tree old is. first_made tree old _ c.args.tried (final_of c.args.tried c.in_default.not-Event) is

pub returns-in-Event-clause-trail : goal.returns-in-Event-clause-trail
returns-in-Event-clause-trail g c = λ tree old is traces.
    let now : Present = seen g.P.Port.view c.args.core.now c.args.term.now c.args.port.now in
    first_traced tree old now c.in-Event.exception c.args.tried (g.P.Port.trail c.args.port.now) c.try_delivery.result _ c.in-Event.is is traces c.try_delivery.ensures.quiet c.try_delivery.ensures.traces

pub returns-in_default-clause-trail : goal.returns-in_default-clause-trail
returns-in_default-clause-trail g c = λ tree old is traces. at_once tree old.state.core old c.args.tried _ (final_of c.args.tried c.in_default.not-Event) traces
