use Rattle.std.proofs.Common.{Option, sym, subst}
use Rattle.vax_flat.specs.OverPort.{Present}
use Rattle.vax_flat.specs.Parts.{later_step, part_step}
use Rattle.vax_undo.specs.Transaction.{seen}
use Rattle.vax_cpu.specs.declared.cpu.Open.{Open}
use Rattle.vax_undo.specs.FirstPart.{NothingOpen}
use Rattle.vax_cpu.specs.Attempt.{open_after}
use Rattle.vax_cpu.specs.Tried.{Made, start_by, tree_of}
use Rattle.vax_cpu.proofs.Attempts.{first_closed, later_closed}
use Rattle.vax_cpu.specs.Trail.{TrailedTried, traced_of}
use Rattle.vax_cpu.proofs.attempt.try_once.Goals as goal

pub returns-in-None-clause-made : goal.returns-in-None-clause-made
returns-in-None-clause-made g c =
    let old : Present = seen g.P.Port.view c.args.core.now c.args.term.now c.args.port.now in
    let new : Present = seen g.P.Port.view c.settle.new.core c.settle.new.term c.settle.new.port in
    subst (λ (l : Option Open). Made (tree_of l) (start_by l c.args.core.now) old c.settle.result new) (sym c.in-None.is) (c.settle.ensures.made part_step old c.try_step-tried.ensures.tried)

pub returns-in-Some-clause-made : goal.returns-in-Some-clause-made
returns-in-Some-clause-made g c =
    let old : Present = seen g.P.Port.view c.args.core.now c.args.term.now c.args.port.now in
    let new : Present = seen g.P.Port.view c.settle_later.new.core c.settle_later.new.term c.settle_later.new.port in
    subst (λ (l : Option Open). Made (tree_of l) (start_by l c.args.core.now) old c.settle_later.result new) (sym c.in-Some.is)
    (c.settle_later.ensures.made (later_step c.in-Some.latched.opcode) old c.try_later-tried.ensures.tried)

pub returns-in-None-clause-closed : goal.returns-in-None-clause-closed
returns-in-None-clause-closed g c = λ closed.
    let before = subst (λ (l : Option Open). NothingOpen (start_by l c.args.core.now).psl) c.in-None.is closed in
    subst (λ (l : Option Open). NothingOpen (start_by (open_after l c.settle.result) c.settle.new.core).psl) (sym c.in-None.is)
    (first_closed c.settle.new.core c.settle.result (c.settle.ensures.closed (c.try_step-tried.ensures.closed before)))

pub returns-in-Some-clause-closed : goal.returns-in-Some-clause-closed
returns-in-Some-clause-closed g c = λ closed.
    let before = subst (λ (l : Option Open). NothingOpen (start_by l c.args.core.now).psl) c.in-Some.is closed in
    subst (λ (l : Option Open). NothingOpen (start_by (open_after l c.settle_later.result) c.settle_later.new.core).psl) (sym c.in-Some.is)
    (later_closed c.in-Some.latched c.settle_later.new.core c.settle_later.result c.settle_later.ensures.quiet before (c.settle_later.ensures.closed before c.try_later-tried.ensures.closed))

pub returns-in-None-clause-trail : goal.returns-in-None-clause-trail
returns-in-None-clause-trail g c =
    let old = traced_of g.P.Port.view g.P.Port.trail c.args.core.now c.args.term.now c.args.port.now in
    subst (λ (l : Option Open). TrailedTried (tree_of l) (start_by l c.args.core.now) old c.settle.result (g.P.Port.trail c.settle.new.port)) (sym c.in-None.is)
    (c.settle.ensures.trail part_step old c.try_step-tried.ensures.tried c.try_step-tried.ensures.traces)

pub returns-in-Some-clause-trail : goal.returns-in-Some-clause-trail
returns-in-Some-clause-trail g c =
    let old = traced_of g.P.Port.view g.P.Port.trail c.args.core.now c.args.term.now c.args.port.now in
    subst (λ (l : Option Open). TrailedTried (tree_of l) (start_by l c.args.core.now) old c.settle_later.result (g.P.Port.trail c.settle_later.new.port)) (sym c.in-Some.is)
    (c.settle_later.ensures.trail (later_step c.in-Some.latched.opcode) old c.try_later-tried.ensures.tried c.try_later-tried.ensures.traces)
