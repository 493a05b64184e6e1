use Rattle.std.specs.Prelude.{IfSome}
use Rattle.std.proofs.Common.{Option, sym, ap, subst, ◌∙◌}
use Rattle.vax_flat.specs.OverPort.{Present}
use Rattle.vax_undo.specs.Transaction.{state_of}
use Rattle.vax_cpu.specs.declared.cpu.Attempt.{Attempt}
use Rattle.vax_cpu.specs.declared.cpu.Cpu.{Cpu}
use Rattle.vax_cpu.specs.Attempt.{Attempted, IsAsBefore, IsOpenAfter, StopsInside, open_after}
use Rattle.vax_cpu.specs.Tried.{start_by, tree_of}
use Rattle.vax_cpu.proofs.Steps.{attempted, inside, unmoved}
use Rattle.vax_cpu.proofs.Runs.{as_before, input_there, made_there, opens, running_there}
use Rattle.vax_cpu.specs.Trail.{Trailed, traced_of}
use Rattle.vax_cpu.proofs.Trails.{answered}
use Rattle.vax_cpu.proofs.cpu.Cpu.attempt.Goals as goal

pub returns-clause-attempted : goal.returns-clause-attempted
returns-clause-attempted g c = λ place at st.
    let old = c.args.self.now in
    let view = g.P.Port.view c.args.port.now in
    let after = g.P.Port.view c.try_once-tried.new.port in
    let cpu : Cpu = record { core = c.try_once-tried.new.core; term = c.try_once-tried.new.term; latch = c.open_after-self.result; log = _; scratch = c.try_once-tried.new.scratch } in
    let new : Present = record { state = state_of c.try_once-tried.new.core c.try_once-tried.new.term; view = after } in
    subst (λ (o : Option Attempt). IfSome o (λ a. Attempted view place a cpu after)) c.answer_of.ensures
    (attempted view place st (running_there old view place at) cpu after (input_there old view place at ∙ ap (λ v. v.items) (sym c.try_once-tried.ensures.input)) c.try_once-tried.result
    (made_there old view place at c.try_once-tried.result new c.requires.unsent c.try_once-tried.ensures.made)
    (c.open_after-self.ensures ∙ ap (λ latch. open_after latch c.try_once-tried.result) at.open_one))

pub returns-clause-before : goal.returns-clause-before
returns-clause-before g c =
    let old = c.args.self.now in
    let view = g.P.Port.view c.args.port.now in
    let after = g.P.Port.view c.try_once-tried.new.port in
    let cpu : Cpu = record { core = c.try_once-tried.new.core; term = c.try_once-tried.new.term; latch = c.open_after-self.result; log = _; scratch = c.try_once-tried.new.scratch } in
    subst (λ (o : Option Attempt). IfSome o (λ a. IsAsBefore a old view cpu after)) c.answer_of.ensures
    (as_before old cpu view after (ap (λ v. v.items) c.try_once-tried.ensures.input) c.try_once-tried.result
    (unmoved (start_by old.latch old.core) _ _ (tree_of old.latch) c.try_once-tried.result c.try_once-tried.ensures.made))

pub returns-clause-absent : goal.returns-clause-absent
returns-clause-absent g c =
    let old = c.args.self.now in
    subst (λ (o : Option Attempt). IfSome o (λ a. StopsInside a (g.P.Port.view c.args.port.now))) c.answer_of.ensures
    (inside (tree_of old.latch) (start_by old.latch old.core) c.try_once-tried.result _ _ c.try_once-tried.ensures.made)

pub returns-clause-latch : goal.returns-clause-latch
returns-clause-latch g c =
    subst (λ (o : Option Attempt). IfSome o (λ a. IsOpenAfter a c.args.self.now.latch c.open_after-self.result)) c.answer_of.ensures
    (opens c.args.self.now.latch c.open_after-self.result c.try_once-tried.result c.open_after-self.ensures)

pub returns-clause-trail : goal.returns-clause-trail
returns-clause-trail g c =
    let old = c.args.self.now in
    let before = traced_of g.P.Port.view g.P.Port.trail old.core old.term c.args.port.now in
    let trail = g.P.Port.trail c.try_once-tried.new.port in
    subst (λ (o : Option Attempt). IfSome o (λ a. Trailed (tree_of old.latch) (start_by old.latch old.core) before a trail)) c.answer_of.ensures
    (answered (tree_of old.latch) (start_by old.latch old.core) before c.try_once-tried.result trail c.try_once-tried.ensures.trail)
