use Rattle.std.specs.Prelude.{IfSome}
use Rattle.std.proofs.Common.{Option, Some, sym, ap, subst, ◌∙◌, refl}
use Rattle.vax_flat.specs.OverPort.{Present}
use Rattle.vax_flat.specs.Parts.{part_step}
use Rattle.vax_undo.specs.Transaction.{seen}
use Rattle.vax_cpu.specs.declared.cpu.Attempt.{Attempt}
use Rattle.vax_cpu.specs.declared.cpu.Cpu.{Cpu}
use Rattle.vax_cpu.specs.Attempt.{flat_of, StopsInside}
use Rattle.vax_cpu.specs.Batch.{AreAttempts}
use Rattle.vax_cpu.proofs.Runs.{are_attempts, at_start, goes_on, inside_batch, reaches}
use Rattle.vax_cpu.proofs.cpu.Cpu.attempts.Goals as goal

pub returns-clause-steps : goal.returns-clause-steps
returns-clause-steps g c = λ closed memory output st.
    let view = g.P.Port.view c.args.port.now in
    let m = flat_of c.args.self.now memory output in
    let cpu : Cpu = record { core = c.settle-last.new.core; term = c.settle-last.new.term; latch = c.open_after-self.result; log = _; scratch = c.try_steps-several.new.scratch } in
    let after = g.P.Port.view c.settle-last.new.port in
    let ran = c.try_steps-several.ensures.ran in
    let r = reaches view m c.try_steps-several.result.steps _ ran.0 (at_start c.args.self.now.core c.args.self.now.term view m refl c.requires.unsent refl refl refl st) refl ran.1 in
    subst (λ (o : Option Attempt). IfSome o (λ a. AreAttempts view m c.try_steps-several.result.steps a cpu after)) c.answer_of.ensures
    (are_attempts view m c.try_steps-several.result.steps ran.0 r cpu after (ap (λ v. v.items) (sym c.try_steps-several.ensures.input ∙ sym c.settle-last.ensures.input)) c.settle-last.result
    (c.settle-last.ensures.made part_step ran.0 ran.2) c.open_after-self.ensures)

pub returns-clause-absent : goal.returns-clause-absent
returns-clause-absent g c =
    let new : Present = seen g.P.Port.view c.settle-last.new.core c.settle-last.new.term c.settle-last.new.port in
    let ran = c.try_steps-several.ensures.ran in
    subst (λ (o : Option Attempt). IfSome o (λ a. StopsInside a (g.P.Port.view c.args.port.now))) c.answer_of.ensures
    (inside_batch c.try_steps-several.result.steps ran.0.state.core _ ran.0 new c.settle-last.result ran.1 (c.settle-last.ensures.made part_step ran.0 ran.2))

pub returns-clause-all : goal.returns-clause-all
returns-clause-all g c = λ closed memory output st is.
    let view = g.P.Port.view c.args.port.now in
    let m = flat_of c.args.self.now memory output in
    let ran = c.try_steps-several.ensures.ran in
    let r = reaches view m c.try_steps-several.result.steps _ ran.0 (at_start c.args.self.now.core c.args.self.now.term view m refl c.requires.unsent refl refl refl st) refl ran.1 in
    goes_on view m c.try_steps-several.result.steps ran.0 r c.args.most c.try_steps-several.result.last c.settle-last.result _ c.settle-last.ensures.kept c.try_steps-several.ensures.all ran.2 (c.answer_of.ensures ∙ ap (λ (x : Attempt). Some x) is)
