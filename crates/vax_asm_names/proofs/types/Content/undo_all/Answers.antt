use Rattle.std.proofs.Common.{ap, sym, ◌∙◌, arith}
use Rattle.vax_asm_names.specs.Content.{names_in}
use Rattle.vax_asm_names.specs.Journal.{undone}
use Rattle.vax_asm_names.proofs.Undoing.{none_left, undone_last}
use Rattle.vax_asm_names.proofs.types.Content.undo_all.Goals as goal

pub loop-step-preserved : goal.loop-step-preserved
loop-step-preserved c =
    ap (undone c.pop.new.self.items) c.undo.ensures
    ∙ sym (undone_last c.pop.new.self.items c.in-Some.step (names_in c.loop-step.self))
    ∙ ap (λ steps. undone steps (names_in c.loop-step.self)) (sym c.in-Some.ensures.items)
    ∙ c.loop-step.invariant

pub returns : goal.returns
returns c = sym (none_left c.loop-step.steps.items (names_in c.loop-step.self) (omega (arith, c.loop-step.steps.ok.0, c.in_default.ensures.cases.0))) ∙ c.loop-step.invariant
