use Rattle.std.proofs.Common.{rules, ◌≡◌, ◌∙◌, false, subst, sym}
use Rattle.vax_asm_circles.specs.Circles.{among}
use Rattle.vax_asm_circles.specs.Growing.{steps_in}
use Rattle.vax_asm_circles.specs.View.{step_of}
use Rattle.vax_asm_circles.proofs.Adding.{apart_back, turned}
use Rattle.vax_asm_circles.proofs.growing.Steps.may_come_back.Goals as goal

pub returns-else-contains : goal.returns-else-contains
returns-else-contains c = λ none.
    let step = step_of c.args.step.now in
    let here : c.contains.result ≡ false = search rules in
    apart_back (steps_in c.args.self.now) step c.args.self.now.awaited.keys c.requires.awaited (sym c.contains.ensures ∙ here)
    (subst (λ l. among step.from l ≡ false) c.deref.ensures.value (sym (turned step.from c.deref.result.now) ∙ (sym c.contains-else-contains.ensures.value ∙ none)))
