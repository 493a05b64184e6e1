-- What the code's types mean.
use Rattle.vax_asm_circles.specs.Circles as specs
use Rattle.vax_asm_circles.specs.declared.steps.Step.{Step}

abbrev pub step_of : Step → specs.Step
step_of s = record { from = s.from; to = s.to.items }
