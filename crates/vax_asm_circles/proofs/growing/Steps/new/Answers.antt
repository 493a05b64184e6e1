use Rattle.std.proofs.Common.{rules, ap, map}
use Rattle.vax_asm_circles.specs.View.{step_of}
use Rattle.vax_asm_circles.proofs.Adding.{none_indexed}
use Rattle.vax_asm_circles.proofs.growing.Steps.new.Goals as goal

pub returns-clause-indexed : goal.returns-clause-indexed
returns-clause-indexed c = none_indexed (record { list = c.new.result; places = c.new-2.result; awaited = c.new-3.result }) (ap (map step_of) c.new.ensures.items) (search rules) c.new-3.ensures.unique
