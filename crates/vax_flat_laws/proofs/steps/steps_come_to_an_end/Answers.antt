use Rattle.vax_flat_laws.proofs.Concluding.{good_step, delivery_concludes}
use Rattle.vax_flat_laws.proofs.steps.steps_come_to_an_end.Goals as goal

pub returns : goal.returns
returns c = record { steps = λ s memory. good_step s memory; deliveries = delivery_concludes }
