use Rattle.vax_flat.proofs.Quiet.{quiet_delivery, quiet_interrupt, quiet_whole}
use Rattle.vax_flat.proofs.laws.deliveries_raise_nothing.Goals as goal

pub returns : goal.returns
returns c = record {
  exception = λ e s next quiet. quiet_delivery next quiet e s;
  interrupt = λ level s next quiet. quiet_interrupt next quiet level s;
  step = quiet_whole;
}
