use Rattle.vax_flat_laws.proofs.Handling.{exception_handled, interrupt_handled}
use Rattle.vax_flat_laws.proofs.Changing.{change_handled}
use Rattle.vax_flat_laws.proofs.deliveries.deliveries_enter_handlers.Goals as goal

pub returns : goal.returns
returns c = record {
  exceptions = λ e s t memory end h. exception_handled e s t memory end h.machine h.values h.comes;
  interrupts = λ level s t memory end h. interrupt_handled level s t memory end h.machine h.few h.comes;
  changes = λ target code s t memory end h. change_handled target code s t memory end h.machine h.short h.comes;
}
