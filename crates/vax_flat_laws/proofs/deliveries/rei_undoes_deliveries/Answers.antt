use Rattle.vax_flat_laws.proofs.Handling.{exception_returns, interrupt_returns}
use Rattle.vax_flat_laws.proofs.Changing.{change_returns}
use Rattle.vax_flat_laws.proofs.deliveries.rei_undoes_deliveries.Goals as goal

pub returns : goal.returns
returns c = record {
  exceptions = λ e s t memory end fine h. exception_returns e s t memory end h.machine h.values h.comes fine;
  interrupts = λ level s t memory end fine above h. interrupt_returns level s t memory end h.machine h.few h.comes fine above;
  changes = λ target code s t memory end fine h. change_returns target code s t memory end h.machine h.short h.comes fine;
}
