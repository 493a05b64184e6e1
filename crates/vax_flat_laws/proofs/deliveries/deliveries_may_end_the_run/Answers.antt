use Rattle.vax_flat_laws.proofs.Endings.{unread_ends, exception_ends, interrupt_ends, change_ends, change_inside}
use Rattle.vax_flat_laws.proofs.deliveries.deliveries_may_end_the_run.Goals as goal

pub returns : goal.returns
returns c = record { unread = unread_ends; exceptions = exception_ends; interrupts = interrupt_ends; changes = change_ends; inside = change_inside }
