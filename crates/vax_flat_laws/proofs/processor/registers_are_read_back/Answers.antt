use Rattle.vax_flat_laws.proofs.Processing.{pointers_read, priority_read, requests_read, timer_read}
use Rattle.vax_flat_laws.proofs.processor.registers_are_read_back.Goals as goal

pub returns : goal.returns
returns c = record { pointers = pointers_read; priority = priority_read; requests = requests_read; timer = timer_read }
