use Rattle.vax_flat_laws.proofs.Processing.{pointers_beside, priority_alone, clock_anew, byte_sent}
use Rattle.vax_flat_laws.proofs.processor.registers_stay_apart.Goals as goal

pub returns : goal.returns
returns c = record { pointers = pointers_beside; status = priority_alone; clock = clock_anew; output = byte_sent }
