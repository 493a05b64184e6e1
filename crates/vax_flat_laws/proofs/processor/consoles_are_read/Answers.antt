use Rattle.vax_flat_laws.proofs.Processing.{input_ready, input_taken, input_empty, output_ready, written_quietly}
use Rattle.vax_flat_laws.proofs.processor.consoles_are_read.Goals as goal

pub returns : goal.returns
returns c = record { ready = input_ready; taken = input_taken; empty = input_empty; sender = output_ready; quiet = written_quietly }
