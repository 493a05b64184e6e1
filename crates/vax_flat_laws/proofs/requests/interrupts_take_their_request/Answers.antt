use Rattle.vax_flat_laws.proofs.Requesting.{clock_taken_back, software_taken_back}
use Rattle.vax_flat_laws.proofs.requests.interrupts_take_their_request.Goals as goal

pub returns : goal.returns
returns c = record {
  others = λ k s t memory end few h. software_taken_back k s t memory end h.machine h.comes few;
  clock = λ s t memory end h. clock_taken_back s t memory end h.machine h.comes;
}
