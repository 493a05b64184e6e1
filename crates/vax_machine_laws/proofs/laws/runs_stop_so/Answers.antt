use Rattle.vax_machine.specs.Laws.{state_at}
use Rattle.vax_machine_laws.proofs.Reaching.{run_comes, stops_there}
use Rattle.vax_machine_laws.proofs.laws.runs_stop_so.Goals as goal

pub returns : goal.returns
returns c = record {
  comes = λ limits r count goes. (run_comes limits r count goes).reaches;
  stops = λ limits r count why goes stopped. stops_there why limits r.start (state_at r count) stopped (run_comes limits r count goes);
}
