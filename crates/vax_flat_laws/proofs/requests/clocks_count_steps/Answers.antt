use Rattle.vax_flat_laws.proofs.Requesting.{exception_counted, instruction_counted, trap_counted}
use Rattle.vax_flat_laws.proofs.requests.clocks_count_steps.Goals as goal

pub returns : goal.returns
returns c = record {
  instructions = λ s t memory end came. instruction_counted s t memory end came;
  exceptions = λ e s t memory end m fit came. exception_counted e s t memory end m fit came;
  traps = λ kind s t memory end m came. trap_counted kind s t memory end m came;
}
