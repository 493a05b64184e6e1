use Rattle.vax_macro_laws.proofs.Numbers.{opened_of, step_of}
use Rattle.vax_macro_laws.proofs.statements_are_of_lines.Goals as goal

pub returns-clause-step : goal.returns-clause-step
returns-clause-step c = λ most names rest h. step_of most names rest h

pub returns-clause-opened : goal.returns-clause-opened
returns-clause-opened c = λ most steps names rest h. opened_of most steps names rest h
