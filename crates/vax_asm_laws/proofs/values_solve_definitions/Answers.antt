use Rattle.vax_asm_laws.proofs.Solving.{fewest, solve}
use Rattle.vax_asm_laws.proofs.values_solve_definitions.Goals as goal

pub returns : goal.returns
returns c = record { solve = λ sources. solve sources; fewest = λ sources others h. fewest sources others h }
