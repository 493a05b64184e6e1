use Rattle.std.proofs.Common.{arith}
use Rattle.vax_link_tests.proofs.link.is_alignment.Goals as goal

pub returns-then-align-eq1 : goal.returns-then-align-eq1
returns-then-align-eq1 c = λ _. (0, omega arith, c.if-align-eq1.true)

pub returns-then-align-eq4 : goal.returns-then-align-eq4
returns-then-align-eq4 c = λ _. (2, omega arith, c.if-align-eq4.true)
