use Rattle.vax_asm_laws.proofs.Stating.{statement_goes}
use Rattle.vax_asm_laws.proofs.Walking.{start_counted}
use Rattle.vax_asm_laws.proofs.statements_are_counted.Goals as goal

pub returns : goal.returns
returns c = record {
  start = λ dialect. start_counted;
  counted = λ line s t counted leads. (statement_goes line.origin line.text s t leads.waiting counted leads.placed).counted;
  keeps = λ line s t counted leads. (statement_goes line.origin line.text s t leads.waiting counted leads.placed).keeps;
  stand = λ line s t counted leads. (statement_goes line.origin line.text s t leads.waiting counted leads.placed).stand;
}
