use Rattle.vax_link_laws.proofs.Naming.{name_leads, name_stands}
use Rattle.vax_link_laws.proofs.names_lead_to_their_bytes.Goals as goal

pub returns-clause-value : goal.returns-clause-value
returns-clause-value c = λ region modules image owner number place g linked has value. name_stands region modules image owner number place g linked has value

pub returns-clause-byte : goal.returns-clause-byte
returns-clause-byte c = λ region modules image owner number place at g s formed linked has value low there less own. name_leads region modules image owner number place at g s formed linked has value low there less own
