use Rattle.vax_link_laws.proofs.Standing.{own_stands, field_stands}
use Rattle.vax_link_laws.proofs.sections_stand_at_their_addresses.Goals as goal

pub returns-clause-own : goal.returns-clause-own
returns-clause-own c = λ region modules image owner number place s formed linked has less own. own_stands region modules image owner number place s formed linked has less own

pub returns-clause-fields : goal.returns-clause-fields
returns-clause-fields c = λ region modules image owner place r formed linked has less. field_stands region modules image owner place r formed linked has less
