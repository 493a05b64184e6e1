use Rattle.vax_link_laws.proofs.Leading.{field_leads}
use Rattle.vax_link_laws.proofs.fields_lead_to_their_targets.Goals as goal

pub returns : goal.returns
returns c = λ region modules image owner r formed linked has. field_leads region modules image owner r formed linked has
