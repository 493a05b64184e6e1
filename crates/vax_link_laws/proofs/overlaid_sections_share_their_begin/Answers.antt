use Rattle.vax_link_laws.proofs.Overlaying.{covered, shared}
use Rattle.vax_link_laws.proofs.overlaid_sections_share_their_begin.Goals as goal

pub returns-clause-begin : goal.returns-clause-begin
returns-clause-begin c = λ region modules image owner number other index s t linked one two over laid same. shared region modules owner number other index s t one two over laid same

pub returns-clause-room : goal.returns-clause-room
returns-clause-room c = λ region modules image owner number place s linked has over less. covered region modules image owner number place s linked has over less
