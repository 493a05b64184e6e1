use Rattle.vax_console.proofs.Agreeing.{all_agree, all_send}
use Rattle.vax_console.proofs.laws.sessions_agree.Goals as goal

pub returns-clause-leads : goal.returns-clause-leads
returns-clause-leads c = λ g lines s t m at h. all_agree g lines s t (m, at) h

pub returns-clause-sends : goal.returns-clause-sends
returns-clause-sends c = λ g lines s t m at h. all_send g lines s t (m, at) h
