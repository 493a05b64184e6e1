use Rattle.vax_link.specs.Leads.{IsLeads}
use Rattle.vax_link.specs.Names.{Entries}
use Rattle.vax_link.proofs.LeadLaws.{Reaches}
use Rattle.vax_link.proofs.leads.Leads.lead.Given as goal

abbrev pub invariant-loop-steps : goal.invariant-loop-steps
invariant-loop-steps l = (entries : Entries) → IsLeads l.self entries → Reaches l.self.names.modules.now entries l.fn.name l.steps l.name l.offset
