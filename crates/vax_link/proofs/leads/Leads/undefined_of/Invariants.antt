use Rattle.std.proofs.Common.{◌≡◌, take}
use Rattle.std.specs.Prelude.{None}
use Rattle.std.specs.List.{find}
use Rattle.vax_link.specs.Leads.{IsLeads}
use Rattle.vax_link.specs.Names.{Entries, is_at_fault}
use Rattle.vax_link.proofs.leads.Leads.undefined_of.Given as goal

abbrev pub invariant-loop-external : goal.invariant-loop-external
invariant-loop-external l = (l.self.names ≡ l.initial.self.names)
    × ((entries : Entries) → IsLeads l.initial.self entries → IsLeads l.self entries × (find (is_at_fault l.initial.self.names.modules.now entries) (take l.external-index l.externals) ≡ None))
