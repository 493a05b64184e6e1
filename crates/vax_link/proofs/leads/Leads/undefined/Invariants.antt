use Rattle.std.proofs.Common.{◌≡◌, take}
use Rattle.std.specs.Prelude.{None}
use Rattle.std.specs.List.{find}
use Rattle.vax_link.specs.Leads.{IsLeads}
use Rattle.vax_link.specs.Names.{Entries, externals, is_at_fault}
use Rattle.vax_link.proofs.leads.Leads.undefined.Given as goal

abbrev pub invariant-loop-module : goal.invariant-loop-module
invariant-loop-module l = (l.self.names ≡ l.initial.self.names)
    × ((entries : Entries) → IsLeads l.initial.self entries → IsLeads l.self entries
    × (find (is_at_fault l.initial.self.names.modules.now entries) (externals (take l.module-index l.initial.self.names.modules.now)) ≡ None))
