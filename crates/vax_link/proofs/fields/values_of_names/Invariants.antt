use Rattle.std.proofs.Common.{◌≡◌, map, take}
use Rattle.vax_image.specs.declared.Base.{Base}
use Rattle.vax_link.specs.Names.{entries_from}
use Rattle.vax_link.specs.Placed.{IsLayout}
use Rattle.vax_link.specs.Leads.{IsLeads}
use Rattle.vax_link.specs.Values.{external_value}
use Rattle.vax_link.proofs.fields.values_of_names.Given as goal

abbrev pub invariant-loop-external : goal.invariant-loop-external
invariant-loop-external l = (region : Base) → IsLayout l.layout region l.leads.names.modules.now → IsLeads l.leads (entries_from 0 l.leads.names.modules.now)
    → l.values.items ≡ map (external_value region l.leads.names.modules.now) (take l.external-index l.externals)
