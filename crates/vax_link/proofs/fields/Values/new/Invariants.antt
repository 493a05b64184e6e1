use Rattle.std.proofs.Common.{◌≡◌, take}
use Rattle.vax_image.specs.declared.Base.{Base}
use Rattle.vax_link.specs.Names.{entries_from}
use Rattle.vax_link.specs.Placed.{IsLayout, bytes_in}
use Rattle.vax_link.specs.Leads.{IsLeads}
use Rattle.std.proofs.Common.{map}
use Rattle.vax_link.specs.Values.{external_value}
use Rattle.vax_link.proofs.fields.Values.new.Given as goal

abbrev pub invariant-loop-module : goal.invariant-loop-module
invariant-loop-module l = (region : Base) → IsLayout l.layout region l.leads.names.modules.now → IsLeads l.leads (entries_from 0 l.leads.names.modules.now)
    → bytes_in l.externals.items ≡ map (λ m. map (external_value region l.leads.names.modules.now) m.externals) (take l.module-index l.leads.names.modules.now)
