use Rattle.std.proofs.Common.{◌≡◌, ◌-◌}
use Rattle.vax_link.specs.Leads.{IsLeads, IsLed}
use Rattle.vax_link.specs.Names.{Entries}
use Rattle.vax_link.proofs.leads.Leads.remember.Given as goal

abbrev pub invariant-loop-led : goal.invariant-loop-led
invariant-loop-led l = (l.self.names ≡ l.initial.self.names)
    × ((entries : Entries) → IsLeads l.initial.self entries → IsLed l.initial.self.names.modules.now entries l.initial.name l.initial.led
    → IsLeads l.self entries × IsLed l.initial.self.names.modules.now entries l.name l.led)

abbrev pub decreases-loop-led : goal.decreases-loop-led
decreases-loop-led l = l.led.steps - 1
