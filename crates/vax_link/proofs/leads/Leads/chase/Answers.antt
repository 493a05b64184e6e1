use Rattle.std.proofs.Common.{◌∙◌, sym}
use Rattle.vax_link.proofs.LeadLaws.{chase_led}
use Rattle.vax_link.proofs.NameLaws.{chase_is}
use Rattle.vax_link.proofs.leads.Leads.chase.Goals as goal

pub returns-in-None : goal.returns-in-None
returns-in-None c = λ entries kept. sym (chase_is c.args.self.now.names.modules.now entries c.args.name.now ∙ c.in-None.ensures entries kept)

pub returns-in-Some : goal.returns-in-Some
returns-in-Some c = λ entries kept.
    let led = c.in-Some.ensures entries kept in
    c.moved.ensures ∙ sym (chase_led c.args.self.now.names.modules.now entries c.args.name.now c.in-Some.led led.0 led.1)
