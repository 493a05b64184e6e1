use Rattle.std.proofs.Common.{◌-◌, Some, sym, subst, refl}
use Rattle.std.proofs.lemmas.Map.Text.{hash_map_updates_str}
use Rattle.vax_link.specs.Leads.{IsLed}
use Rattle.vax_link.specs.declared.leads.Leads.{Leads}
use Rattle.vax_link.specs.declared.leads.Led.{Led}
use Rattle.vax_link.specs.declared.names.Names.{Names}
use Rattle.vax_link.proofs.LeadLaws.{kept_more, led_next}
use Rattle.vax_link.proofs.leads.Leads.remember.Goals as goal

pub loop-led-preserved : goal.loop-led-preserved
loop-led-preserved c = (
  c.loop-led.invariant.0,
  λ entries kept led.
      let so_far = c.loop-led.invariant.1 entries kept led in
      let now : Leads = c.loop-led.self in
      let new : Leads = record { names = now.names; led = c.insert.new.self } in
      let next : Led = record { end = c.moved.result; steps = c.loop-led.led.steps - 1 } in
      let modules = c.args.self.now.names.modules.now in
      let L : Names → Type 0 = λ n. IsLed n.modules.now entries c.loop-led.name.now c.loop-led.led in
      let here : IsLed now.names.modules.now entries c.loop-led.name.now c.loop-led.led = subst L (sym c.loop-led.invariant.0) so_far.1 in
      let N : Names → Type 0 = λ n. IsLed n.modules.now entries c.in-On.next.now next in (
        kept_more now new entries c.loop-led.name.now c.loop-led.led so_far.0 here refl
            (λ q. hash_map_updates_str c.loop-led.name.now now.led c.insert.new.self (Some c.loop-led.led) c.in-Ok.ensures.updates q),
        subst N c.loop-led.invariant.0
            (led_next now.names.modules.now entries c.loop-led.name.now c.in-On.next.now c.in-On.more c.wrapping_neg.result c.loop-led.led next here
            (c.in-On.ensures entries so_far.0) c.wrapping_neg.ensures c.loop-led-test.true refl c.moved.ensures),
      ),
)
