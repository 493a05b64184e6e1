use Rattle.std.proofs.Common.{◌<◌, ◌+◌, suc, length, refl, arith}
use Rattle.vax_link.proofs.LeadLaws.{led_through, led_too_far, reaches_begin, reaches_more}
use Rattle.vax_link.proofs.leads.Leads.lead.Goals as goal

pub loop-steps-init : goal.loop-steps-init
loop-steps-init c = λ entries kept. reaches_begin c.args.self.now.names.modules.now entries c.args.name.now

pub returns-then-led-self : goal.returns-then-led-self
returns-then-led-self c = λ entries kept.
    let modules = c.args.self.now.names.modules.now in
    let beyond : suc (length entries) < c.loop-steps.steps + c.in-Known.led.steps = omega (arith, kept.table.steps, c.if-led-self.true, c.loop-steps-test.true) in
    led_too_far modules entries c.args.name.now c.loop-steps.name.now c.loop-steps.steps c.loop-steps.offset (suc (length entries)) c.in-Known.led
    (c.loop-steps.invariant entries kept) (c.in-Known.ensures entries kept) beyond

pub returns-in-Known : goal.returns-in-Known
returns-in-Known c = λ entries kept.
    let modules = c.args.self.now.names.modules.now in (
      led_through modules entries c.args.name.now c.loop-steps.name.now c.loop-steps.steps c.loop-steps.offset c.in-Known.led
          (record { end = c.moved.result; steps = c.loop-steps.steps + c.in-Known.led.steps })
          (c.loop-steps.invariant entries kept) (c.in-Known.ensures entries kept) refl c.moved.ensures,
      omega (arith, kept.table.steps, c.if-led-self.false, c.loop-steps-test.true),
    )

pub loop-steps-preserved : goal.loop-steps-preserved
loop-steps-preserved c = λ entries kept.
    reaches_more c.args.self.now.names.modules.now entries c.args.name.now c.loop-steps.name.now c.in-On.next.now c.loop-steps.steps c.loop-steps.offset c.in-On.more _
    (c.loop-steps.invariant entries kept) (c.in-On.ensures entries kept) refl
