use Rattle.std.proofs.Common.{◌≡◌}
use Rattle.vax_sched.proofs.SameLaws.{same-text}
use Rattle.vax_sched.proofs.schedule.Schedule.print.Goals as goal

pub returns-clause-same : goal.returns-clause-same
returns-clause-same c = λ areas placed.
    let now : c.args.self.now ≡ c.self.inside.rules.items = cc in
    same-text areas c.in_ok-text_of.field-0.items c.args.self.now c.self.inside.rules.items c.deref.result.now c.self.inside.fixed.items c.self.inside.repeated.items c.self.invariant now c.deref.ensures.value c.in_ok-text_of.ensures placed
