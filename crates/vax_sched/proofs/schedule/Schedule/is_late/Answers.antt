use Rattle.std.proofs.Common.{◌≡◌}
use Rattle.vax_sched.proofs.KeptLaws.{late_of_none}
use Rattle.vax_sched.proofs.schedule.Schedule.is_late.Goals as goal

pub returns-in-None : goal.returns-in-None
returns-in-None c =
    let now : c.args.self.now ≡ c.self.inside.rules.items = cc in
    late_of_none c.args.self.now c.self.inside.rules.items c.self.inside.fixed.items c.deref.result.now c.self.inside.repeated.items c.args.rule.now c.in-At.rule c.self.invariant now c.deref.ensures.value c.in-At.is c.in-None.ensures.value
