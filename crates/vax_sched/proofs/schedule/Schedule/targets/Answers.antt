use Rattle.std.proofs.Common.{◌≡◌}
use Rattle.vax_sched.proofs.DueLaws.{due_all}
use Rattle.vax_sched.proofs.KeptLaws.{divisors-kept}
use Rattle.vax_sched.proofs.schedule.Schedule.targets.Goals as goal

pub new-requires : goal.new-requires
new-requires c = rw c.deref-2.ensures.value (divisors-kept c.self.inside.rules.items c.self.inside.fixed.items c.self.inside.repeated.items c.self.invariant)

pub returns : goal.returns
returns c =
    let now : c.args.self.now ≡ c.self.inside.rules.items = cc in
    due_all c.args.self.now c.self.inside.rules.items c.self.inside.fixed.items c.deref.result.now c.fixed_now.result.now c.self.inside.repeated.items c.deref-2.result.now c.args.turn c.new.result c.self.invariant now c.deref.ensures.value c.fixed_now.ensures c.deref-2.ensures.value c.new.ensures
