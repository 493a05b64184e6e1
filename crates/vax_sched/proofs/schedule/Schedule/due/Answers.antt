use Rattle.std.proofs.Common.{◌≡◌}
use Rattle.vax_sched.proofs.DueLaws.{due_at, due_few, due_second}
use Rattle.vax_sched.proofs.KeptLaws.{divisors-kept}
use Rattle.vax_sched.proofs.schedule.Schedule.due.Goals as goal

pub returns-in-Some-clause-target : goal.returns-in-Some-clause-target
returns-in-Some-clause-target c =
    let now : c.args.self.now ≡ c.self.inside.rules.items = cc in
    let found = c.in-Some.ensures.lookup in
    due_at c.args.self.now c.self.inside.rules.items c.self.inside.fixed.items c.deref.result.now c.fixed_now-fixed.result.now c.self.inside.repeated.items c.args.turn c.args.place c.in-Some.rule.now c.self.invariant now c.deref.ensures.value c.fixed_now-fixed.ensures found.3.0 (found.3.1 c.in-Some.rule.now)

pub repeated_at-requires : goal.repeated_at-requires
repeated_at-requires c = rw c.deref-in-None.ensures.value (divisors-kept c.self.inside.rules.items c.self.inside.fixed.items c.self.inside.repeated.items c.self.invariant)

pub returns-in-None-clause-target : goal.returns-in-None-clause-target
returns-in-None-clause-target c =
    let now : c.args.self.now ≡ c.self.inside.rules.items = cc in
    due_second c.args.self.now c.self.inside.rules.items c.self.inside.fixed.items c.deref.result.now c.fixed_now-fixed.result.now c.self.inside.repeated.items c.deref-in-None.result.now c.args.turn c.args.place c.repeated_at.result c.self.invariant now c.deref.ensures.value c.fixed_now-fixed.ensures c.deref-in-None.ensures.value c.in-None.ensures.lookup.3 c.repeated_at.ensures

pub returns-in-Some-clause-few : goal.returns-in-Some-clause-few
returns-in-Some-clause-few c =
    let now : c.args.self.now ≡ c.self.inside.rules.items = cc in
    due_few c.args.self.now c.self.inside.rules.items c.self.inside.fixed.items c.self.inside.repeated.items c.args.turn c.self.invariant now

pub returns-in-None-clause-few : goal.returns-in-None-clause-few
returns-in-None-clause-few c =
    let now : c.args.self.now ≡ c.self.inside.rules.items = cc in
    due_few c.args.self.now c.self.inside.rules.items c.self.inside.fixed.items c.self.inside.repeated.items c.args.turn c.self.invariant now
