use Rattle.std.proofs.Common.{◌≡◌, rules, min}
use Rattle.vax_sched.proofs.DueLaws.{gap_of}
use Rattle.vax_sched.proofs.KeptLaws.{divisors-kept}
use Rattle.vax_sched.proofs.schedule.Schedule.quiet.Goals as goal

pub repeated_gap-requires : goal.repeated_gap-requires
repeated_gap-requires c = rw c.deref-2.ensures.value (divisors-kept c.self.inside.rules.items c.self.inside.fixed.items c.self.inside.repeated.items c.self.invariant)

pub returns-clause-gap : goal.returns-clause-gap
returns-clause-gap c =
    let now : c.args.self.now ≡ c.self.inside.rules.items = cc in
    let least : c.min.result ≡ min c.fixed_gap.result c.repeated_gap.result = search rules in
    gap_of c.args.self.now c.self.inside.rules.items c.self.inside.fixed.items c.deref.result.now c.self.inside.repeated.items c.deref-2.result.now c.args.turn c.fixed_gap.result c.repeated_gap.result c.min.result c.self.invariant now c.deref.ensures.value c.deref-2.ensures.value c.fixed_gap.ensures c.repeated_gap.ensures.gap least
