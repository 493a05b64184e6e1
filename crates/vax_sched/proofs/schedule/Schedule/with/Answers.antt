use Rattle.std.proofs.Common.{◌≡◌, ◌+◌, ◌<◌, ◌^◌, ap, ◌∙◌, length, subst}
use Rattle.vax_sched.proofs.KeptLaws.{with_at, with_each}
use Rattle.vax_sched.proofs.schedule.Schedule.with.Goals as goal
use Rattle.vax_sched.proofs.schedule.Schedule.with.Goals.{in-At+in_ok-push-in-At, in-Each+in_ok-push-in-Each}

pub invariant_of-result : goal.invariant_of-result
invariant_of-result c =
    let now : c.args.self ≡ c.self.inside.rules.items = cc in
    elim c.match-rule.branch [
      | in-At+in_ok-push-in-At w ↦
          with_at c.args.self c.self.inside.rules.items c.self.inside.fixed.items c.self.inside.repeated.items c.args.line c.in-Rule.rule w.in-At.rule c.push.new.self.items c.match-rule.fixed.items c.match-rule.repeated.items c.self.invariant now c.in-Rule.is w.in-At.is c.requires.proper c.requires.ordered c.requires.few c.in_ok-push.ensures.items (ap (λ v. v.items) w.fixed-is ∙ w.in_ok-push-in-At.ensures.items) (ap (λ v. v.items) w.repeated-is)
      | in-Each+in_ok-push-in-Each w ↦
          with_each c.self.inside.rules.items c.self.inside.fixed.items c.self.inside.repeated.items c.args.line c.in-Rule.rule w.in-Each.rule c.push.new.self.items c.match-rule.fixed.items c.match-rule.repeated.items c.self.invariant c.in-Rule.is w.in-Each.is c.requires.proper (subst (λ y. length y + 1 < 2 ^ 31) now c.requires.few) c.in_ok-push.ensures.items (ap (λ v. v.items) w.fixed-is) (ap (λ v. v.items) w.repeated-is ∙ w.in_ok-push-in-Each.ensures.items)
    ]
