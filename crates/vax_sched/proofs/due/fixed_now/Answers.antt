use Rattle.std.proofs.lemmas.List.Sorted.{IsNonDecreasingBy-drop}
use Rattle.vax_sched.proofs.DueLaws.{rules_for}
use Rattle.vax_sched.proofs.due.fixed_now.Goals as goal

pub count_to-requires : goal.count_to-requires
count_to-requires c = rw c.split_at.ensures.back (IsNonDecreasingBy-drop (λ rule. rule.turn) c.count_before.result c.args.rules.now c.requires)

pub returns : goal.returns
returns c =
    rules_for c.args.rules.now c.split_at.result.1.now c.split_at-2.result.0.now c.args.turn c.count_before.result c.count_to.result c.split_at.ensures.back c.split_at-2.ensures.front c.count_before.ensures.split c.count_to.ensures.split
