use Rattle.std.proofs.Common.{rules, nat_lt}
use Rattle.std.proofs.lemmas.List.Sorted.{IsPartitionPoint-from_clause, IsPartitionedBy-ltb}
use Rattle.vax_sched.proofs.DueLaws.{split_below}
use Rattle.vax_sched.proofs.due.count_before.Goals as goal

pub returns-clause-split : goal.returns-clause-split
returns-clause-split c =
    split_below c.args.rules.now c.args.turn c.partition_point.result
    (IsPartitionPoint-from_clause (λ rule. nat_lt rule.turn c.args.turn) c.args.rules.now c.partition_point.result c.partition_point.ensures.partitioned (IsPartitionedBy-ltb (λ rule. rule.turn) c.args.rules.now c.args.turn c.requires) (λ a r q k. search rules))
