use Rattle.vax_sched.proofs.DueLaws.{gap_next, gap_none}
use Rattle.vax_sched.proofs.due.fixed_gap.Goals as goal

pub returns-in-Some : goal.returns-in-Some
returns-in-Some c =
    let found = c.in-Some.ensures.lookup in
    gap_next c.args.rules.now c.args.turn c.count_before.result c.in-Some.next.now c.requires c.count_before.ensures.split found.3.0 (found.3.1 c.in-Some.next.now)

pub returns-in-None : goal.returns-in-None
returns-in-None c = gap_none c.args.rules.now c.args.turn c.count_before.result c.count_before.ensures.split c.in-None.ensures.lookup.3
