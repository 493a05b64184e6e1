use Rattle.std.proofs.Common.{◌≤◌, arith}
use Rattle.vax_quick.proofs.Frames.{room_fewer}
use Rattle.vax_quick.proofs.stack.push_links.Goals as goal

pub push_within-at-requires-2 : goal.push_within-at-requires-2
push_within-at-requires-2 g c =
    let less : 1 ≤ 4 = omega arith in
    let left = c.push_within-at.ensures.room 4 c.save-at.ensures.room in
    record { room = room_fewer (g.P.Port.view c.push_within-at.new.port) c.args.core.now c.push_within-at.result 1 4 less left }

pub push_within-at-requires-3 : goal.push_within-at-requires-3
push_within-at-requires-3 g c =
    let less : 1 ≤ 3 = omega arith in
    let left = c.push_within-at-2.ensures.room 3 (c.push_within-at.ensures.room 4 c.save-at.ensures.room) in
    record { room = room_fewer (g.P.Port.view c.push_within-at-2.new.port) c.args.core.now c.push_within-at-2.result 1 3 less left }

pub push_within-at-requires-4 : goal.push_within-at-requires-4
push_within-at-requires-4 g c =
    let less : 1 ≤ 2 = omega arith in
    let left = c.push_within-at-3.ensures.room 2 (c.push_within-at-2.ensures.room 3 (c.push_within-at.ensures.room 4 c.save-at.ensures.room)) in
    record { room = room_fewer (g.P.Port.view c.push_within-at-3.new.port) c.args.core.now c.push_within-at-3.result 1 2 less left }

pub push_within-requires : goal.push_within-requires
push_within-requires g c =
    record { room = c.push_within-at-4.ensures.room 1 (c.push_within-at-3.ensures.room 2 (c.push_within-at-2.ensures.room 3 (c.push_within-at.ensures.room 4 c.save-at.ensures.room))) }
