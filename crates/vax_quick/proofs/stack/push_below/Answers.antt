use Rattle.std.proofs.Common.{◌^◌, ◌<◌, arith}
use Rattle.vax_quick.proofs.Frames.{room_found}
use Rattle.vax_quick.proofs.stack.push_below.Goals as goal

pub returns-clause-room : goal.returns-clause-room
returns-clause-room g c = λ low.
    let small : c.args.top < 2 ^ 32 = omega arith in
    room_found (g.P.Port.view c.args.port.now) (g.P.Port.view c.write.new.port) c.args.core.now c.args.top c.args.value small low c.in_ok-write.ensures.written
