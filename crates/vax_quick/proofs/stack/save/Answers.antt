use Rattle.std.proofs.Common.{◌≡◌, ◌+◌, ◌-◌, ◌≤◌, ◌∙◌, ap, sym, subst, arith}
use Rattle.vax_flat.specs.Call.{named, saved}
use Rattle.vax_flat.specs.OverPort.{over_port}
use Rattle.vax_x_call.proofs.StackLaws.{saved_step, saved_none}
use Rattle.vax_quick.specs.Frames.{HasRoom}
use Rattle.vax_quick.specs.Made.{at_console}
use Rattle.vax_quick.proofs.Frames.{room_fewer}
use Rattle.vax_quick.proofs.stack.save.Goals as goal

pub loop-n-init : goal.loop-n-init
loop-n-init g c =
    let view = g.P.Port.view c.args.port.now in
    let few = c.end_of_named-n.ensures.within in
    record {
      few = few;
      follows = λ input taken sent next.
          ap (λ ns. over_port (saved ns c.args.top (at_console c.args.core.now input taken sent) next) view) (sym c.end_of_named-n.ensures.named);
      room = room_fewer view c.args.core.now c.args.top (c.end_of_named-n.result + 5) 17 (omega arith) c.requires.room;
      since = λ start h. h;
    }

pub loop-n-preserved : goal.loop-n-preserved
loop-n-preserved g c =
    let view = g.P.Port.view c.loop-n.port in
    let few = c.loop-n.invariant.few in
    let one : c.loop-n.n + 5 ≡ (c.loop-n.n - 1 + 5) + 1 = omega arith in
    record {
      few = omega arith;
      follows = λ input taken sent next.
          c.loop-n.invariant.follows input taken sent next
          ∙ ap (λ tree. over_port tree view) (saved_step c.loop-n.n c.args.mask c.loop-n.at (at_console c.args.core.now input taken sent) next (omega arith))
          ∙ c.save_if-at.ensures.exact input taken sent (λ top t. saved (named (c.loop-n.n - 1) c.args.mask) top t next);
      room = c.save_if-at.ensures.room (c.loop-n.n - 1 + 5) (subst (HasRoom view c.args.core.now c.loop-n.at) one c.loop-n.invariant.room);
      since = λ start h. c.save_if-at.ensures.since start (c.loop-n.invariant.since start h);
    }

pub returns-clause-exact : goal.returns-clause-exact
returns-clause-exact g c = λ input taken sent next.
    let view = g.P.Port.view c.loop-n.port in
    c.loop-n.invariant.follows input taken sent next ∙ ap (λ tree. over_port tree view) (saved_none c.loop-n.n c.args.mask c.loop-n.at (at_console c.args.core.now input taken sent) next (omega arith))

pub returns-clause-room : goal.returns-clause-room
returns-clause-room g c =
    let few : 5 ≤ c.loop-n.n + 5 = omega arith in
    room_fewer (g.P.Port.view c.loop-n.port) c.args.core.now c.loop-n.at 5 (c.loop-n.n + 5) few c.loop-n.invariant.room
