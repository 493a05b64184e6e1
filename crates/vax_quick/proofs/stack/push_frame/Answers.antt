use Rattle.std.proofs.Common.{◌∙◌, ap}
use Rattle.vax_flat.specs.OverPort.{over_port}
use Rattle.vax_quick.specs.Made.{at_console}
use Rattle.vax_x_call.proofs.StackLaws.{frame_pushed}
use Rattle.vax_quick.proofs.stack.push_frame.Goals as goal

pub returns-clause-exact : goal.returns-clause-exact
returns-clause-exact g c = λ input taken sent next.
    let s = at_console c.args.core.now input taken sent in
    let view = g.P.Port.view c.args.port.now in
    ap (λ tree. over_port tree view) (frame_pushed c.args.mask c.args.word c.args.top s next) ∙ c.push_links.ensures.exact input taken sent next
