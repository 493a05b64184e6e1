use Rattle.vax_flat.specs.Call.{linked, restored}
use Rattle.vax_x_call.proofs.StackLaws.{links_popped}
use Rattle.vax_x_call.specs.Stack.{links_restored}
use Rattle.vax_quick.specs.Made.{computer}
use Rattle.vax_quick.proofs.Frames.{finds_by}
use Rattle.vax_quick.proofs.stack.restore_frame.Goals as goal

pub returns-clause-exact : goal.returns-clause-exact
returns-clause-exact g c =
    let before = computer g.P.Port.view c.args.core.now c.args.port.now in
    finds_by (restored (linked c.args.mask) c.args.from) (links_restored c.args.mask c.args.from) c.restore_links.result before _
    (λ s next. links_popped c.args.mask c.args.from s next) c.restore_links.ensures.exact
