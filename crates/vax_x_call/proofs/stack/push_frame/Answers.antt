use Rattle.std.proofs.Common.{◌∙◌, ap}
use Rattle.vax_undo.specs.Trail.{over_trail}
use Rattle.vax_undo.specs.Transaction.{traced}
use Rattle.vax_x_call.proofs.StackLaws.{frame_pushed}
use Rattle.vax_x_call.proofs.stack.push_frame.Goals as goal

pub returns-clause-exact : goal.returns-clause-exact
returns-clause-exact g c = λ next.
    let p = traced g.P.Port.view g.P.Port.trail c.args.txn.now in
    ap (λ tree. over_trail tree p.view p.trail) (frame_pushed c.args.mask c.args.word c.args.top p.state next) ∙ c.push_links.ensures.exact next
