use Rattle.std.proofs.Common.{ap, ◌∙◌}
use Rattle.vax_flat.specs.Operand.{form_of}
use Rattle.vax_undo.specs.Trail.{over_trail}
use Rattle.vax_undo.specs.Transaction.{traced}
use Rattle.vax_operand.proofs.Addresses.{value_located}
use Rattle.vax_operand.proofs.access.value_beyond.Goals as goal

pub returns-clause-exact : goal.returns-clause-exact
returns-clause-exact g c = λ next.
    let before = traced g.P.Port.view g.P.Port.trail c.args.txn.now in
    ap (λ tree. over_trail tree before.view before.trail) (value_located c.args.width (form_of c.args.byte) before.state next c.requires.memory) ∙ c.value_there.ensures.exact next
