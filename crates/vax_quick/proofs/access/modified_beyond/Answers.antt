use Rattle.vax_flat.specs.Operand.{form_of}
use Rattle.vax_operand.specs.Addressed.{modified, modified_there}
use Rattle.vax_operand.proofs.Addresses.{modified_located}
use Rattle.vax_quick.specs.Made.{computer}
use Rattle.vax_quick.proofs.Trees.{gives_by}
use Rattle.vax_quick.proofs.access.modified_beyond.Goals as goal

pub returns-clause-exact : goal.returns-clause-exact
returns-clause-exact g c =
    let width = c.args.width in
    let shape = form_of c.args.byte in
    let before = computer g.P.Port.view c.args.core.now c.args.port.now in
    gives_by (modified width shape) (modified_there width shape)
    c.modified_there.result before _ (λ s next. modified_located width shape s next c.requires.memory) c.modified_there.ensures.exact
