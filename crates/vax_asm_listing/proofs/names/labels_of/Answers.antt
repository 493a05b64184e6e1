use Rattle.vax_asm_scope.specs.Kept.{scope_of}
use Rattle.vax_asm_listing.proofs.Naming.{labels_done}
use Rattle.vax_asm_listing.proofs.names.labels_of.Goals as goal

pub returns : goal.returns
returns c = labels_done (scope_of c.args.scope.now) c.loop-name.labels.items c.names-names.result.now c.loop-name.name-index (scope_of c.args.scope.now).names.all c.loop-name-test.false c.loop-name.invariant c.names-names.ensures
