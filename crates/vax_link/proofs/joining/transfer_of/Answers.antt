use Rattle.std.proofs.Common.{Some, ap, ◌∙◌}
use Rattle.vax_link.specs.Linked.{transfer_from}
use Rattle.vax_link.proofs.FieldLaws.{transfer_here, transfer_later, transfer_past}
use Rattle.vax_link.proofs.joining.transfer_of.Goals as goal

pub returns-in-Some : goal.returns-in-Some
returns-in-Some c = λ region values.
    let modules = c.args.modules.now in
    ap Some (c.value_of.ensures region modules values)
    ∙ transfer_here region modules c.loop-owner.owner c.index-modules-owner.result c.in-Some.symbol (transfer_from region modules 0 modules) c.loop-owner-test.true c.index-modules-owner.is c.in-Some.is (c.loop-owner.invariant region values)

pub loop-owner-preserved : goal.loop-owner-preserved
loop-owner-preserved c = λ region values.
    let modules = c.args.modules.now in
    transfer_later region modules c.loop-owner.owner c.index-modules-owner.result (transfer_from region modules 0 modules) c.loop-owner-test.true c.index-modules-owner.is c.in_default.is (c.loop-owner.invariant region values)

pub returns : goal.returns
returns c = λ region values.
    let modules = c.args.modules.now in
    transfer_past region modules c.loop-owner.owner (transfer_from region modules 0 modules) c.loop-owner-test.false (c.loop-owner.invariant region values)
