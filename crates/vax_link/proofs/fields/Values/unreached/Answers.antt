use Rattle.std.proofs.Common.{None, List, ap, ◌∙◌}
use Rattle.std.specs.List.{fold}
use Rattle.vax_module.specs.declared.Reloc.{Reloc}
use Rattle.vax_link.specs.Values.{unreached_from, with_reach}
use Rattle.vax_link.proofs.FieldLaws.{unreached_more, unreached_past}
use Rattle.vax_link.proofs.fields.Values.unreached.Goals as goal

pub loop-owner-preserved : goal.loop-owner-preserved
loop-owner-preserved c = λ region values.
    let modules = c.args.modules.now in
    let owner = c.loop-owner.owner in
    unreached_more region modules owner c.index-modules-owner.result c.loop-owner.found c.unreached_of-found.result (unreached_from region modules 0 None modules) c.loop-owner-test.true c.index-modules-owner.is
    (c.unreached_of-found.ensures region modules values ∙ ap (λ (relocs : List Reloc). fold (with_reach region modules owner) c.loop-owner.found relocs) c.as_slice.ensures) (c.loop-owner.invariant region values)

pub returns : goal.returns
returns c = λ region values.
    let modules = c.args.modules.now in
    unreached_past region modules c.loop-owner.owner c.loop-owner.found (unreached_from region modules 0 None modules) c.loop-owner-test.false (c.loop-owner.invariant region values)
