use Rattle.std.proofs.Common.{All, List, subst}
use Rattle.std.proofs.lemmas.List.{take_all}
use Rattle.std.proofs.lemmas.List.Elements.{All-more}
use Rattle.vax_module.specs.Formed.{IsFieldOf}
use Rattle.vax_module.specs.declared.Reloc.{Reloc}
use Rattle.vax_link_tests.proofs.link.are_within.Goals as goal

pub loop-field-preserved : goal.loop-field-preserved
loop-field-preserved c =
    let P : Reloc → Type 0 = (IsFieldOf c.args.sections.now) in
    All-more P c.args.fields.now c.loop-field.field-index _ c.loop-field-test.true c.loop-field.invariant (c.is_within.ensures c.if-not-is_within.false)

pub returns : goal.returns
returns c = λ _.
    let Q : List Reloc → Type 0 = λ xs. All (IsFieldOf c.args.sections.now) xs in
    subst Q (take_all c.loop-field.field-index c.args.fields.now c.loop-field-test.false) c.loop-field.invariant
