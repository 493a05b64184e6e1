use Rattle.std.proofs.Common.{All, List, subst}
use Rattle.std.proofs.lemmas.List.{take_all}
use Rattle.std.proofs.lemmas.List.Elements.{All-more}
use Rattle.vax_module.specs.Formed.{IsAlignment}
use Rattle.vax_module.specs.declared.Section.{Section}
use Rattle.vax_link_tests.proofs.link.are_aligned.Goals as goal

pub loop-section-preserved : goal.loop-section-preserved
loop-section-preserved c =
    let P : Section → Type 0 = (λ s. IsAlignment s.align) in
    All-more P c.args.sections.now c.loop-section.section-index c.section-item.result c.loop-section-test.true c.loop-section.invariant (subst P c.section-item.is (c.is_alignment.ensures c.if-not-is_alignment.false))

pub returns : goal.returns
returns c = λ _.
    let Q : List Section → Type 0 = λ xs. All (λ s. IsAlignment s.align) xs in
    subst Q (take_all c.loop-section.section-index c.args.sections.now c.loop-section-test.false) c.loop-section.invariant
