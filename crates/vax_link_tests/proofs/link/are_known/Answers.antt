use Rattle.std.proofs.Common.{All, List, subst}
use Rattle.std.proofs.lemmas.List.{take_all}
use Rattle.std.proofs.lemmas.List.Elements.{All-more}
use Rattle.vax_module.specs.Formed.{IsKnown}
use Rattle.vax_module.specs.declared.Symbol.{Symbol}
use Rattle.vax_link_tests.proofs.link.are_known.Goals as goal

pub loop-global-preserved : goal.loop-global-preserved
loop-global-preserved c =
    let P : Symbol → Type 0 = (λ g. IsKnown c.args.sections c.args.externals g.value) in
    All-more P c.args.globals.now c.loop-global.global-index c.global-item.result c.loop-global-test.true c.loop-global.invariant (subst P c.global-item.is (c.is_known.ensures c.if-not-is_known.false))

pub returns : goal.returns
returns c = λ _.
    let Q : List Symbol → Type 0 = λ xs. All (λ g. IsKnown c.args.sections c.args.externals g.value) xs in
    subst Q (take_all c.loop-global.global-index c.args.globals.now c.loop-global-test.false) c.loop-global.invariant
