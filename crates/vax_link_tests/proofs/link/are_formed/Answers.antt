use Rattle.std.proofs.Common.{All, List, subst}
use Rattle.std.proofs.lemmas.List.{take_all}
use Rattle.std.proofs.lemmas.List.Elements.{All-more}
use Rattle.vax_module.specs.Formed.{Formed}
use Rattle.vax_module.specs.declared.Module.{Module}
use Rattle.vax_link_tests.proofs.link.are_formed.Goals as goal

pub loop-module-preserved : goal.loop-module-preserved
loop-module-preserved c =
    let P : Module → Type 0 = Formed in
    All-more P c.args.modules.now c.loop-module.module-index c.module-item.result c.loop-module-test.true c.loop-module.invariant (subst P c.module-item.is (c.is_formed.ensures c.if-not-is_formed.false))

pub returns : goal.returns
returns c = λ _.
    let Q : List Module → Type 0 = λ xs. All Formed xs in
    subst Q (take_all c.loop-module.module-index c.args.modules.now c.loop-module-test.false) c.loop-module.invariant
