use Rattle.std.proofs.Common.{sym, subst}
use Rattle.std.specs.Prelude.{Option, IfSome}
use Rattle.vax_module.specs.declared.Symbol.{Symbol}
use Rattle.vax_module.specs.Formed.{IsKnown}
use Rattle.vax_link_tests.proofs.link.begins_known.Goals as goal

pub returns-in-Some : goal.returns-in-Some
returns-in-Some c = λ yes.
    let P : Option Symbol → Type 0 = λ o. IfSome o (λ t. IsKnown c.args.sections c.args.externals t.value) in
    subst P (sym c.in-Some.is) (c.is_known.ensures yes)
