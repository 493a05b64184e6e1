use Rattle.std.proofs.Common.{◌∙◌, sym, ap, List}
use Rattle.std.specs.Prelude.{option_copied}
use Rattle.std.specs.List.{find}
use Rattle.vax_module.specs.declared.ExternalName.{ExternalName}
use Rattle.vax_module.specs.declared.Module.{Module}
use Rattle.vax_link.specs.Names.{is_at_fault}
use Rattle.vax_link.specs.declared.names.Names.{Names}
use Rattle.vax_link.proofs.NameLaws.{find_among, none_among}
use Rattle.vax_link.proofs.leads.Leads.undefined.Goals as goal

pub returns-in-Some-clause-value : goal.returns-in-Some-clause-value
returns-in-Some-clause-value c = λ entries kept.
    let so_far = c.loop-module.invariant.1 entries kept in
    let modules = c.args.self.now.names.modules.now in
    let test = is_at_fault modules entries in
    let names : Module → List ExternalName = λ m. m.externals in
    let same = ap (λ (n : Names). find (is_at_fault n.modules.now entries) c.module-item.result.externals) c.loop-module.invariant.0 in
    let found = sym same ∙ ap (find (is_at_fault c.loop-module.self.names.modules.now entries)) (sym c.as_slice.ensures) ∙ sym (c.in_ok-external.ensures.value entries so_far.0) ∙ ap option_copied c.in-Some.is in
    sym (find_among names test modules c.loop-module.module-index c.module-item.result c.in-Some.external.now c.loop-module-test.true c.module-item.is so_far.1 found)

pub loop-module-preserved : goal.loop-module-preserved
loop-module-preserved c = (
  c.in_ok-external.ensures.names ∙ c.loop-module.invariant.0,
  λ entries kept.
      let so_far = c.loop-module.invariant.1 entries kept in
      let modules = c.args.self.now.names.modules.now in
      let test = is_at_fault modules entries in
      let names : Module → List ExternalName = λ m. m.externals in
      let same = ap (λ (n : Names). find (is_at_fault n.modules.now entries) c.module-item.result.externals) c.loop-module.invariant.0 in
      let none = sym same ∙ ap (find (is_at_fault c.loop-module.self.names.modules.now entries)) (sym c.as_slice.ensures) ∙ sym (c.in_ok-external.ensures.value entries so_far.0) ∙ ap option_copied c.in_default.is in (
        c.in_ok-external.ensures.leads entries so_far.0,
        none_among names test modules c.loop-module.module-index c.module-item.result c.loop-module-test.true c.module-item.is so_far.1 none,
      ),
)
