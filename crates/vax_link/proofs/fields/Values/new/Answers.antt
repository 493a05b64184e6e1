use Rattle.std.proofs.Common.{◌≡◌, ◌++◌, ◌∷◌, [], ℕ, List, map, take, sym, ap, ◌∙◌}
use Rattle.std.proofs.lemmas.List.{map_push, take_all}
use Rattle.vax_module.specs.declared.ExternalName.{ExternalName}
use Rattle.vax_module.specs.declared.Module.{Module}
use Rattle.vax_link.specs.Placed.{bytes_in}
use Rattle.vax_link.specs.Values.{external_value}
use Rattle.vax_link.proofs.NameLaws.{one_more}
use Rattle.vax_link.proofs.fields.Values.new.Goals as goal

pub loop-module-preserved : goal.loop-module-preserved
loop-module-preserved c = λ region layout table.
    let modules = c.args.leads.now.names.modules.now in
    let i = c.loop-module.module-index in
    let values : Module → List ℕ = λ m. map (external_value region modules) m.externals in
    let pushed : bytes_in c.push.new.self.items ≡ bytes_in c.loop-module.externals.items ++ c.in_ok-values_of_names.field-0.items ∷ [] =
    ap bytes_in c.in_ok-push.ensures.items ∙ map_push (λ v. v.items) c.loop-module.externals.items c.in_ok-values_of_names.field-0 in
    let here : c.in_ok-values_of_names.field-0.items ≡ values c.module-item.result =
    c.in_ok-values_of_names.ensures region layout table ∙ ap (λ (names : List ExternalName). map (external_value region modules) names) c.as_slice.ensures in
    pushed ∙ ap (λ (vs : List (List ℕ)). vs ++ c.in_ok-values_of_names.field-0.items ∷ []) (c.loop-module.invariant region layout table)
    ∙ ap (λ (v : List ℕ). map values (take i modules) ++ v ∷ []) here
    ∙ sym (map_push values (take i modules) c.module-item.result) ∙ ap (map values) (sym (one_more modules i c.module-item.result c.loop-module-test.true c.module-item.is))

pub returns : goal.returns
returns c = λ region layout table.
    let modules = c.args.leads.now.names.modules.now in
    let values : Module → List ℕ = λ m. map (external_value region modules) m.externals in
    record {
      layout = layout;
      externals = c.loop-module.invariant region layout table ∙ ap (map values) (take_all c.loop-module.module-index modules c.loop-module-test.false);
    }
