use Rattle.std.proofs.Common.{◌≡◌, ℕ, List, Some, None, true, false, sym, ap, subst, ◌∙◌}
use Rattle.std.specs.Prelude.{Option, Result, MatchOption, Ok, option_copied, option_map}
use Rattle.std.specs.Borrow.{Bor}
use Rattle.std.specs.List.{find}
use Rattle.vax_module.specs.declared.ExternalName.{ExternalName}
use Rattle.vax_module.specs.declared.Module.{Module}
use Rattle.vax_image.specs.declared.Base.{Base}
use Rattle.vax_image.specs.declared.Image.{Image}
use Rattle.vax_link.specs.declared.LinkError.{LinkError}
use Rattle.vax_link.specs.declared.names.Names.{Names}
use Rattle.vax_link.specs.declared.leads.Leads.{Leads}
use Rattle.vax_link.specs.Leads.{IsLeads}
use Rattle.vax_link.specs.declared.placed.Layout.{Layout}
use Rattle.vax_link.specs.Names.{duplicate, entries_from, externals, is_at_fault, undefined}
use Rattle.vax_link.specs.Tables.{IsNamed, IsTable}
use Rattle.vax_link.specs.Layout.{is_too_large, pieces_of, sections_in}
use Rattle.vax_link.specs.Placed.{IsLayout, IsValues}
use Rattle.vax_link.specs.Linked.{Gives}
use Rattle.vax_link.proofs.LinkLaws.{links_duplicate, links_pages, links_placed, links_undefined, undefined_is}
use Rattle.vax_link.proofs.joining.link.Goals as goal

-- what the names are, where there is a table of them
known : (modules : List Module) (names : Names) (found : Result Names (Bor (List ℕ))) → IsNamed modules found → found ≡ Ok names → (duplicate modules ≡ None) × (names.modules.now ≡ modules) × IsTable names (entries_from 0 modules)
known modules names found named is = let P : Result Names (Bor (List ℕ)) → Type 0 = λ r. IsNamed modules r in subst P is named

-- and where they lead, when the first at fault has been found
record Followed (modules : List Module) (names : Names) (start leads : Leads) (found : Option (Bor ExternalName)) : Type 0 where
  single : duplicate modules ≡ None
  found_is : option_map (λ e. e.name) (option_copied found) ≡ undefined modules
  same : leads.names.modules.now ≡ modules
  kept : IsLeads leads (entries_from 0 modules)

followed : (modules : List Module) (names : Names) (start leads : Leads) (result : Result Names (Bor (List ℕ))) (found : Option (Bor ExternalName)) → IsNamed modules result → result ≡ Ok names
    → start.names ≡ names → IsLeads start (entries_from 0 modules) → leads.names ≡ start.names → IsLeads leads (entries_from 0 modules)
    → option_copied found ≡ find (is_at_fault start.names.modules.now (entries_from 0 modules)) (externals start.names.modules.now)
    → Followed modules names start leads found
followed modules names start leads result found named is begun before after kept value =
    let k = known modules names result named is in
    let there : start.names.modules.now ≡ modules = ap (λ (n : Names). n.modules.now) begun ∙ k.1 in
    record {
      single = k.0;
      found_is = ap (option_map (λ e. e.name)) (value ∙ ap (λ (ms : List Module). find (is_at_fault start.names.modules.now (entries_from 0 ms)) (externals start.names.modules.now)) (sym there))
          ∙ undefined_is start.names.modules.now modules there;
      same = ap (λ (n : Names). n.modules.now) after ∙ there;
      kept = kept;
    }

pub returns-in-Err-clause-linked : goal.returns-in-Err-clause-linked
returns-in-Err-clause-linked c =
    let modules = c.args.modules.now in
    let P : Result Names (Bor (List ℕ)) → Type 0 = λ r. IsNamed modules r in
    let found : duplicate modules ≡ Some c.in-Err.name.now = subst P c.in-Err.is c.in_ok-names.ensures in
    links_duplicate c.args.base modules c.in_ok-copy_of-in-Err.field-0 (found ∙ ap Some (sym c.in_ok-copy_of-in-Err.ensures))

pub returns-in-Some-clause-linked : goal.returns-in-Some-clause-linked
returns-in-Some-clause-linked c =
    let modules = c.args.modules.now in
    let names = c.in-Ok.names in
    let k = known modules names c.in_ok-names.field-0 c.in_ok-names.ensures c.in-Ok.is in
    let begun = c.new-leads.ensures.leads (entries_from 0 modules) k.2 in
    let f = followed modules names c.new-leads.result c.undefined.new.self c.in_ok-names.field-0 c.in_ok-external.field-0 c.in_ok-names.ensures c.in-Ok.is c.new-leads.ensures.names begun
    c.in_ok-external.ensures.names (c.in_ok-external.ensures.leads (entries_from 0 modules) begun) (c.in_ok-external.ensures.value (entries_from 0 modules) begun) in
    let found : Some c.in-Some.external.now.name ≡ undefined modules = ap (λ (o : Option (Bor ExternalName)). option_map (λ e. e.name) (option_copied o)) (sym c.in-Some.is) ∙ f.found_is in
    links_undefined c.args.base modules c.in_ok-copy_of.field-0 f.single (sym found ∙ ap Some (sym (c.in_ok-copy_of.ensures ∙ c.as_slice-name.ensures)))

pub returns-in_default-2-clause-linked : goal.returns-in_default-2-clause-linked
returns-in_default-2-clause-linked c =
    let modules = c.args.modules.now in
    let names = c.in-Ok.names in
    let k = known modules names c.in_ok-names.field-0 c.in_ok-names.ensures c.in-Ok.is in
    let begun = c.new-leads.ensures.leads (entries_from 0 modules) k.2 in
    let f = followed modules names c.new-leads.result c.undefined.new.self c.in_ok-names.field-0 c.in_ok-external.field-0 c.in_ok-names.ensures c.in-Ok.is c.new-leads.ensures.names begun
    c.in_ok-external.ensures.names (c.in_ok-external.ensures.leads (entries_from 0 modules) begun) (c.in_ok-external.ensures.value (entries_from 0 modules) begun) in
    let none : None ≡ undefined modules = ap (λ (o : Option (Bor ExternalName)). option_map (λ e. e.name) (option_copied o)) (sym c.in_default.is) ∙ f.found_is in
    let P : Option Layout → Type 0 = λ o. MatchOption o (is_too_large c.args.base (pieces_of modules) ≡ true) (λ layout. IsLayout layout c.args.base modules) in
    links_pages c.args.base modules f.single (sym none) (subst P c.in_default-2.is c.in_ok-layout.ensures)

pub image_of-requires-clause-values : goal.image_of-requires-clause-values
image_of-requires-clause-values c =
    let modules = c.args.modules.now in
    let names = c.in-Ok.names in
    let k = known modules names c.in_ok-names.field-0 c.in_ok-names.ensures c.in-Ok.is in
    let begun = c.new-leads.ensures.leads (entries_from 0 modules) k.2 in
    let f = followed modules names c.new-leads.result c.undefined.new.self c.in_ok-names.field-0 c.in_ok-external.field-0 c.in_ok-names.ensures c.in-Ok.is c.new-leads.ensures.names begun
    c.in_ok-external.ensures.names (c.in_ok-external.ensures.leads (entries_from 0 modules) begun) (c.in_ok-external.ensures.value (entries_from 0 modules) begun) in
    let region = c.args.base in
    let P : Option Layout → Type 0 = λ o. MatchOption o (is_too_large region (pieces_of modules) ≡ true) (λ layout. IsLayout layout region modules) in
    let layout : IsLayout c.in-Some-2.layout region modules = subst P c.in-Some-2.is c.in_ok-layout.ensures in
    let L : List Module → Type 0 = λ ms. IsLayout c.in-Some-2.layout region ms in
    let K : List Module → Type 0 = λ ms. IsLeads c.undefined.new.self (entries_from 0 ms) in
    let V : List Module → Type 0 = λ ms. IsValues c.in_ok-values.values region ms in
    subst V f.same (c.in_ok-values.ensures region (subst L (sym f.same) layout) (subst K (sym f.same) f.kept))

pub returns-clause-linked : goal.returns-clause-linked
returns-clause-linked c =
    let modules = c.args.modules.now in
    let names = c.in-Ok.names in
    let k = known modules names c.in_ok-names.field-0 c.in_ok-names.ensures c.in-Ok.is in
    let begun = c.new-leads.ensures.leads (entries_from 0 modules) k.2 in
    let f = followed modules names c.new-leads.result c.undefined.new.self c.in_ok-names.field-0 c.in_ok-external.field-0 c.in_ok-names.ensures c.in-Ok.is c.new-leads.ensures.names begun
    c.in_ok-external.ensures.names (c.in_ok-external.ensures.leads (entries_from 0 modules) begun) (c.in_ok-external.ensures.value (entries_from 0 modules) begun) in
    let region = c.args.base in
    let none : None ≡ undefined modules = ap (λ (o : Option (Bor ExternalName)). option_map (λ e. e.name) (option_copied o)) (sym c.in_default.is) ∙ f.found_is in
    let P : Option Layout → Type 0 = λ o. MatchOption o (is_too_large region (pieces_of modules) ≡ true) (λ layout. IsLayout layout region modules) in
    let layout : IsLayout c.in-Some-2.layout region modules = subst P c.in-Some-2.is c.in_ok-layout.ensures in
    let room : is_too_large region (pieces_of modules) ≡ false =
    ap (is_too_large region) (sym layout.pieces) ∙ ap (λ (b : Base). is_too_large b (sections_in c.in-Some-2.layout.pieces.items)) (sym layout.place) ∙ c.in-Some-2.layout.placed.room in
    let Q : Result Image LinkError → Type 0 = λ r. Gives c.image_of.result r in
    subst Q (links_placed region modules f.single (sym none) room) c.image_of.ensures.placed
