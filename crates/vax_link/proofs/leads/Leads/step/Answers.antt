use Rattle.std.proofs.Common.{◌≡◌, ◌∙◌, sym, ap, subst, Option, Some, None, FitsSigned, w64, rules}
use Rattle.std.specs.Prelude.{IfSome}
use Rattle.std.proofs.lemmas.Int.{to_z-of_z}
use Rattle.vax_link.specs.Leads.{IsLed}
use Rattle.vax_link.specs.Names.{definition_of, low_longword}
use Rattle.vax_link.specs.declared.leads.Led.{Led}
use Rattle.vax_link.proofs.LeadLaws.{led_end, led_unknown}
use Rattle.vax_link.proofs.NameLaws.{stepped_on}
use Rattle.vax_link.proofs.leads.Leads.step.Goals as goal

pub returns-in_default : goal.returns-in_default
returns-in_default c = λ entries kept.
    let modules = c.args.self.now.names.modules.now in
    let none : definition_of c.args.name.now entries ≡ None = sym (c.in_default.ensures.value ∙ kept.table.defined c.args.name.now) in
    led_unknown modules entries c.args.name.now none

pub returns-in_default-value : goal.returns-in_default-value
returns-in_default-value c = λ entries kept.
    let modules = c.args.self.now.names.modules.now in
    let found : definition_of c.args.name.now entries ≡ Some c.in-Some.definition.now = sym (c.in-Some.ensures.value ∙ kept.table.defined c.args.name.now) in
    led_end modules entries c.args.name.now c.in-Some.definition.now found c.in_default-value.not-External

pub returns-in-Some-get : goal.returns-in-Some-get
returns-in-Some-get c = λ entries kept.
    let modules = c.args.self.now.names.modules.now in
    let P : Option Led → Type 0 = λ o. IfSome o (λ l. IsLed modules entries c.args.name.now l) in
    subst P (sym c.in-Some-get.ensures.value) (kept.led c.args.name.now)

pub returns-in-None : goal.returns-in-None
returns-in-None c = λ entries kept left offset.
    let modules = c.args.self.now.names.modules.now in
    let found : definition_of c.args.name.now entries ≡ Some c.in-Some.definition.now = sym (c.in-Some.ensures.value ∙ kept.table.defined c.args.name.now) in
    let fits : FitsSigned w64 c.in-External.offset = search rules in
    stepped_on modules entries left c.args.name.now offset c.in-Some.definition.now _ _ c.external_name.result.now c.low_longword.result found c.in-External.is c.external_name.ensures
    (c.low_longword.ensures ∙ ap low_longword (to_z-of_z w64 c.in-External.offset fits))
