-- What the code's tables of names mean.
use Rattle.std.proofs.Common.{◌≡◌, ℕ, List, [], ◌∷◌, Option, Some, cond, map, refl, ap, ◌∙◌, true, false, ◌+◌, ◌<◌, length, drop, get_or}
use Rattle.std.proofs.lemmas.List.{drop_more}
use Rattle.std.specs.Str.{str_eq_ignore_ascii_case}
use Rattle.vax_asm_statement.specs.declared.directives.Named.{Named}
use Rattle.vax_asm_statement.specs.declared.directives.NamedAttribute.{NamedAttribute}
use Rattle.vax_asm_statement.specs.declared.directives.Directive.{Directive}
use Rattle.vax_asm_statement.specs.declared.directives.Attribute.{Attribute}
use Rattle.vax_asm_statement.specs.Directives.{named_in, named, first_directive, directives, further_directives, named_attribute, first_attribute, attributes, attribute_of}

directive_in : (all : List Named) (name : List ℕ) → first_directive all name ≡ named_in (map named all) name
directive_in [] name = refl
directive_in (n ∷ all) name = ap (λ (rest : Option Directive). cond (str_eq_ignore_ascii_case n.name.now name) (Some n.directive) rest) (directive_in all name)

pub further_found : (all : List Named) (name : List ℕ) → map named all ≡ further_directives → first_directive all name ≡ named_in further_directives name
further_found all name e = directive_in all name ∙ ap (λ (table : List (List ℕ × Directive)). named_in table name) e

pub directive_found : (all : List Named) (name : List ℕ) → map named all ≡ directives → first_directive all name ≡ named_in directives name
directive_found all name e = directive_in all name ∙ ap (λ (table : List (List ℕ × Directive)). named_in table name) e

attribute_in : (all : List NamedAttribute) (name : List ℕ) → first_attribute all name ≡ named_in (map named_attribute all) name
attribute_in [] name = refl
attribute_in (n ∷ all) name = ap (λ (rest : Option Attribute). cond (str_eq_ignore_ascii_case n.name.now name) (Some n.attribute) rest) (attribute_in all name)

pub attribute_found : (all : List NamedAttribute) (name : List ℕ) → map named_attribute all ≡ attributes → first_attribute all name ≡ attribute_of name
unfolding attribute_of
attribute_found all name e = attribute_in all name ∙ ap (λ (table : List (List ℕ × Attribute)). named_in table name) e

pub directive_skipped : (all : List Named) (i : ℕ) (d : Named) (name : List ℕ) → i < length all → str_eq_ignore_ascii_case (get_or all i d).name.now name ≡ false →
    first_directive (drop i all) name ≡ first_directive (drop (i + 1) all) name
directive_skipped all i d name h e = rw (drop_more all i d h, e) refl

pub directive_met : (all : List Named) (i : ℕ) (d : Named) (name : List ℕ) → i < length all → str_eq_ignore_ascii_case (get_or all i d).name.now name ≡ true →
    first_directive (drop i all) name ≡ Some (get_or all i d).directive
directive_met all i d name h e = rw (drop_more all i d h, e) refl

pub attribute_skipped : (all : List NamedAttribute) (i : ℕ) (d : NamedAttribute) (name : List ℕ) → i < length all → str_eq_ignore_ascii_case (get_or all i d).name.now name ≡ false →
    first_attribute (drop i all) name ≡ first_attribute (drop (i + 1) all) name
attribute_skipped all i d name h e = rw (drop_more all i d h, e) refl

pub attribute_met : (all : List NamedAttribute) (i : ℕ) (d : NamedAttribute) (name : List ℕ) → i < length all → str_eq_ignore_ascii_case (get_or all i d).name.now name ≡ true →
    first_attribute (drop i all) name ≡ Some (get_or all i d).attribute
attribute_met all i d name h e = rw (drop_more all i d h, e) refl
