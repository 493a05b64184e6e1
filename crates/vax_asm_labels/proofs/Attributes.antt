-- The attributes of a section, one operand after another.
use Rattle.std.proofs.Common.{◌≡◌, ◌<◌, ◌≤◌, ◌+◌, ℕ, suc, add-one, Bool, true, false, List, [], ◌∷◌, length, map, drop, Option, Some, None, refl, sym, ap, ◌∙◌, drop-cons, leb-true, subst}
use Rattle.std.specs.Prelude.{IfSome, ◌&&◌, ◌==◌, codes, if◌then◌else◌, nat_le, slice_index_or}
use Rattle.std.specs.Str.{IsUtf8, str_eq_ignore_ascii_case}
use Rattle.vax_asm_sections.specs.declared.types.Attributes.{Attributes}
use Rattle.vax_dialect.specs.Differences.{has_further_directives}
use Rattle.vax_dialect.specs.declared.Dialect.{Dialect}
use Rattle.vax_lex.specs.Characters.{spells}
use Rattle.vax_lex.specs.Tokens.{token_text}
use Rattle.vax_lex.specs.declared.token.Token.{Token}
use Rattle.vax_lex.specs.declared.token.TokenKind.{TokenKind}
use Rattle.vax_lex.specs.declared.token.TokenKind.TheVariants as kinds
use Rattle.vax_asm_labels.proofs.Spelled.{is_ascii, spelled_is_utf8}
use Rattle.vax_asm_labels.specs.Naming.{attribute_at, attribute_by, attributes_from, either_attribute, further_attribute, further_word, power_alone, power_of_two, nothing_said, same, says_nothing, word_named, with_absolute, with_align, with_attribute, with_overlaid, with_write}
use Rattle.vax_asm_labels.specs.Within.{Within}
use Rattle.vax_asm_statement.specs.Directives.{attribute_of, attributes, named_in}
use Rattle.vax_asm_statement.specs.Items.{name_alone}
use Rattle.vax_asm_statement.specs.declared.directives.Attribute.{Attribute}
use Rattle.vax_asm_statement.specs.declared.directives.Attribute.TheVariants.{Absolute, Align, Write, Overlaid, Ignored}

both : (a b : Bool) → (a && b) ≡ true → (a ≡ true) × (b ≡ true)
both true true h = (refl, refl)
both true false h = cc
both false b h = cc

-- a text that isn't UTF-8 is no attribute's name

abbrev names_are_ascii : List (List ℕ × Attribute) → Bool
names_are_ascii [] = true
names_are_ascii (e ∷ entries) = is_ascii e.0 && names_are_ascii entries

skipped : (b : Bool) (x : Attribute) (rest : Option Attribute) → (b ≡ true → ⊥) → rest ≡ None → (if b then Some x else rest) ≡ None
skipped true x rest other h = absurd (other refl)
skipped false x rest other h = h

unnamed_in : (entries : List (List ℕ × Attribute)) → names_are_ascii entries ≡ true → (name : List ℕ) → ¬ (IsUtf8 name) → named_in entries name ≡ None
unnamed_in [] h name wrong = refl
unnamed_in (e ∷ entries) h name wrong =
    let h2 = both (is_ascii e.0) (names_are_ascii entries) h in
    skipped (str_eq_ignore_ascii_case e.0 name) e.1 (named_in entries name) (λ is. wrong (spelled_is_utf8 e.0 name h2.0 is)) (unnamed_in entries h2.1 name wrong)

pub unnamed : (name : List ℕ) → ¬ (IsUtf8 name) → None ≡ attribute_of name
unfolding attribute_of
unnamed name wrong = sym (unnamed_in attributes refl name wrong)

-- the powers of two are from 0 to 9

abbrev Small : Option Attribute → Type 0
Small (Some (Align k)) = k ≤ 9
Small (Some (Write w)) = Unit {0}
Small (Some (Absolute b)) = Unit {0}
Small (Some (Overlaid b)) = Unit {0}
Small (Some Ignored) = Unit {0}
Small None = Unit {0}

abbrev is_small : Attribute → Bool
is_small (Align k) = nat_le k 9
is_small (Write w) = true
is_small (Absolute b) = true
is_small (Overlaid b) = true
is_small Ignored = true

abbrev are_small : List (List ℕ × Attribute) → Bool
are_small [] = true
are_small (e ∷ entries) = is_small e.1 && are_small entries

small : (a : Attribute) → is_small a ≡ true → Small (Some a)
small (Align k) h = leb-true k 9 h
small (Write w) h = tt
small (Absolute b) h = tt
small (Overlaid b) h = tt
small Ignored h = tt

either_small : (b : Bool) (x : Attribute) (rest : Option Attribute) → Small (Some x) → Small rest → Small (if b then Some x else rest)
either_small true x rest h g = h
either_small false x rest h g = g

small_in : (entries : List (List ℕ × Attribute)) → are_small entries ≡ true → (name : List ℕ) → Small (named_in entries name)
small_in [] h name = tt
small_in (e ∷ entries) h name =
    let h2 = both (is_small e.1) (are_small entries) h in
    either_small (str_eq_ignore_ascii_case e.0 name) e.1 (named_in entries name) (small e.1 h2.0) (small_in entries h2.1 name)

small_of : (name : List ℕ) → Small (attribute_of name)
unfolding attribute_of
small_of name = small_in attributes refl name

small_by : (line : List ℕ) (o : Option Token) → Small (attribute_by line o)
small_by line (Some t) = small_of _
small_by line None = tt

align_within : (k : ℕ) (a : Attributes) (o : Option ℕ) → k ≤ 9 → Within a → IfSome (with_align k a o) Within
align_within k a None h w = h
align_within k a (Some before) h w = elim (k == before) as (λ b. IfSome (if b then Some a else None) Within) [ true ↦ w | false ↦ tt ]

write_within : (w : Bool) (a : Attributes) (o : Option Bool) → Within a → IfSome (with_write w a o) Within
write_within w a None h = h
write_within w a (Some before) h = elim (same w before) as (λ b. IfSome (if b then Some a else None) Within) [ true ↦ h | false ↦ tt ]

absolute_within : (b : Bool) (a : Attributes) (o : Option Bool) → Within a → IfSome (with_absolute b a o) Within
absolute_within b a None h = h
absolute_within b a (Some before) h = elim (same b before) as (λ c. IfSome (if c then Some a else None) Within) [ true ↦ h | false ↦ tt ]

overlaid_within : (b : Bool) (a : Attributes) (o : Option Bool) → Within a → IfSome (with_overlaid b a o) Within
overlaid_within b a None h = h
overlaid_within b a (Some before) h = elim (same b before) as (λ c. IfSome (if c then Some a else None) Within) [ true ↦ h | false ↦ tt ]

attribute_within : (x : Option Attribute) (o : Option Attributes) → Small x → IfSome o Within → IfSome (with_attribute x o) Within
attribute_within (Some (Align k)) (Some a) s h = align_within k a a.align s h
attribute_within (Some (Write w)) (Some a) s h = write_within w a a.write h
attribute_within (Some (Absolute b)) (Some a) s h = absolute_within b a a.absolute h
attribute_within (Some (Overlaid b)) (Some a) s h = overlaid_within b a a.overlaid h
attribute_within (Some Ignored) (Some a) s h = h
attribute_within (Some (Align k)) None s h = tt
attribute_within (Some (Write w)) None s h = tt
attribute_within (Some (Absolute b)) None s h = tt
attribute_within (Some (Overlaid b)) None s h = tt
attribute_within (Some Ignored) None s h = tt
attribute_within None o s h = tt

small_power : (k : TokenKind) → Small (power_of_two k)
small_power (kinds.Number n) = by_test (nat_le n 9) refl
  where
    by_test : (b : Bool) → nat_le n 9 ≡ b → Small (if b then Some (Align n) else None)
    by_test true e = leb-true n 9 e
    by_test false e = tt
small_power kinds.Name = tt
small_power (kinds.Mark m) = tt
small_power kinds.Text = tt

small_alone : (tokens : List Token) → Small (power_alone tokens)
small_alone [] = tt
small_alone (t ∷ []) = small_power t.kind
small_alone (t ∷ u ∷ tokens) = tt

small_named : (name : List ℕ) → Small (word_named name)
small_named name =
    let nothing : Option Attribute = if says_nothing name then Some Ignored else None in
    let overlaid : Option Attribute = if spells (codes "OVR") name then Some (Overlaid true) else nothing in
    either_small (spells (codes "ABS") name) (Absolute true) overlaid tt
    (either_small (spells (codes "OVR") name) (Overlaid true) nothing tt (either_small (says_nothing name) Ignored None tt tt))

small_word : (line : List ℕ) (o : Option Token) → Small (further_word line o)
small_word line (Some t) = small_named (token_text line t)
small_word line None = tt

small_either : (x y : Option Attribute) → Small x → Small y → Small (either_attribute x y)
small_either (Some a) y h g = h
small_either None y h g = g

small_further : (b : Bool) (line : List ℕ) (tokens : List Token) → Small (further_attribute b line tokens)
small_further true line tokens = small_either (power_alone tokens) (further_word line (name_alone line tokens)) (small_alone tokens) (small_word line (name_alone line tokens))
small_further false line tokens = tt

small_at : (dialect : Dialect) (line : List ℕ) (tokens : List Token) → Small (attribute_at dialect line tokens)
small_at dialect line tokens =
    small_either (attribute_by line (name_alone line tokens)) (further_attribute (has_further_directives dialect) line tokens)
    (small_by line (name_alone line tokens)) (small_further (has_further_directives dialect) line tokens)

attributes_within : (dialect : Dialect) (line : List ℕ) (parts : List (List Token)) (o : Option Attributes) → IfSome o Within → IfSome (attributes_from dialect line parts o) Within
attributes_within dialect line [] o h = h
attributes_within dialect line (part ∷ parts) o h = attributes_within dialect line parts _ (attribute_within _ o (small_at dialect line part) h)

pub said_within : (dialect : Dialect) (line : List ℕ) (parts : List (List Token)) (o : Option Attributes) → o ≡ attributes_from dialect line parts (Some nothing_said) → IfSome o Within
said_within dialect line parts o h =
    let P : Option Attributes → Type 0 = λ x. IfSome x Within in
    subst P (sym h) (attributes_within dialect line parts (Some nothing_said) tt)

-- one more operand
pub attribute_step : {X : Type 0} (now : X → List Token) (dialect : Dialect) (line : List ℕ) (before after all : Option Attributes) (xs : List X) (i : ℕ) (x : X) → i < length xs → x ≡ slice_index_or xs i x
    → after ≡ with_attribute (attribute_at dialect line (now x)) before
    → attributes_from dialect line (map now (drop i xs)) before ≡ all
    → attributes_from dialect line (map now (drop (i + 1) xs)) after ≡ all
attribute_step now dialect line before after all xs i x h at is same =
    let split : drop i xs ≡ x ∷ drop (i + 1) xs = rw add-one (drop-cons xs i x h ∙ ap (λ y. y ∷ drop (suc i) xs) (sym at)) in
    ap (λ (o : Option Attributes). attributes_from dialect line (map now (drop (i + 1) xs)) o) is
    ∙ ap (λ l. attributes_from dialect line (map now l) before) (sym split)
    ∙ same
