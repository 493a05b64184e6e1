-- What the parts before a place say of it, one by one.
use Rattle.std.proofs.Common.{◌≡◌, ℕ, zero, Bool, true, false, not, cond, List, [], ◌∷◌, refl, ap, ◌∙◌}
use Rattle.std.specs.Prelude.{◌&&◌, ◌==◌, codes}
use Rattle.vax_dialect.specs.declared.Dialect.{Dialect}
use Rattle.vax_lex.specs.Characters.{spells}
use Rattle.vax_lex.specs.Statements.{text_directive, on_two_texts, Place, first_name, condition_end, text_argument, Before, nothing_special, size_letter, operator_caret, text_sign, label_colon, Context, context_after, context_after_blank, place_after, before_after, line_start, is_caret, is_size, is_text_sign, is_first_name, is_size_letter}
use Rattle.vax_lex.specs.Tokens.{stray_kind}
use Rattle.vax_lex.specs.Parts.{token, stray, Part, space, word, sign, quotation, numeric, part_of, behind_operator, behind_size, behind_text_operator}
use Rattle.vax_lex.specs.declared.token.TokenKind.{TokenKind}
use Rattle.vax_lex.specs.declared.token.TokenKind.TheVariants.{Name, Number, Mark, Text}

module _ (dialect : Dialect) where
  -- the context behind a part
  abbrev pub after : Context → Part → Context
  after c space = context_after_blank c
  after c (word name) = context_after dialect c Name name
  after c (sign m) = context_after dialect c (Mark m) []
  after c quotation = context_after dialect c Text []
  after c numeric = context_after dialect c (Number 0) []

  -- the context behind parts, the nearest first
  abbrev pub behind : List Part → Context
  behind [] = line_start
  behind (p ∷ before) = after (behind before) p

  -- the place behind a part
  abbrev pub step : Part → Before → Place → Place
  step p b place = (after (record { place = place; before = b }) p).place

  pub steps_to : (p : Part) (before : List Part) (place : Place) → (behind before).place ≡ place → (behind (p ∷ before)).place ≡ step p (behind before).before place
  steps_to space before place e = ap (step space (behind before).before) e
  steps_to (word name) before place e = ap (step (word name) (behind before).before) e
  steps_to (sign m) before place e = ap (step (sign m) (behind before).before) e
  steps_to quotation before place e = ap (step quotation (behind before).before) e
  steps_to numeric before place e = ap (step numeric (behind before).before) e

  -- the characters count of names alone
  mark_alone : (p : Place) (b : Before) (m : ℕ) (text : List ℕ) → place_after dialect (record { place = p; before = b }) (Mark m) text ≡ place_after dialect (record { place = p; before = b }) (Mark m) []
  mark_alone (first_name text_directive) b m text = refl
  mark_alone p b m text = refl

  text_alone : (p : Place) (b : Before) (text : List ℕ) → place_after dialect (record { place = p; before = b }) Text text ≡ place_after dialect (record { place = p; before = b }) Text []
  text_alone (first_name text_directive) b text = refl
  text_alone p b text = refl

  number_alone : (p : Place) (b : Before) (n : ℕ) (text : List ℕ) → place_after dialect (record { place = p; before = b }) (Number n) text ≡ place_after dialect (record { place = p; before = b }) (Number 0) []
  number_alone (first_name text_directive) b n text = refl
  number_alone (condition_end on_two_texts) b n text = refl
  number_alone (text_argument last begun zero) b n text = refl
  number_alone p b n text = refl

  placed : (x y : Place) (b : Before) → x ≡ y → (let c : Context = record { place = x; before = b } in c) ≡ record { place = y; before = b }
  placed x y b e = ap (λ (p : Place). let c : Context = record { place = p; before = b } in c) e

  -- the context behind an element is the one behind the part that it is
  pub token_after : (c : Context) (kind : TokenKind) (text : List ℕ) → context_after dialect c kind text ≡ after c (part_of (token kind text))
  token_after c Name text = refl
  token_after c (Number n) text = placed _ _ nothing_special (number_alone c.place c.before n text)
  token_after c (Mark m) text = placed _ _ (before_after c (Mark m) []) (mark_alone c.place c.before m text)
  token_after c Text text = placed _ _ nothing_special (text_alone c.place c.before text)

  pub wide_after : (c : Context) (text : List ℕ) → context_after dialect c (Number 0) text ≡ after c numeric
  wide_after c text = placed _ _ nothing_special (number_alone c.place c.before 0 text)

  pub stray_after : (c : Context) (b : ℕ) (text : List ℕ) → context_after dialect c (stray_kind b) text ≡ after c (part_of (stray b))
  stray_after c b text = by_test (b == 94)
    where
      by_test : (t : Bool) → context_after dialect c (cond t (Number 0) (Mark b)) text ≡ after c (cond t numeric (sign b))
      by_test true = wide_after c text
      by_test false = placed _ _ (before_after c (Mark b) []) (mark_alone c.place c.before b text)

-- what stands right before
pub caret_name : (x y z : Bool) → is_caret (cond x (cond y text_sign nothing_special) (cond z size_letter nothing_special)) ≡ false
caret_name true true z = refl
caret_name true false z = refl
caret_name false y true = refl
caret_name false y false = refl

pub size_name : (x y z : Bool) → is_size (cond x (cond y text_sign nothing_special) (cond z size_letter nothing_special)) ≡ (not x && z)
size_name true true z = refl
size_name true false z = refl
size_name false y true = refl
size_name false y false = refl

text_name : (x y z : Bool) → is_text_sign (cond x (cond y text_sign nothing_special) (cond z size_letter nothing_special)) ≡ (x && y)
text_name true true z = refl
text_name true false z = refl
text_name false y true = refl
text_name false y false = refl

pub caret_mark : (x y z : Bool) → is_caret (cond x (cond y nothing_special operator_caret) (cond z label_colon nothing_special)) ≡ (x && not y)
caret_mark true true z = refl
caret_mark true false z = refl
caret_mark false y true = refl
caret_mark false y false = refl

pub size_mark : (x y z : Bool) → is_size (cond x (cond y nothing_special operator_caret) (cond z label_colon nothing_special)) ≡ false
size_mark true true z = refl
size_mark true false z = refl
size_mark false y true = refl
size_mark false y false = refl

text_mark : (x y z : Bool) → is_text_sign (cond x (cond y nothing_special operator_caret) (cond z label_colon nothing_special)) ≡ false
text_mark true true z = refl
text_mark true false z = refl
text_mark false y true = refl
text_mark false y false = refl

pub caret_blank : (x : Bool) → is_caret (cond x text_sign nothing_special) ≡ false
caret_blank true = refl
caret_blank false = refl

pub size_blank : (x : Bool) → is_size (cond x text_sign nothing_special) ≡ false
size_blank true = refl
size_blank false = refl

text_blank : (x : Bool) → is_text_sign (cond x text_sign nothing_special) ≡ x
text_blank true = refl
text_blank false = refl

module _ (dialect : Dialect) where
  mutual
    pub operator_is : (before : List Part) → is_caret (behind dialect before).before ≡ behind_operator before
    operator_is [] = refl
    operator_is (space ∷ before) = caret_blank (is_text_sign (behind dialect before).before)
    operator_is (word name ∷ before) = caret_name (is_caret (behind dialect before).before) (spells (codes "A") name) (is_size_letter name)
    operator_is (sign m ∷ before) = caret_mark (m == 94) (is_size (behind dialect before).before) ((m == 58) && is_first_name (behind dialect before).place) ∙ ap (λ (t : Bool). (m == 94) && not t) (size_is before)
    operator_is (quotation ∷ before) = refl
    operator_is (numeric ∷ before) = refl

    pub size_is : (before : List Part) → is_size (behind dialect before).before ≡ behind_size before
    size_is [] = refl
    size_is (space ∷ before) = size_blank (is_text_sign (behind dialect before).before)
    size_is (word name ∷ before) = size_name (is_caret (behind dialect before).before) (spells (codes "A") name) (is_size_letter name) ∙ ap (λ (t : Bool). not t && is_size_letter name) (operator_is before)
    size_is (sign m ∷ before) = size_mark (m == 94) (is_size (behind dialect before).before) ((m == 58) && is_first_name (behind dialect before).place)
    size_is (quotation ∷ before) = refl
    size_is (numeric ∷ before) = refl

  pub text_is : (before : List Part) → is_text_sign (behind dialect before).before ≡ behind_text_operator before
  text_is [] = refl
  text_is (space ∷ before) = text_blank (is_text_sign (behind dialect before).before) ∙ text_is before
  text_is (word name ∷ before) = text_name (is_caret (behind dialect before).before) (spells (codes "A") name) (is_size_letter name) ∙ ap (λ (t : Bool). t && spells (codes "A") name) (operator_is before)
  text_is (sign m ∷ before) = text_mark (m == 94) (is_size (behind dialect before).before) ((m == 58) && is_first_name (behind dialect before).place)
  text_is (quotation ∷ before) = refl
  text_is (numeric ∷ before) = refl
