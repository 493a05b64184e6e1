-- The symbols of an expression use the names of its tree.
use Rattle.std.proofs.Common.{◌≡◌, ℕ, List, [], ◌∷◌, ◌++◌, map, refl, ap, sym, ◌∙◌, append_assoc}
use Rattle.std.proofs.lemmas.List.{append-nil, map-append}
use Rattle.vax_lex.specs.Grammar.{Symbol, mark, Term, constant, named_by, quoted, mask as mask_of, single_mask, plus, minus, complement, bracketed, Joined, finish, joined, Expression, names_then, term_then, joined_then, spelling, operator_mark}
use Rattle.vax_lex.specs.Values.{Operation, addition, subtraction, multiplication, division, arithmetic_shift, logical_and, inclusive_or, exclusive_or}
use Rattle.vax_lex.specs.declared.value.Value.{Value}
use Rattle.vax_asm_scope.specs.Scope.{Scope, Bound, mean, bind, bind_all, bound}
use Rattle.vax_asm_values.specs.Values.{Meaning}
use Rattle.vax_asm_scope.specs.Used.{names_of_term, names_of_joined, names_of, at_term, in_mask, used}

mask_passed : (registers : List (List ℕ)) (rest : List Symbol) → used in_mask (names_then registers (mark 62 ∷ rest)) ≡ used at_term rest
mask_passed [] rest = refl
mask_passed (r ∷ []) rest = refl
mask_passed (r ∷ s ∷ registers) rest = mask_passed (s ∷ registers) rest

operator_passed : (operator : Operation) (rest : List Symbol) → used at_term (mark (operator_mark operator) ∷ rest) ≡ used at_term rest
operator_passed addition rest = refl
operator_passed subtraction rest = refl
operator_passed multiplication rest = refl
operator_passed division rest = refl
operator_passed arithmetic_shift rest = refl
operator_passed logical_and rest = refl
operator_passed inclusive_or rest = refl
operator_passed exclusive_or rest = refl

mutual
  term_uses : (t : Term) (rest : List Symbol) → used at_term (term_then t rest) ≡ names_of_term t ++ used at_term rest
  term_uses (constant n) rest = refl
  term_uses (named_by s) rest = refl
  term_uses (quoted text) rest = refl
  term_uses (mask_of registers) rest = mask_passed registers rest
  term_uses (single_mask register) rest = refl
  term_uses (plus t) rest = term_uses t rest
  term_uses (minus t) rest = term_uses t rest
  term_uses (complement t) rest = term_uses t rest
  term_uses (bracketed t more) rest =
      term_uses t (joined_then more (mark 62 ∷ rest))
      ∙ ap (λ (l : List (List ℕ)). names_of_term t ++ l) (joined_uses more (mark 62 ∷ rest))
      ∙ sym (append_assoc (names_of_term t) (names_of_joined more) (used at_term rest))

  joined_uses : (more : Joined) (rest : List Symbol) → used at_term (joined_then more rest) ≡ names_of_joined more ++ used at_term rest
  joined_uses finish rest = refl
  joined_uses (joined operator t more) rest =
      operator_passed operator (term_then t (joined_then more rest))
      ∙ term_uses t (joined_then more rest)
      ∙ ap (λ (l : List (List ℕ)). names_of_term t ++ l) (joined_uses more rest)
      ∙ sym (append_assoc (names_of_term t) (names_of_joined more) (used at_term rest))

pub expression_uses : (e : Expression) → used at_term (spelling e) ≡ names_of e
expression_uses e =
    term_uses e.first (joined_then e.more [])
    ∙ ap (λ (l : List (List ℕ)). names_of_term e.first ++ l) (joined_uses e.more [] ∙ append-nil (names_of_joined e.more))

-- names are bound as they are written
names_bound : (here : Value) (texts : List (List ℕ)) (b : Bound) → map (λ (m : Meaning). m.name) (bind_all here b texts).names ≡ map (λ (m : Meaning). m.name) b.names ++ texts
names_bound here [] b = sym (append-nil (map (λ (m : Meaning). m.name) b.names))
names_bound here (text ∷ texts) b =
    names_bound here texts (bind here text b)
    ∙ ap (λ (l : List (List ℕ)). l ++ texts) (map-append (λ (m : Meaning). m.name) b.names (record { name = text; definition = (mean here text b.scope).definition } ∷ []))
    ∙ append_assoc (map (λ (m : Meaning). m.name) b.names) (text ∷ []) texts

pub tree_names : (here : Value) (symbols : List Symbol) (s : Scope) (names : List Meaning) (e : Expression) → names ≡ (bound here symbols s).names → symbols ≡ spelling e → map (λ (m : Meaning). m.name) names ≡ names_of e
tree_names here symbols s names e is spelled =
    ap (map (λ (m : Meaning). m.name)) is
    ∙ names_bound here (used at_term symbols) (record { names = []; scope = s })
    ∙ ap (used at_term) spelled
    ∙ expression_uses e
