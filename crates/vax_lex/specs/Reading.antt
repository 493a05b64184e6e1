-- What is read of an expression from one of its symbols on.
use Rattle.std.specs.Prelude.{◌≡◌, ℕ, ◌<◌, ◌≤◌, List, ◌∷◌, length, drop, Option, Some, None, Result}
use Rattle.vax_dialect.specs.declared.Dialect.{Dialect}
use Rattle.vax_lex.specs.Grammar.{Symbol, name, characters, mark, Term, Joined, operator_mark, term_then, joined_then, names_then, term_value, joined_value, mask_with, mask_outcome, mask_value, single_mask_value}
use Rattle.vax_lex.specs.Values.{Operation, Sense, characters_value}
use Rattle.vax_lex.specs.declared.value.Value.{Value}
use Rattle.vax_lex.specs.declared.value.ExprError.{ExprError}
use Rattle.vax_lex.specs.declared.expression.Read.{Read}

-- no term begins with these symbols
abbrev pub NoTerm : List Symbol → Type 0
NoTerm symbols = (t : Term) (rest : List Symbol) → term_then t rest ≡ symbols → ⊥

-- a term with this answer, and the rest
pub record TermIs (names : Sense) (symbols : List Symbol) (answer : Result Value ExprError) (rest : List Symbol) : Type 0 where
  pub term : Term
  pub spells : term_then term rest ≡ symbols
  pub gives : answer ≡ term_value names term

-- The answer of a reader of terms at a place.
abbrev pub ReadsTerm : Sense → List Symbol → ℕ → Option Read → Type 0
ReadsTerm names all at None = NoTerm (drop at all)
ReadsTerm names all at (Some r) = (at < r.end) × (r.end ≤ length all) × TermIs names (drop at all) r.answer (drop r.end all)

-- no operator stands first
abbrev pub NotOperator : List Symbol → Type 0
NotOperator symbols = (operator : Operation) (rest : List Symbol) → symbols ≡ mark (operator_mark operator) ∷ rest → ⊥

-- no expression begins with these symbols and goes as far as it can
abbrev pub NoExpression : List Symbol → Type 0
NoExpression symbols = (t : Term) (more : Joined) (rest : List Symbol) → NotOperator rest → term_then t (joined_then more rest) ≡ symbols → ⊥

-- an expression with this answer that goes as far as it can, and the rest
pub record ExpressionIs (names : Sense) (symbols : List Symbol) (answer : Result Value ExprError) (rest : List Symbol) : Type 0 where
  pub term : Term
  pub more : Joined
  pub spells : term_then term (joined_then more rest) ≡ symbols
  pub gives : answer ≡ joined_value names (term_value names term) more
  pub whole : NotOperator rest

abbrev pub ReadsExpression : Sense → List Symbol → ℕ → Option Read → Type 0
ReadsExpression names all at None = NoExpression (drop at all)
ReadsExpression names all at (Some r) = (at < r.end) × (r.end ≤ length all) × ExpressionIs names (drop at all) r.answer (drop r.end all)

-- names with commas between them up to the bracket that ends them, at least one, with this mask
abbrev pub NoNames : List Symbol → Type 0
NoNames symbols = (r : List ℕ) (names : List (List ℕ)) (rest : List Symbol) → names_then (r ∷ names) (mark 62 ∷ rest) ≡ symbols → ⊥

pub record NamesAre (bits : Option ℕ) (symbols : List Symbol) (answer : Result Value ExprError) (rest : List Symbol) : Type 0 where
  pub first : List ℕ
  pub others : List (List ℕ)
  pub spells : names_then (first ∷ others) (mark 62 ∷ rest) ≡ symbols
  pub gives : answer ≡ mask_outcome (mask_with bits (first ∷ others))

abbrev pub ReadsNames : Option ℕ → List Symbol → ℕ → Option Read → Type 0
ReadsNames bits all at None = NoNames (drop at all)
ReadsNames bits all at (Some r) = (at < r.end) × (r.end ≤ length all) × NamesAre bits (drop at all) r.answer (drop r.end all)

-- the text of `^A`
abbrev pub ReadsQuoted : List Symbol → ℕ → Option Read → Type 0
ReadsQuoted all at None = (text : List ℕ) (rest : List Symbol) → characters text ∷ rest ≡ drop at all → ⊥
ReadsQuoted all at (Some r) = (at < r.end) × (r.end ≤ length all) × (text : List ℕ) × (characters text ∷ drop r.end all ≡ drop at all) × (r.answer ≡ characters_value text)

-- the mask of `^M` and brackets
abbrev pub ReadsMask : List Symbol → ℕ → Option Read → Type 0
ReadsMask all at None = (names : List (List ℕ)) (rest : List Symbol) → mark 60 ∷ names_then names (mark 62 ∷ rest) ≡ drop at all → ⊥
ReadsMask all at (Some r) = (at < r.end) × (r.end ≤ length all) × (names : List (List ℕ)) × (mark 60 ∷ names_then names (mark 62 ∷ drop r.end all) ≡ drop at all) × (r.answer ≡ mask_value names)

-- the register of `^M` without brackets
abbrev pub ReadsSingleMask : Dialect → List Symbol → ℕ → Option Read → Type 0
ReadsSingleMask d all at None = (register : List ℕ) (rest : List Symbol) → name register ∷ rest ≡ drop at all → ⊥
ReadsSingleMask d all at (Some r) = (at < r.end) × (r.end ≤ length all) × (register : List ℕ) × (name register ∷ drop r.end all ≡ drop at all) × (r.answer ≡ single_mask_value d register)
