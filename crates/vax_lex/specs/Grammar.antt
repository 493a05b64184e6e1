-- The grammar of expressions, and their values (VAX MACRO and Instruction Set Reference Manual, "Terms and
-- expressions", "Unary operators" and "Operation operators").
use Rattle.std.specs.Prelude.{◌≡◌, ◌≢◌, ℕ, Bool, false, ◌-◌, ◌^◌, ◌⊎◌, List, [], ◌∷◌, length, map, take, drop, Option, Some, None, Result, Ok, Err, bit_or, pos, ◌==◌, if◌then◌else◌}
use Rattle.std.specs.Int.{w64, cast_signed}
use Rattle.vax_dialect.specs.Differences.{has_single_masks}
use Rattle.vax_dialect.specs.declared.Dialect.{Dialect}
use Rattle.vax_lex.specs.Characters.{canonical_name}
use Rattle.vax_lex.specs.Tokens.{token_text}
use Rattle.vax_lex.specs.Statements.{is_mark}
use Rattle.vax_lex.specs.Values.{Operation, addition, subtraction, multiplication, division, arithmetic_shift, logical_and, inclusive_or, exclusive_or, Sense, combined, minus_of, complement_of, named, characters_value, mask_bit}
use Rattle.vax_lex.specs.declared.token.TokenKind.{TokenKind}
use Rattle.vax_lex.specs.declared.token.TokenKind.TheVariants.{Name, Number, Mark, Text}
use Rattle.vax_lex.specs.declared.token.Token.{Token}
use Rattle.vax_lex.specs.declared.value.Value.{Value}
use Rattle.vax_lex.specs.declared.value.Value.TheVariants.{Absolute}
use Rattle.vax_lex.specs.declared.value.ExprError.{ExprError}
use Rattle.vax_lex.specs.declared.value.ExprError.TheVariants.{Form}

-- What the grammar sees of a token: a number, a name as it is kept, the characters between the delimiters of a text,
-- or a mark.
pub data Symbol : Type 0 where
  number : ℕ → Symbol
  name : List ℕ → Symbol
  characters : List ℕ → Symbol
  mark : ℕ → Symbol

abbrev pub characters_in : List ℕ → List ℕ
characters_in text = take (length text - 2) (drop 1 text)

abbrev pub symbol : TokenKind → List ℕ → Symbol
symbol (Number n) text = number n
symbol Name text = name (canonical_name text)
symbol Text text = characters (characters_in text)
symbol (Mark m) text = mark m

abbrev pub symbol_of : List ℕ → Token → Symbol
symbol_of line t = symbol t.kind (token_text line t)

abbrev pub symbols_of : List ℕ → List Token → List Symbol
symbols_of line tokens = map (symbol_of line) tokens

-- An expression is a term, and more terms joined to it by operators. A term is a number, a name, `^A` and a text,
-- `^M` and names of registers in brackets or one without, a sign before a term, or an expression in brackets.
mutual
  pub data Term : Type 0 where
    constant : ℕ → Term
    named_by : List ℕ → Term
    quoted : List ℕ → Term
    mask : List (List ℕ) → Term
    single_mask : List ℕ → Term
    plus : Term → Term
    minus : Term → Term
    complement : Term → Term
    bracketed : Term → Joined → Term

  pub data Joined : Type 0 where
    finish : Joined
    joined : Operation → Term → Joined → Joined

-- The marks of the operators between terms: `+`, `-`, `*`, `/`, `@`, `&`, `!` and `\`.
abbrev pub operator_mark : Operation → ℕ
operator_mark addition = 43
operator_mark subtraction = 45
operator_mark multiplication = 42
operator_mark division = 47
operator_mark arithmetic_shift = 64
operator_mark logical_and = 38
operator_mark inclusive_or = 33
operator_mark exclusive_or = 92

-- names with commas between them, and then more
abbrev pub names_then : List (List ℕ) → List Symbol → List Symbol
names_then [] rest = rest
names_then (r ∷ []) rest = name r ∷ rest
names_then (r ∷ s ∷ names) rest = name r ∷ mark 44 ∷ names_then (s ∷ names) rest

-- The symbols that spell a term, or the terms joined to it, and then more.
abbrev mutual
  pub term_then : Term → List Symbol → List Symbol
  term_then (constant n) rest = number n ∷ rest
  term_then (named_by s) rest = name s ∷ rest
  term_then (quoted text) rest = mark 94 ∷ name (65 ∷ []) ∷ characters text ∷ rest
  term_then (mask names) rest = mark 94 ∷ name (77 ∷ []) ∷ mark 60 ∷ names_then names (mark 62 ∷ rest)
  term_then (single_mask register) rest = mark 94 ∷ name (77 ∷ []) ∷ name register ∷ rest
  term_then (plus t) rest = mark 43 ∷ term_then t rest
  term_then (minus t) rest = mark 45 ∷ term_then t rest
  term_then (complement t) rest = mark 94 ∷ name (67 ∷ []) ∷ term_then t rest
  term_then (bracketed t more) rest = mark 60 ∷ term_then t (joined_then more (mark 62 ∷ rest))

  pub joined_then : Joined → List Symbol → List Symbol
  joined_then finish rest = rest
  joined_then (joined operator t more) rest = mark (operator_mark operator) ∷ term_then t (joined_then more rest)

-- The bits of the registers of a mask and these, if each name is a register.
abbrev pub with_bit : Option ℕ → Option ℕ → Option ℕ
with_bit (Some bits) (Some bit) = Some (bit_or bits (2 ^ bit))
with_bit (Some bits) None = None
with_bit None bit = None

abbrev pub mask_with : Option ℕ → List (List ℕ) → Option ℕ
mask_with bits [] = bits
mask_with bits (r ∷ names) = mask_with (with_bit bits (mask_bit r)) names

abbrev pub mask_outcome : Option ℕ → Result Value ExprError
mask_outcome (Some bits) = Ok (Absolute (pos bits))
mask_outcome None = Err Form

abbrev pub mask_value : List (List ℕ) → Result Value ExprError
mask_value names = mask_outcome (mask_with (Some 0) names)

-- the mask of one register without brackets, where the dialect has it
abbrev pub single_mask_value : Dialect → List ℕ → Result Value ExprError
single_mask_value d register = if has_single_masks d then mask_value (register ∷ []) else Err Form

-- The value of a term, and that of terms joined to one whose value is known: operators have equal rank, and the left
-- one comes first.
abbrev mutual
  pub term_value : Sense → Term → Result Value ExprError
  term_value names (constant n) = Ok (Absolute (cast_signed w64 n))
  term_value names (named_by s) = named names s
  term_value names (quoted text) = characters_value text
  term_value names (mask registers) = mask_value registers
  term_value names (single_mask register) = single_mask_value names.dialect register
  term_value names (plus t) = term_value names t
  term_value names (minus t) = minus_of names.dialect (term_value names t)
  term_value names (complement t) = complement_of names.dialect (term_value names t)
  term_value names (bracketed t more) = joined_value names (term_value names t) more

  pub joined_value : Sense → Result Value ExprError → Joined → Result Value ExprError
  joined_value names left finish = left
  joined_value names left (joined operator t more) = joined_value names (combined names.dialect operator left (term_value names t)) more

-- A whole expression, the symbols that spell it, and its value.
pub record Expression : Type 0 where
  pub first : Term
  pub more : Joined

abbrev pub spelling : Expression → List Symbol
spelling e = term_then e.first (joined_then e.more [])

abbrev pub value_of : Sense → Expression → Result Value ExprError
value_of names e = joined_value names (term_value names e.first) e.more

-- The answer is the value of an expression that the symbols spell, or they spell none.
abbrev pub Evaluates : Sense → List Symbol → Result Value ExprError → Type 0
Evaluates names symbols answer =
    ((e : Expression) × (spelling e ≡ symbols) × (answer ≡ value_of names e))
    ⊎ (((e : Expression) → spelling e ≢ symbols) × (answer ≡ Err Form))

-- the operator that a token is
abbrev pub operator_of_mark : ℕ → Option Operation
operator_of_mark m =
    if m == 43 then Some addition
    else (if m == 45 then Some subtraction
    else (if m == 42 then Some multiplication
    else (if m == 47 then Some division
    else (if m == 64 then Some arithmetic_shift
    else (if m == 38 then Some logical_and
    else (if m == 33 then Some inclusive_or
    else (if m == 92 then Some exclusive_or
    else None)))))))

abbrev pub operator_of : TokenKind → Option Operation
operator_of (Mark m) = operator_of_mark m
operator_of Name = None
operator_of (Number n) = None
operator_of Text = None

-- There is a token, and it is this mark.
abbrev pub is_that_mark : ℕ → Option Token → Bool
is_that_mark m (Some t) = is_mark m t.kind
is_that_mark m None = false

-- There is a token, and it is this operator.
abbrev pub operator_in : Option Token → Option Operation
operator_in (Some t) = operator_of t.kind
operator_in None = None
