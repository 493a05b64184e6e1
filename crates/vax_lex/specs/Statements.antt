-- The parts of a statement, as far as they decide where a quoted text may stand (VAX MACRO and Instruction Set
-- Reference Manual, "Components of MACRO source statements" and the directives `.ASCII` and `.IIF`).
use Rattle.std.specs.Prelude.{ℕ, zero, suc, ◌+◌, ◌-◌, Bool, true, false, not, ◌&&◌, ◌||◌, ◌==◌, nat_le, List, if◌then◌else◌, codes}
use Rattle.vax_dialect.specs.Differences.{has_text_descriptors}
use Rattle.vax_dialect.specs.declared.Dialect.{Dialect}
use Rattle.vax_lex.specs.Characters.{is_delimiter, spells}
use Rattle.vax_lex.specs.declared.token.TokenKind.{TokenKind}
use Rattle.vax_lex.specs.declared.token.TokenKind.TheVariants.{Name, Number, Mark, Text}

-- a statement's operator: one whose operands are pieces of text, `.IIF`, behind whose condition a statement stands, or
-- any other
pub data Operator : Type 0 where
  text_directive : Operator
  immediate_if : Operator
  other_operator : Operator

-- what a condition is on: two texts, one text, or what is no text, an expression or a name
pub data Subject : Type 0 where
  on_two_texts : Subject
  on_text : Subject
  on_no_text : Subject

-- The part of a statement that is due.
pub data Place : Type 0 where
  -- the statement itself: its label or its operator
  statement : Place
  -- what follows its first name: a colon makes that name a label, else it is the operator
  first_name : Operator → Place
  -- the operator, behind a label
  behind_label : Place
  -- a piece of text
  text_piece : Place
  -- the rest of a piece in brackets, of which so many are open
  bracketed_piece : ℕ → Place
  -- the name of a condition
  condition_name : Place
  -- what stands right behind that name: a blank, a comma that touches it, or the argument
  condition_end : Subject → Place
  -- the rest of a condition's expression or name, in so many open brackets
  expression_rest : ℕ → Place
  -- the rest of a condition's argument that is any text: the last one or not, something of it stands before or not,
  -- and so many of the brackets round it are open
  text_argument : (last begun : Bool) → ℕ → Place
  -- the second of two such arguments, or a comma before it: a blank ended the first
  between_arguments : Place
  operands : Place

-- What stands right before a place of a line.
pub data Before : Type 0 where
  nothing_special : Before
  -- the name `B`, `W`, `L`, `G`, `S` or `I`, behind which a `^` belongs to the operand
  size_letter : Before
  -- the `^` of an operator, whose letter follows
  operator_caret : Before
  -- `^A`, perhaps with blanks behind it
  text_sign : Before
  -- the first colon of a label
  label_colon : Before

-- Where in its statement a place of a line is, and what stands before it.
pub record Context : Type 0 where
  pub place : Place
  pub before : Before

-- the directives of a dialect whose operands are pieces of text
abbrev pub is_text_directive : Dialect → List ℕ → Bool
is_text_directive d name = spells (codes ".ASCII") name || spells (codes ".ASCIC") name || spells (codes ".ASCIZ") name || (spells (codes ".ASCID") name && has_text_descriptors d)

abbrev pub operator_of : Dialect → List ℕ → Operator
operator_of d name =
    if is_text_directive d name then text_directive
    else (if spells (codes ".IIF") name then immediate_if
    else other_operator)

-- what is due behind an operator
abbrev pub operand_place : Operator → Place
operand_place text_directive = text_piece
operand_place immediate_if = condition_name
operand_place other_operator = operands

-- the conditions on two texts, and on one
abbrev pub compares_texts : List ℕ → Bool
compares_texts name = spells (codes "IDN") name || spells (codes "DIF") name || spells (codes "IDENTICAL") name || spells (codes "DIFFERENT") name

abbrev pub tests_text : List ℕ → Bool
tests_text name = spells (codes "B") name || spells (codes "NB") name || spells (codes "BLANK") name || spells (codes "NOT_BLANK") name

abbrev pub subject_of : List ℕ → Subject
subject_of name =
    if compares_texts name then on_two_texts
    else (if tests_text name then on_text
    else on_no_text)

-- what is due behind the name of a condition and what parts it from its argument
abbrev pub argument_place : Subject → Place
argument_place on_two_texts = text_argument false false 0
argument_place on_text = text_argument true false 0
argument_place on_no_text = expression_rest 0

-- the token is this mark
abbrev pub is_mark : ℕ → TokenKind → Bool
is_mark m (Mark b) = b == m
is_mark m Name = false
is_mark m (Number n) = false
is_mark m Text = false

abbrev pub is_name : TokenKind → Bool
is_name Name = true
is_name _ = false

abbrev pub is_text : TokenKind → Bool
is_text Text = true
is_text _ = false

abbrev pub is_colon : Before → Bool
is_colon label_colon = true
is_colon _ = false

abbrev pub is_caret : Before → Bool
is_caret operator_caret = true
is_caret _ = false

abbrev pub is_size : Before → Bool
is_size size_letter = true
is_size _ = false

abbrev pub is_text_sign : Before → Bool
is_text_sign text_sign = true
is_text_sign _ = false

abbrev pub is_first_name : Place → Bool
is_first_name (first_name operator) = true
is_first_name _ = false

-- An argument ends at a comma. Brackets protect commas where they stand round the whole argument.
abbrev pub argument_after : Bool → Bool → ℕ → TokenKind → Place
argument_after last begun (suc depth) kind =
    if is_mark 60 kind then text_argument last true (suc depth + 1)
    else (if is_mark 62 kind then text_argument last true depth
    else text_argument last true (suc depth))
argument_after last begun zero kind =
    if is_mark 44 kind then (if last then statement else text_argument true false 0)
    else (if is_mark 60 kind && not begun then text_argument last true 1
    else text_argument last true 0)

abbrev pub expression_after : ℕ → TokenKind → Place
expression_after depth kind =
    if is_mark 60 kind then expression_rest (depth + 1)
    else (if is_mark 62 kind then expression_rest (depth - 1)
    else (if is_mark 44 kind && (depth == 0) then statement
    else expression_rest depth))

-- What is due after a token right behind the name of a condition: a comma, or what begins its argument.
abbrev pub begun_after : Subject → TokenKind → Place
begun_after on_two_texts kind = argument_after false false 0 kind
begun_after on_text kind = argument_after true false 0 kind
begun_after on_no_text kind = expression_after 0 kind

abbrev pub condition_after : Subject → TokenKind → Place
condition_after subject kind = if is_mark 44 kind then argument_place subject else begun_after subject kind

-- What is due after a token of the operands.
abbrev pub operand_after : Place → TokenKind → List ℕ → Place
operand_after text_piece kind text =
    if is_text kind then text_piece else (if is_mark 60 kind then bracketed_piece 1 else operands)
operand_after (bracketed_piece depth) kind text =
    if is_mark 60 kind then bracketed_piece (depth + 1)
    else (if is_mark 62 kind then (if nat_le depth 1 then text_piece else bracketed_piece (depth - 1))
    else bracketed_piece depth)
operand_after condition_name kind text = if is_name kind then condition_end (subject_of text) else operands
operand_after (condition_end subject) kind text = condition_after subject kind
operand_after (expression_rest depth) kind text = expression_after depth kind
operand_after (text_argument last begun depth) kind text = argument_after last begun depth kind
operand_after between_arguments kind text =
    if is_mark 44 kind then text_argument true false 0 else argument_after true false 0 kind
operand_after _ kind text = operands

-- What is due after a token: a name before a colon is a label, and the next name is the operator, else the first
-- name is. A second colon, right behind the first, makes the label global.
abbrev pub place_after : Dialect → Context → TokenKind → List ℕ → Place
place_after d c kind text = elim c.place [
  | statement ↦ if is_name kind then first_name (operator_of d text) else operands
  | first_name operator ↦ if is_mark 58 kind then behind_label else operand_after (operand_place operator) kind text
  | behind_label ↦ if is_name kind then operand_place (operator_of d text) else (if is_mark 58 kind && is_colon c.before then behind_label else operands)
  | place ↦ operand_after place kind text
]

-- the names behind which a `^` belongs to the operand
abbrev pub is_size_letter : List ℕ → Bool
is_size_letter name = spells (codes "B") name || spells (codes "W") name || spells (codes "L") name || spells (codes "G") name || spells (codes "S") name || spells (codes "I") name

-- What stands before the next token, if no blank follows this one.
abbrev pub before_after : Context → TokenKind → List ℕ → Before
before_after c Name text =
    if is_caret c.before then (if spells (codes "A") text then text_sign else nothing_special)
    else (if is_size_letter text then size_letter else nothing_special)
before_after c (Mark m) text =
    if m == 94 then (if is_size c.before then nothing_special else operator_caret)
    else (if (m == 58) && is_first_name c.place then label_colon else nothing_special)
before_after c (Number n) text = nothing_special
before_after c Text text = nothing_special

-- The context after a token of this kind and text.
abbrev pub context_after : Dialect → Context → TokenKind → List ℕ → Context
context_after d c kind text = record { place = place_after d c kind text; before = before_after c kind text }

-- A blank parts a name from a `^`, and a colon from a colon, but not `^A` from its text. It ends the first of two texts, and
-- parts a condition's name from its argument, so that no comma behind it does.
abbrev pub context_after_blank : Context → Context
context_after_blank c = record {
  place = elim c.place [ text_argument false true zero ↦ between_arguments | condition_end subject ↦ argument_place subject | place ↦ place ];
  before = if is_text_sign c.before then text_sign else nothing_special;
}

-- A quoted text may begin with this byte: it may stand round one, and a piece is due or `^A` stands before. Behind
-- the first name of a statement a colon makes that name a label.
abbrev pub piece_due : Place → ℕ → Bool
piece_due text_piece b = true
piece_due (first_name text_directive) b = not (b == 58)
piece_due _ b = false

abbrev pub text_due : Context → ℕ → Bool
text_due c b = is_delimiter b && (is_text_sign c.before || piece_due c.place b)

-- at the start of a line
abbrev pub line_start : Context
line_start = record { place = statement; before = nothing_special }

-- how many brackets are open at a place
abbrev pub open_brackets : Place → ℕ
open_brackets (bracketed_piece depth) = depth
open_brackets (expression_rest depth) = depth
open_brackets (text_argument last begun depth) = depth
open_brackets _ = 0
