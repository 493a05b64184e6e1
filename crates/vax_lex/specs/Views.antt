-- What the scanner's own types mean.
use Rattle.vax_lex.specs.Statements.{Operator, text_directive, immediate_if, other_operator, Subject, on_two_texts, on_text, on_no_text, Place, statement, first_name, behind_label, text_piece, bracketed_piece, condition_name, condition_end, expression_rest, text_argument, between_arguments, operands, Before, nothing_special, size_letter, operator_caret, text_sign, label_colon, Context}
use Rattle.vax_lex.specs.Tokens.{Head, blank, no_more, begins, too_wide, no_token}
use Rattle.vax_lex.specs.Values.{Operation, addition, subtraction, multiplication, division, arithmetic_shift, logical_and, inclusive_or, exclusive_or}
use Rattle.vax_lex.specs.declared.context.Operator.TheVariants as operators
use Rattle.vax_lex.specs.declared.context.Subject.TheVariants as subjects
use Rattle.vax_lex.specs.declared.context.Place.TheVariants as places
use Rattle.vax_lex.specs.declared.context.Before.TheVariants as befores
use Rattle.vax_lex.specs.declared.head.Head.TheVariants as heads
use Rattle.vax_lex.specs.declared.value.Binary.TheVariants as binaries
use Rattle.vax_lex.specs.declared.context.Operator as code_operator
use Rattle.vax_lex.specs.declared.context.Subject as code_subject
use Rattle.vax_lex.specs.declared.context.Place as code_place
use Rattle.vax_lex.specs.declared.context.Before as code_before
use Rattle.vax_lex.specs.declared.context.Context as code_context
use Rattle.vax_lex.specs.declared.head.Head as code_head
use Rattle.vax_lex.specs.declared.value.Binary as code_binary

abbrev pub operator_view : code_operator.Operator → Operator
operator_view operators.Text = text_directive
operator_view operators.Conditional = immediate_if
operator_view operators.Plain = other_operator

abbrev pub subject_view : code_subject.Subject → Subject
subject_view subjects.TwoTexts = on_two_texts
subject_view subjects.Text = on_text
subject_view subjects.NoText = on_no_text

abbrev pub place_view : code_place.Place → Place
place_view places.Statement = statement
place_view (places.FirstName operator) = first_name (operator_view operator)
place_view places.AfterLabel = behind_label
place_view places.Piece = text_piece
place_view (places.Bracketed depth) = bracketed_piece depth
place_view places.Condition = condition_name
place_view (places.ConditionEnd subject) = condition_end (subject_view subject)
place_view (places.Expression depth) = expression_rest depth
place_view (places.Argument last begun depth) = text_argument last begun depth
place_view places.BetweenArguments = between_arguments
place_view places.Operands = operands

abbrev pub before_view : code_before.Before → Before
before_view befores.Other = nothing_special
before_view befores.SizeLetter = size_letter
before_view befores.Caret = operator_caret
before_view befores.TextSign = text_sign
before_view befores.Colon = label_colon

abbrev pub context_view : code_context.Context → Context
context_view c = record { place = place_view c.place; before = before_view c.before }

abbrev pub head_view : code_head.Head → Head
head_view heads.Blank = blank
head_view heads.End = no_more
head_view (heads.Begins kind bytes) = begins kind bytes
head_view (heads.Wide bytes) = too_wide bytes
head_view heads.Nothing = no_token

abbrev pub operation_view : code_binary.Binary → Operation
operation_view binaries.Add = addition
operation_view binaries.Subtract = subtraction
operation_view binaries.Multiply = multiplication
operation_view binaries.Divide = division
operation_view binaries.Shift = arithmetic_shift
operation_view binaries.And = logical_and
operation_view binaries.Or = inclusive_or
operation_view binaries.ExclusiveOr = exclusive_or
