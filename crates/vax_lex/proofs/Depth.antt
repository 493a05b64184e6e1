-- A token opens at most one bracket.
use Rattle.std.proofs.Common.{◌≡◌, ◌≤◌, ℕ, zero, suc, ◌+◌, ◌-◌, Bool, true, false, not, cond, List, ap, arith}
use Rattle.std.specs.Prelude.{◌&&◌, ◌==◌, nat_le}
use Rattle.vax_dialect.specs.declared.Dialect.{Dialect}
use Rattle.vax_lex.specs.Statements.{Operator, text_directive, immediate_if, other_operator, Subject, on_two_texts, on_text, on_no_text, Place, statement, first_name, behind_label, text_piece, bracketed_piece, condition_name, condition_end, expression_rest, text_argument, between_arguments, operands, Before, Context, open_brackets, context_after, context_after_blank, place_after, operand_after, operand_place, argument_after, argument_place, expression_after, begun_after, subject_of, operator_of, is_mark, is_name, is_text, is_colon}
use Rattle.vax_lex.specs.declared.token.TokenKind.{TokenKind}

deep_if : (t : Bool) (x y : Place) (n : ℕ) → open_brackets x ≤ n → open_brackets y ≤ n → open_brackets (cond t x y) ≤ n
deep_if true x y n f g = f
deep_if false x y n f g = g

argument_place_depth : (s : Subject) → open_brackets (argument_place s) ≤ 0
argument_place_depth on_two_texts = omega arith
argument_place_depth on_text = omega arith
argument_place_depth on_no_text = omega arith

expression_depth : (depth : ℕ) (kind : TokenKind) → open_brackets (expression_after depth kind) ≤ depth + 1
expression_depth depth kind =
    deep_if (is_mark 60 kind) (expression_rest (depth + 1)) _ (depth + 1) (omega arith)
    (deep_if (is_mark 62 kind) (expression_rest (depth - 1)) _ (depth + 1) (omega arith)
    (deep_if (is_mark 44 kind && (depth == 0)) statement (expression_rest depth) (depth + 1) (omega arith) (omega arith)))

argument_depth : (last begun : Bool) (depth : ℕ) (kind : TokenKind) → open_brackets (argument_after last begun depth kind) ≤ depth + 1
argument_depth last begun zero kind =
    deep_if (is_mark 44 kind) _ _ 1 (deep_if last statement (text_argument true false 0) 1 (omega arith) (omega arith))
    (deep_if (is_mark 60 kind && not begun) (text_argument last true 1) (text_argument last true 0) 1 (omega arith) (omega arith))
argument_depth last begun (suc depth) kind =
    deep_if (is_mark 60 kind) (text_argument last true (suc depth + 1)) _ (suc depth + 1) (omega arith)
    (deep_if (is_mark 62 kind) (text_argument last true depth) (text_argument last true (suc depth)) (suc depth + 1) (omega arith) (omega arith))

begun_depth : (s : Subject) (kind : TokenKind) → open_brackets (begun_after s kind) ≤ 1
begun_depth on_two_texts kind = argument_depth false false 0 kind
begun_depth on_text kind = argument_depth true false 0 kind
begun_depth on_no_text kind = expression_depth 0 kind

operand_depth : (p : Place) (kind : TokenKind) (text : List ℕ) → open_brackets (operand_after p kind text) ≤ open_brackets p + 1
operand_depth statement kind text = omega arith
operand_depth (first_name operator) kind text = omega arith
operand_depth behind_label kind text = omega arith
operand_depth text_piece kind text = deep_if (is_text kind) text_piece _ 1 (omega arith) (deep_if (is_mark 60 kind) (bracketed_piece 1) operands 1 (omega arith) (omega arith))
operand_depth (bracketed_piece depth) kind text =
    deep_if (is_mark 60 kind) (bracketed_piece (depth + 1)) _ (depth + 1) (omega arith)
    (deep_if (is_mark 62 kind) _ (bracketed_piece depth) (depth + 1) (deep_if (nat_le depth 1) text_piece (bracketed_piece (depth - 1)) (depth + 1) (omega arith) (omega arith)) (omega arith))
operand_depth condition_name kind text = deep_if (is_name kind) (condition_end (subject_of text)) operands 1 (omega arith) (omega arith)
operand_depth (condition_end subject) kind text = deep_if (is_mark 44 kind) (argument_place subject) _ 1 (omega (arith, argument_place_depth subject)) (begun_depth subject kind)
operand_depth (expression_rest depth) kind text = expression_depth depth kind
operand_depth (text_argument last begun depth) kind text = argument_depth last begun depth kind
operand_depth between_arguments kind text = deep_if (is_mark 44 kind) (text_argument true false 0) _ 1 (omega arith) (argument_depth true false 0 kind)
operand_depth operands kind text = omega arith

operator_depth : (o : Operator) → open_brackets (operand_place o) ≤ 0
operator_depth text_directive = omega arith
operator_depth immediate_if = omega arith
operator_depth other_operator = omega arith

behind_operator : (o : Operator) (kind : TokenKind) (text : List ℕ) → open_brackets (operand_after (operand_place o) kind text) ≤ 1
behind_operator o kind text = omega (arith, operator_depth o, operand_depth (operand_place o) kind text)

module _ (dialect : Dialect) where
  place_depth : (p : Place) (b : Before) (kind : TokenKind) (text : List ℕ) → open_brackets (place_after dialect (record { place = p; before = b }) kind text) ≤ open_brackets p + 1
  place_depth statement b kind text = deep_if (is_name kind) (first_name (operator_of dialect text)) operands 1 (omega arith) (omega arith)
  place_depth (first_name operator) b kind text = deep_if (is_mark 58 kind) behind_label _ 1 (omega arith) (behind_operator operator kind text)
  place_depth behind_label b kind text =
      deep_if (is_name kind) (operand_place (operator_of dialect text)) _ 1 (omega (arith, operator_depth (operator_of dialect text)))
      (deep_if (is_mark 58 kind && is_colon b) behind_label operands 1 (omega arith) (omega arith))
  place_depth text_piece b kind text = operand_depth text_piece kind text
  place_depth (bracketed_piece depth) b kind text = operand_depth (bracketed_piece depth) kind text
  place_depth condition_name b kind text = operand_depth condition_name kind text
  place_depth (condition_end subject) b kind text = operand_depth (condition_end subject) kind text
  place_depth (expression_rest depth) b kind text = operand_depth (expression_rest depth) kind text
  place_depth (text_argument last begun depth) b kind text = operand_depth (text_argument last begun depth) kind text
  place_depth between_arguments b kind text = operand_depth between_arguments kind text
  place_depth operands b kind text = operand_depth operands kind text

  pub depth_after : (c next : Context) (kind : TokenKind) (text : List ℕ) → next ≡ context_after dialect c kind text → open_brackets next.place ≤ open_brackets c.place + 1
  depth_after c next kind text e = omega (arith, ap (λ (x : Context). open_brackets x.place) e, place_depth c.place c.before kind text)

blank_depth : (p : Place) (b : Before) → open_brackets (context_after_blank (record { place = p; before = b })).place ≤ open_brackets p
blank_depth statement b = omega arith
blank_depth (first_name operator) b = omega arith
blank_depth behind_label b = omega arith
blank_depth text_piece b = omega arith
blank_depth (bracketed_piece depth) b = omega arith
blank_depth condition_name b = omega arith
blank_depth (condition_end subject) b = argument_place_depth subject
blank_depth (expression_rest depth) b = omega arith
blank_depth (text_argument true begun depth) b = omega arith
blank_depth (text_argument false false depth) b = omega arith
blank_depth (text_argument false true zero) b = omega arith
blank_depth (text_argument false true (suc depth)) b = omega arith
blank_depth between_arguments b = omega arith
blank_depth operands b = omega arith

pub depth_after_blank : (c next : Context) → next ≡ context_after_blank c → open_brackets next.place ≤ open_brackets c.place
depth_after_blank c next e = omega (arith, ap (λ (x : Context). open_brackets x.place) e, blank_depth c.place c.before)
