use Rattle.std.proofs.Common.{ap, sym, ◌∙◌}
use Rattle.std.specs.Prelude.{option_map}
use Rattle.vax_lex.specs.Nesting.{applied, innermost_first}
use Rattle.vax_lex.specs.Views.{operation_view}
use Rattle.vax_lex.proofs.Opened.{closes_sign, closes_bracket, closes_nothing, closes_operator}
use Rattle.vax_lex.proofs.nesting.close.Goals as goal

pub loop-opening-preserved-then-not-is_bracket : goal.loop-opening-preserved-then-not-is_bracket
loop-opening-preserved-then-not-is_bracket g c =
    closes_sign (g.N.Names.meaning c.args.names.now) c.args.tokens.now (innermost_first c.args.stack.now) c.args.read (innermost_first c.loop-opening.stack)
    (innermost_first c.pop.new.stack) c.in-Some.opening c.loop-opening.read c.applied-answer.result
    c.loop-opening.invariant c.in-Some.ensures.last (sym c.is_bracket.ensures ∙ c.if-not-is_bracket.true)
    (c.applied-answer.ensures ∙ ap (λ d. applied d c.in-Some.opening c.loop-opening.read.answer) c.dialect.ensures)

pub returns-in-Some-operator_at : goal.returns-in-Some-operator_at
returns-in-Some-operator_at g c =
    closes_operator (g.N.Names.meaning c.args.names.now) c.args.tokens.now (innermost_first c.args.stack.now) c.args.read
    (innermost_first c.loop-opening.stack) (innermost_first c.pop.new.stack)
    (innermost_first c.push.new.stack) c.in-Some.opening c.loop-opening.read c.applied-answer.result c.in-Some-operator_at.operator
    c.loop-opening.invariant c.in-Some.ensures.last (sym c.is_bracket.ensures ∙ c.if-not-is_bracket.false)
    (c.applied-answer.ensures ∙ ap (λ d. applied d c.in-Some.opening c.loop-opening.read.answer) c.dialect.ensures)
    (sym c.operator_at.ensures.value ∙ ap (option_map operation_view) c.in-Some-operator_at.is) c.push.ensures

pub loop-opening-preserved : goal.loop-opening-preserved
loop-opening-preserved g c =
    closes_bracket (g.N.Names.meaning c.args.names.now) c.args.tokens.now (innermost_first c.args.stack.now) c.args.read
    (innermost_first c.loop-opening.stack) (innermost_first c.pop.new.stack) c.in-Some.opening c.loop-opening.read c.applied-answer.result
    c.loop-opening.invariant c.in-Some.ensures.last (sym c.is_bracket.ensures ∙ c.if-not-is_bracket.false)
    (c.applied-answer.ensures ∙ ap (λ d. applied d c.in-Some.opening c.loop-opening.read.answer) c.dialect.ensures)
    (sym c.operator_at.ensures.value ∙ ap (option_map operation_view) c.in_default-operator_at.is) (sym c.is_mark_at.ensures.value ∙ c.if-is_mark_at.true)

pub returns-else-is_mark_at : goal.returns-else-is_mark_at
returns-else-is_mark_at g c =
    closes_nothing (g.N.Names.meaning c.args.names.now) c.args.tokens.now (innermost_first c.args.stack.now) c.args.read
    (innermost_first c.loop-opening.stack) (innermost_first c.pop.new.stack) c.in-Some.opening c.loop-opening.read c.applied-answer.result
    c.loop-opening.invariant c.in-Some.ensures.last (sym c.is_bracket.ensures ∙ c.if-not-is_bracket.false)
    (c.applied-answer.ensures ∙ ap (λ d. applied d c.in-Some.opening c.loop-opening.read.answer) c.dialect.ensures)
    (sym c.operator_at.ensures.value ∙ ap (option_map operation_view) c.in_default-operator_at.is) (sym c.is_mark_at.ensures.value ∙ c.if-is_mark_at.false)
