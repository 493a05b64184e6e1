use Rattle.std.proofs.Common.{sym, ap, subst, ◌∙◌, ◌+◌, Option}
use Rattle.std.specs.Prelude.{option_map}
use Rattle.vax_lex.specs.Views.{operation_view}
use Rattle.vax_lex.specs.Grammar.{symbols_of}
use Rattle.vax_lex.specs.Values.{combined}
use Rattle.vax_lex.specs.Reading.{ReadsTerm}
use Rattle.vax_lex.specs.declared.expression.Read.{Read}
use Rattle.vax_lex.proofs.Symbols.{operator_stands}
use Rattle.vax_lex.proofs.Parsing.{so_far_begin, so_far_more, so_far_none, so_far_end}
use Rattle.vax_lex.proofs.expression.expression.Goals as goal

pub loop-operator-init : goal.loop-operator-init
loop-operator-init g c = so_far_begin c.args.line.now c.args.tokens.now (g.N.Names.meaning c.args.names.now) c.args.at c.in-Some.first (let P : Option Read → Type 0 = λ r. ReadsTerm (g.N.Names.meaning c.args.names.now) (symbols_of c.args.line.now c.args.tokens.now) c.args.at r in subst P c.in-Some.is c.term.ensures)

pub returns-in_default-term : goal.returns-in_default-term
returns-in_default-term g c = so_far_none c.args.line.now c.args.tokens.now (g.N.Names.meaning c.args.names.now) c.args.at c.loop-operator.end c.loop-operator.answer (operation_view c.in-Some-operator_at.operator) c.loop-operator.invariant (operator_stands c.args.line.now c.args.tokens.now c.loop-operator.end (operation_view c.in-Some-operator_at.operator) (sym c.operator_at.ensures.value ∙ ap (option_map operation_view) c.in-Some-operator_at.is)) (let P : Option Read → Type 0 = λ r. ReadsTerm (g.N.Names.meaning c.args.names.now) (symbols_of c.args.line.now c.args.tokens.now) (c.loop-operator.end + 1) r in subst P c.in_default-term.is c.term-in-Some-operator_at.ensures)

pub loop-operator-preserved : goal.loop-operator-preserved
loop-operator-preserved g c = so_far_more c.args.line.now c.args.tokens.now (g.N.Names.meaning c.args.names.now) c.args.at c.loop-operator.end c.loop-operator.answer c.combined-answer.result (operation_view c.in-Some-operator_at.operator) c.in-Some-term.right c.loop-operator.invariant (operator_stands c.args.line.now c.args.tokens.now c.loop-operator.end (operation_view c.in-Some-operator_at.operator) (sym c.operator_at.ensures.value ∙ ap (option_map operation_view) c.in-Some-operator_at.is)) (let P : Option Read → Type 0 = λ r. ReadsTerm (g.N.Names.meaning c.args.names.now) (symbols_of c.args.line.now c.args.tokens.now) (c.loop-operator.end + 1) r in subst P c.in-Some-term.is c.term-in-Some-operator_at.ensures) (c.combined-answer.ensures ∙ ap (λ d. combined d (operation_view c.in-Some-operator_at.operator) c.loop-operator.answer c.in-Some-term.right.answer) c.dialect.ensures)

pub returns : goal.returns
returns g c = so_far_end c.args.line.now c.args.tokens.now (g.N.Names.meaning c.args.names.now) c.args.at c.loop-operator.end c.loop-operator.answer c.loop-operator.invariant (sym c.operator_at.ensures.value ∙ ap (option_map operation_view) c.in_default-operator_at.is)
