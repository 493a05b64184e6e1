use Rattle.std.proofs.Common.{◌∙◌, Option, ap, subst}
use Rattle.vax_lex.specs.Certain.{is_zero}
use Rattle.vax_lex.specs.Grammar.{symbols_of}
use Rattle.vax_lex.specs.Reading.{ReadsTerm}
use Rattle.vax_lex.specs.Values.{fitted}
use Rattle.vax_lex.specs.declared.expression.Read.{Read}
use Rattle.vax_lex.proofs.Dividing.{term_found, no_term_found}
use Rattle.vax_lex.proofs.certain.is_zero_at.Goals as goal

pub returns-in-Some : goal.returns-in-Some
returns-in-Some g c =
    let names = g.N.Names.meaning c.args.names.now in
    let P : Option Read → Type 0 = λ r. ReadsTerm names (symbols_of c.args.line.now c.args.tokens.now) c.args.at r in
    c.is_zero.ensures ∙ ap is_zero (c.fitted.ensures ∙ ap (λ d. fitted d c.in-Some.read.answer) c.dialect.ensures) ∙ term_found c.args.line.now c.args.tokens.now names c.args.at c.in-Some.read (subst P c.in-Some.is c.term.ensures)

pub returns-in-None : goal.returns-in-None
returns-in-None g c =
    let names = g.N.Names.meaning c.args.names.now in
    let P : Option Read → Type 0 = λ r. ReadsTerm names (symbols_of c.args.line.now c.args.tokens.now) c.args.at r in
    no_term_found c.args.line.now c.args.tokens.now names c.args.at (subst P c.in-None.is c.term.ensures)
