use Rattle.std.proofs.Common.{subst, Option}
use Rattle.vax_lex.specs.Grammar.{symbols_of}
use Rattle.vax_lex.specs.Reading.{ReadsExpression}
use Rattle.vax_lex.specs.declared.expression.Read.{Read}
use Rattle.vax_lex.proofs.Reader.{evaluates_at}
use Rattle.vax_lex.proofs.Parsing.{whole_read, not_whole, not_read, only_reading}
use Rattle.vax_lex.proofs.expression.evaluate.Goals as goal

pub returns-in_default-clause-exact : goal.returns-in_default-clause-exact
returns-in_default-clause-exact g c = (not_read c.args.line.now c.args.tokens.now (g.N.Names.meaning c.args.names.now) (let P : Option Read → Type 0 = λ r. ReadsExpression (g.N.Names.meaning c.args.names.now) (symbols_of c.args.line.now c.args.tokens.now) 0 r in subst P c.in_default.is c.expression.ensures))

pub returns-in_default-clause-only : goal.returns-in_default-clause-only
returns-in_default-clause-only g c = only_reading c.args.line.now c.args.tokens.now (g.N.Names.meaning c.args.names.now) _ (not_read c.args.line.now c.args.tokens.now (g.N.Names.meaning c.args.names.now) (let P : Option Read → Type 0 = λ r. ReadsExpression (g.N.Names.meaning c.args.names.now) (symbols_of c.args.line.now c.args.tokens.now) 0 r in subst P c.in_default.is c.expression.ensures))

pub returns-then-read-tokens-clause-exact : goal.returns-then-read-tokens-clause-exact
returns-then-read-tokens-clause-exact g c = (whole_read c.args.line.now c.args.tokens.now (g.N.Names.meaning c.args.names.now) c.in-Some.read (let P : Option Read → Type 0 = λ r. ReadsExpression (g.N.Names.meaning c.args.names.now) (symbols_of c.args.line.now c.args.tokens.now) 0 r in subst P c.in-Some.is c.expression.ensures) c.if-read-tokens.true)

pub returns-then-read-tokens-clause-only : goal.returns-then-read-tokens-clause-only
returns-then-read-tokens-clause-only g c = only_reading c.args.line.now c.args.tokens.now (g.N.Names.meaning c.args.names.now) _ (whole_read c.args.line.now c.args.tokens.now (g.N.Names.meaning c.args.names.now) c.in-Some.read (let P : Option Read → Type 0 = λ r. ReadsExpression (g.N.Names.meaning c.args.names.now) (symbols_of c.args.line.now c.args.tokens.now) 0 r in subst P c.in-Some.is c.expression.ensures) c.if-read-tokens.true)

pub returns-else-read-tokens-clause-exact : goal.returns-else-read-tokens-clause-exact
returns-else-read-tokens-clause-exact g c = (not_whole c.args.line.now c.args.tokens.now (g.N.Names.meaning c.args.names.now) c.in-Some.read (let P : Option Read → Type 0 = λ r. ReadsExpression (g.N.Names.meaning c.args.names.now) (symbols_of c.args.line.now c.args.tokens.now) 0 r in subst P c.in-Some.is c.expression.ensures) c.if-read-tokens.false)

pub returns-else-read-tokens-clause-only : goal.returns-else-read-tokens-clause-only
returns-else-read-tokens-clause-only g c = only_reading c.args.line.now c.args.tokens.now (g.N.Names.meaning c.args.names.now) _ (not_whole c.args.line.now c.args.tokens.now (g.N.Names.meaning c.args.names.now) c.in-Some.read (let P : Option Read → Type 0 = λ r. ReadsExpression (g.N.Names.meaning c.args.names.now) (symbols_of c.args.line.now c.args.tokens.now) 0 r in subst P c.in-Some.is c.expression.ensures) c.if-read-tokens.false)

pub returns-in_default-clause-value : goal.returns-in_default-clause-value
returns-in_default-clause-value g c = evaluates_at (g.N.Names.meaning c.args.names.now) (symbols_of c.args.line.now c.args.tokens.now) _ (not_read c.args.line.now c.args.tokens.now (g.N.Names.meaning c.args.names.now) (let P : Option Read → Type 0 = λ r. ReadsExpression (g.N.Names.meaning c.args.names.now) (symbols_of c.args.line.now c.args.tokens.now) 0 r in subst P c.in_default.is c.expression.ensures))

pub returns-then-read-tokens-clause-value : goal.returns-then-read-tokens-clause-value
returns-then-read-tokens-clause-value g c = evaluates_at (g.N.Names.meaning c.args.names.now) (symbols_of c.args.line.now c.args.tokens.now) _ (whole_read c.args.line.now c.args.tokens.now (g.N.Names.meaning c.args.names.now) c.in-Some.read (let P : Option Read → Type 0 = λ r. ReadsExpression (g.N.Names.meaning c.args.names.now) (symbols_of c.args.line.now c.args.tokens.now) 0 r in subst P c.in-Some.is c.expression.ensures) c.if-read-tokens.true)

pub returns-else-read-tokens-clause-value : goal.returns-else-read-tokens-clause-value
returns-else-read-tokens-clause-value g c = evaluates_at (g.N.Names.meaning c.args.names.now) (symbols_of c.args.line.now c.args.tokens.now) _ (not_whole c.args.line.now c.args.tokens.now (g.N.Names.meaning c.args.names.now) c.in-Some.read (let P : Option Read → Type 0 = λ r. ReadsExpression (g.N.Names.meaning c.args.names.now) (symbols_of c.args.line.now c.args.tokens.now) 0 r in subst P c.in-Some.is c.expression.ensures) c.if-read-tokens.false)
