use Rattle.std.proofs.Common.{sym, ap, ◌∙◌}
use Rattle.vax_lex.specs.Values.{named}
use Rattle.vax_lex.proofs.Symbols.{token_within, number_stands}
use Rattle.vax_lex.proofs.Parsing.{name_stands, constant_read, named_read, no_term_nothing, no_term_other, begins_term}
use Rattle.vax_lex.proofs.expression.begun.Goals as goal

pub returns-in_default : goal.returns-in_default
returns-in_default g c = no_term_nothing c.args.line.now c.args.tokens.now (g.N.Names.meaning c.args.names.now) c.args.at (sym c.token_at.ensures.value ∙ c.in_default.is)

pub name_of-name-requires-clause-within : goal.name_of-name-requires-clause-within
name_of-name-requires-clause-within g c = token_within c.args.line.now c.args.tokens.now c.args.at c.in-Some.token c.requires (sym c.token_at.ensures.value ∙ c.in-Some.is)

pub returns-in-Number : goal.returns-in-Number
returns-in-Number g c = constant_read c.args.line.now c.args.tokens.now (g.N.Names.meaning c.args.names.now) c.args.at c.in-Number.number c.constant.result (number_stands c.args.line.now c.args.tokens.now c.args.at c.in-Some.token c.in-Number.number (sym c.token_at.ensures.value ∙ c.in-Some.is) c.in-Number.is) c.constant.ensures

pub returns-in-Name : goal.returns-in-Name
returns-in-Name g c = named_read c.args.line.now c.args.tokens.now (g.N.Names.meaning c.args.names.now) c.args.at _ c.named.result (name_stands c.args.line.now c.args.tokens.now c.args.at c.in-Some.token (sym c.token_at.ensures.value ∙ c.in-Some.is) c.in-Name.is) (c.named.ensures ∙ ap (named (g.N.Names.meaning c.args.names.now)) (c.as_bytes.ensures ∙ c.name_of-name.ensures))

pub returns-in-Text : goal.returns-in-Text
returns-in-Text g c = no_term_other c.args.line.now c.args.tokens.now (g.N.Names.meaning c.args.names.now) c.args.at c.in-Some.token (sym c.token_at.ensures.value ∙ c.in-Some.is) (ap begins_term c.in-Text.is)
