use Rattle.std.proofs.Common.{sym, ap, ◌∙◌}
use Rattle.vax_lex.specs.Grammar.{single_mask_value}
use Rattle.vax_lex.proofs.Symbols.{token_within}
use Rattle.vax_lex.proofs.Parsing.{name_stands, single_mask_some, no_single_mask_nothing, no_single_mask_kind}
use Rattle.vax_lex.proofs.expression.single_mask_at.Goals as goal

pub returns-in_default : goal.returns-in_default
returns-in_default c = no_single_mask_nothing c.args.line.now c.args.tokens.now c.args.dialect c.args.at (sym c.token_at.ensures.value ∙ c.in_default.is)

pub returns-in_default-kind : goal.returns-in_default-kind
returns-in_default-kind c = no_single_mask_kind c.args.line.now c.args.tokens.now c.args.dialect c.args.at c.in-Some.token (sym c.token_at.ensures.value ∙ c.in-Some.is) c.in_default-kind.not-Name

pub name_of-name-requires-clause-within : goal.name_of-name-requires-clause-within
name_of-name-requires-clause-within c = token_within c.args.line.now c.args.tokens.now c.args.at c.in-Some.token c.requires (sym c.token_at.ensures.value ∙ c.in-Some.is)

pub returns-in-Name : goal.returns-in-Name
returns-in-Name c = single_mask_some c.args.line.now c.args.tokens.now c.args.dialect c.args.at _ c.single_mask_value.result (name_stands c.args.line.now c.args.tokens.now c.args.at c.in-Some.token (sym c.token_at.ensures.value ∙ c.in-Some.is) c.in-Name.is)
    (c.single_mask_value.ensures ∙ ap (single_mask_value c.args.dialect) (c.as_bytes.ensures ∙ c.name_of-name.ensures))
