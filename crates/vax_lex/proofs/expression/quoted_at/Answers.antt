use Rattle.std.proofs.Common.{sym, ap, ◌∙◌}
use Rattle.vax_lex.specs.Values.{characters_value}
use Rattle.vax_lex.proofs.Parsing.{text_read, no_text_nothing, no_text_kind}
use Rattle.vax_lex.proofs.expression.quoted_at.Goals as goal

pub returns-in_default : goal.returns-in_default
returns-in_default c = no_text_nothing c.args.line.now c.args.tokens.now c.args.at (sym c.token_at.ensures.value ∙ c.in_default.is)

pub returns-in_default-kind : goal.returns-in_default-kind
returns-in_default-kind c = no_text_kind c.args.line.now c.args.tokens.now c.args.at c.in-Some.token (sym c.token_at.ensures.value ∙ c.in-Some.is) c.in_default-kind.not-Text

pub returns-in-Text : goal.returns-in-Text
returns-in-Text c = text_read c.args.line.now c.args.tokens.now c.args.at c.in-Some.token c.characters_value.result (sym c.token_at.ensures.value ∙ c.in-Some.is) c.in-Text.is
    (c.characters_value.ensures ∙ ap characters_value c.characters_of.ensures)
