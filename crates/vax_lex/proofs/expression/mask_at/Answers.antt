use Rattle.std.proofs.Common.{sym, ◌∙◌, ◌+◌}
use Rattle.vax_lex.proofs.Symbols.{mark_stands}
use Rattle.vax_lex.proofs.Parsing.{mask_empty, mask_some, no_mask}
use Rattle.vax_lex.proofs.expression.mask_at.Goals as goal

pub returns-then-not-is_mark_at : goal.returns-then-not-is_mark_at
returns-then-not-is_mark_at c = no_mask c.args.line.now c.args.tokens.now c.args.at (sym c.is_mark_at.ensures.value ∙ c.if-not-is_mark_at.true)

pub returns-then-is_mark_at : goal.returns-then-is_mark_at
returns-then-is_mark_at c =
    mask_empty c.args.line.now c.args.tokens.now c.args.at c.mask_outcome.result
    (mark_stands c.args.line.now c.args.tokens.now c.args.at 60 (sym c.is_mark_at.ensures.value ∙ c.if-not-is_mark_at.false))
    (mark_stands c.args.line.now c.args.tokens.now (c.args.at + 1) 62 (sym c.is_mark_at-else-not-is_mark_at.ensures.value ∙ c.if-is_mark_at.true))
    c.mask_outcome.ensures

pub returns-else-is_mark_at : goal.returns-else-is_mark_at
returns-else-is_mark_at c =
    mask_some c.args.line.now c.args.tokens.now c.args.at c.names_from.result
    (mark_stands c.args.line.now c.args.tokens.now c.args.at 60 (sym c.is_mark_at.ensures.value ∙ c.if-not-is_mark_at.false))
    (sym c.is_mark_at-else-not-is_mark_at.ensures.value ∙ c.if-is_mark_at.false)
    c.names_from.ensures
