use Rattle.std.proofs.Common.{sym, ap, subst, ◌∙◌, ◌+◌, ℕ, Option, Some, None}
use Rattle.vax_lex.specs.Grammar.{with_bit, mask_outcome, symbols_of}
use Rattle.vax_lex.specs.Reading.{ReadsNames}
use Rattle.vax_lex.specs.Values.{mask_bit}
use Rattle.vax_lex.proofs.Symbols.{token_within, mark_stands}
use Rattle.vax_lex.proofs.Parsing.{name_stands, names_end, names_more, no_names_nothing, no_names_kind, no_names_else}
use Rattle.vax_lex.proofs.expression.names_from.Goals as goal

pub returns-in_default : goal.returns-in_default
returns-in_default c =
    c.loop-token.invariant None
    (no_names_nothing c.args.line.now c.args.tokens.now c.loop-token.mask c.loop-token.at (sym c.token_at.ensures.value ∙ c.in_default.is))

pub returns-in_default-kind : goal.returns-in_default-kind
returns-in_default-kind c =
    c.loop-token.invariant None
    (no_names_kind c.args.line.now c.args.tokens.now c.loop-token.mask c.loop-token.at c.in-Some.token
    (sym c.token_at.ensures.value ∙ c.in-Some.is) c.in_default-kind.not-Name)

pub name_of-name-requires-clause-within : goal.name_of-name-requires-clause-within
name_of-name-requires-clause-within c =
    token_within c.args.line.now c.args.tokens.now c.loop-token.at c.in-Some.token c.requires (sym c.token_at.ensures.value ∙ c.in-Some.is)

pub returns-then-is_mark_at : goal.returns-then-is_mark_at
returns-then-is_mark_at c =
    let bits =
    c.with_bit-mask.ensures ∙ ap (with_bit c.loop-token.mask) (c.mask_bit.ensures.value ∙ ap mask_bit (c.as_bytes.ensures ∙ c.name_of-name.ensures)) in
    c.loop-token.invariant (Some (record { answer = c.mask_outcome.result; end = c.loop-token.at + 2 }))
    (names_end c.args.line.now c.args.tokens.now c.loop-token.mask c.loop-token.at _ c.mask_outcome.result
    (name_stands c.args.line.now c.args.tokens.now c.loop-token.at c.in-Some.token (sym c.token_at.ensures.value ∙ c.in-Some.is) c.in-Name.is)
    (mark_stands c.args.line.now c.args.tokens.now (c.loop-token.at + 1) 62 (sym c.is_mark_at.ensures.value ∙ c.if-is_mark_at.true))
    (c.mask_outcome.ensures ∙ ap mask_outcome bits))

pub returns-then-not-is_mark_at : goal.returns-then-not-is_mark_at
returns-then-not-is_mark_at c =
    c.loop-token.invariant None
    (no_names_else c.args.line.now c.args.tokens.now c.loop-token.mask c.loop-token.at _
    (name_stands c.args.line.now c.args.tokens.now c.loop-token.at c.in-Some.token (sym c.token_at.ensures.value ∙ c.in-Some.is) c.in-Name.is)
    (sym c.is_mark_at-in-loop-token.ensures.value ∙ c.if-not-is_mark_at.true)
    (sym c.is_mark_at.ensures.value ∙ c.if-is_mark_at.false))

pub loop-token-preserved : goal.loop-token-preserved
loop-token-preserved c r reads =
    let bits =
    c.with_bit-mask.ensures ∙ ap (with_bit c.loop-token.mask) (c.mask_bit.ensures.value ∙ ap mask_bit (c.as_bytes.ensures ∙ c.name_of-name.ensures)) in
    let P : Option ℕ → Type 0 = λ b. ReadsNames b (symbols_of c.args.line.now c.args.tokens.now) (c.loop-token.at + 2) r in
    c.loop-token.invariant r
    (names_more c.args.line.now c.args.tokens.now c.loop-token.mask c.loop-token.at _ r
    (name_stands c.args.line.now c.args.tokens.now c.loop-token.at c.in-Some.token (sym c.token_at.ensures.value ∙ c.in-Some.is) c.in-Name.is)
    (mark_stands c.args.line.now c.args.tokens.now (c.loop-token.at + 1) 44 (sym c.is_mark_at-in-loop-token.ensures.value ∙ c.if-not-is_mark_at.false))
    (subst P bits reads))
