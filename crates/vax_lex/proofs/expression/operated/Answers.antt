use Rattle.std.proofs.Common.{refl, arith, sym, subst, ◌∙◌, ◌+◌}
use Rattle.vax_dialect.specs.declared.Dialect.{Dialect}
use Rattle.vax_lex.specs.Grammar.{symbols_of}
use Rattle.vax_lex.specs.Reading.{ReadsSingleMask}
use Rattle.vax_lex.proofs.Symbols.{length-symbols, token_within, mark_stands, spelled_stands, word_yes, word_no}
use Rattle.vax_lex.proofs.Parsing.{name_stands, quoted_read, mask_read, single_mask_read, no_letter, no_letter_kind, no_letter_other}
use Rattle.vax_lex.proofs.expression.operated.Goals as goal

pub returns-in_default : goal.returns-in_default
returns-in_default g c = no_letter c.args.line.now c.args.tokens.now (g.N.Names.meaning c.args.names.now) c.args.at (mark_stands c.args.line.now c.args.tokens.now c.args.at 94 c.requires.caret) (sym c.token_at.ensures.value ∙ c.in_default.is)

pub returns-in_default-kind : goal.returns-in_default-kind
returns-in_default-kind g c = no_letter_kind c.args.line.now c.args.tokens.now (g.N.Names.meaning c.args.names.now) c.args.at c.in-Some.token (mark_stands c.args.line.now c.args.tokens.now c.args.at 94 c.requires.caret) (sym c.token_at.ensures.value ∙ c.in-Some.is) c.in_default-kind.not-Name

pub name_of-name-requires-clause-within : goal.name_of-name-requires-clause-within
name_of-name-requires-clause-within g c = token_within c.args.line.now c.args.tokens.now (c.args.at + 1) c.in-Some.token c.requires.tokens (sym c.token_at.ensures.value ∙ c.in-Some.is)

pub returns-then-is_word : goal.returns-then-is_word
returns-then-is_word g c =
    let letter = spelled_stands c.args.line.now c.args.tokens.now (c.args.at + 1) _ _ (name_stands c.args.line.now c.args.tokens.now (c.args.at + 1) c.in-Some.token (sym c.token_at.ensures.value ∙ c.in-Some.is) c.in-Name.is) (sym (c.as_bytes.ensures ∙ c.name_of-name.ensures) ∙ (word_yes c.is_word.result _ _ c.is_word.ensures.is c.if-is_word.true)) in
    (((mark_stands c.args.line.now c.args.tokens.now c.args.at 94 c.requires.caret).is, letter.is, refl), omega (arith, length-symbols c.args.line.now c.args.tokens.now, letter.room))

pub returns-then-is_word-2 : goal.returns-then-is_word-2
returns-then-is_word-2 g c = quoted_read c.args.line.now c.args.tokens.now (g.N.Names.meaning c.args.names.now) c.args.at c.quoted_at.result (mark_stands c.args.line.now c.args.tokens.now c.args.at 94 c.requires.caret) (spelled_stands c.args.line.now c.args.tokens.now (c.args.at + 1) _ _ (name_stands c.args.line.now c.args.tokens.now (c.args.at + 1) c.in-Some.token (sym c.token_at.ensures.value ∙ c.in-Some.is) c.in-Name.is) (sym (c.as_bytes-else-is_word.ensures ∙ c.name_of-name.ensures) ∙ (word_yes c.is_word-else-is_word.result _ _ c.is_word-else-is_word.ensures.is c.if-is_word-2.true))) c.quoted_at.ensures

pub returns-then-is_mark_at : goal.returns-then-is_mark_at
returns-then-is_mark_at g c = mask_read c.args.line.now c.args.tokens.now (g.N.Names.meaning c.args.names.now) c.args.at c.mask_at.result (mark_stands c.args.line.now c.args.tokens.now c.args.at 94 c.requires.caret) (spelled_stands c.args.line.now c.args.tokens.now (c.args.at + 1) _ _ (name_stands c.args.line.now c.args.tokens.now (c.args.at + 1) c.in-Some.token (sym c.token_at.ensures.value ∙ c.in-Some.is) c.in-Name.is) (sym (c.as_bytes-else-is_word-2.ensures ∙ c.name_of-name.ensures) ∙ (word_yes c.is_word-else-is_word-2.result _ _ c.is_word-else-is_word-2.ensures.is c.if-is_word-3.true))) (mark_stands c.args.line.now c.args.tokens.now (c.args.at + 2) 60 (sym c.is_mark_at.ensures.value ∙ c.if-is_mark_at.true)) c.mask_at.ensures

pub returns-else-is_mark_at : goal.returns-else-is_mark_at
returns-else-is_mark_at g c = single_mask_read c.args.line.now c.args.tokens.now (g.N.Names.meaning c.args.names.now) c.args.at c.single_mask_at.result (mark_stands c.args.line.now c.args.tokens.now c.args.at 94 c.requires.caret) (spelled_stands c.args.line.now c.args.tokens.now (c.args.at + 1) _ _ (name_stands c.args.line.now c.args.tokens.now (c.args.at + 1) c.in-Some.token (sym c.token_at.ensures.value ∙ c.in-Some.is) c.in-Name.is) (sym (c.as_bytes-else-is_word-2.ensures ∙ c.name_of-name.ensures) ∙ (word_yes c.is_word-else-is_word-2.result _ _ c.is_word-else-is_word-2.ensures.is c.if-is_word-3.true))) (sym c.is_mark_at.ensures.value ∙ c.if-is_mark_at.false) (let P : Dialect → Type 0 = λ d. ReadsSingleMask d (symbols_of c.args.line.now c.args.tokens.now) (c.args.at + 2) c.single_mask_at.result in subst P c.dialect.ensures c.single_mask_at.ensures)

pub returns-else-is_word-3 : goal.returns-else-is_word-3
returns-else-is_word-3 g c = no_letter_other c.args.line.now c.args.tokens.now (g.N.Names.meaning c.args.names.now) c.args.at _ (mark_stands c.args.line.now c.args.tokens.now c.args.at 94 c.requires.caret) (name_stands c.args.line.now c.args.tokens.now (c.args.at + 1) c.in-Some.token (sym c.token_at.ensures.value ∙ c.in-Some.is) c.in-Name.is) (λ e. (word_no c.is_word.result _ _ c.is_word.ensures.is c.if-is_word.false) (c.as_bytes.ensures ∙ c.name_of-name.ensures ∙ e)) (λ e. (word_no c.is_word-else-is_word.result _ _ c.is_word-else-is_word.ensures.is c.if-is_word-2.false) (c.as_bytes-else-is_word.ensures ∙ c.name_of-name.ensures ∙ e)) (λ e. (word_no c.is_word-else-is_word-2.result _ _ c.is_word-else-is_word-2.ensures.is c.if-is_word-3.false) (c.as_bytes-else-is_word-2.ensures ∙ c.name_of-name.ensures ∙ e))
