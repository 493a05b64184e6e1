-- The names of a text, wherever they stand: also in quoted texts and in the comment (VAX MACRO and Instruction Set
-- Reference Manual, "Macro arguments").
use Rattle.std.specs.Prelude.{ℕ, zero, suc, ◌+◌, ◌-◌, Bool, false, ◌&&◌, ◌==◌, List, [], ◌∷◌, take, slice_index, if◌then◌else◌}
use Rattle.vax_dialect.specs.declared.Dialect.TheVariants.{Vax}
use Rattle.vax_lex.specs.Statements.{Context, operands, nothing_special, is_caret, is_size, is_name, context_after, context_after_blank}
use Rattle.vax_lex.specs.Tokens.{Head, blank, no_more, begins, too_wide, no_token, plain, stray_kind}
use Rattle.vax_lex.specs.declared.token.Span.{Span}
use Rattle.vax_lex.specs.declared.token.TokenKind.TheVariants.{Name, Number, Mark}

-- What the bytes begin with where no quoted text begins anywhere.
unfoldable pub word_of : Context → List ℕ → Head
word_of c [] = no_more
word_of c (b ∷ bytes) =
    if is_caret c.before then begins Name 1
    else (if is_size c.before && (b == 94) then begins (Mark 94) 1
    else plain (b ∷ bytes))

-- A word: its length, whether it is a name, and the context behind it. No statement begins in such a text, so its dialect doesn't
-- matter.
pub record Word : Type 0 where
  pub length : ℕ
  pub is_name : Bool
  pub context : Context

-- the word that these bytes begin with, where this is at their head
abbrev pub word_at : Context → List ℕ → Head → Word
word_at c bytes blank = record { length = 1; is_name = false; context = context_after_blank c }
word_at c bytes no_more = record { length = 1; is_name = false; context = context_after Vax c (stray_kind (slice_index bytes 0)) (take 1 bytes) }
word_at c bytes (begins kind n) = record { length = n; is_name = is_name kind; context = context_after Vax c kind (take n bytes) }
word_at c bytes (too_wide n) = record { length = n; is_name = false; context = context_after Vax c (Number 0) (take n bytes) }
word_at c bytes no_token = record { length = 1; is_name = false; context = context_after Vax c (stray_kind (slice_index bytes 0)) (take 1 bytes) }

abbrev pub word : Context → List ℕ → Word
word c bytes = word_at c bytes (word_of c bytes)

abbrev pub with_name : Word → ℕ → List Span → List Span
with_name w at spans = if w.is_name then record { start = at; end = at + w.length } ∷ spans else spans

-- The names from byte `at` on, where the first bytes to come may still be those of the word before.
unfoldable pub names_from : Context → ℕ → ℕ → List ℕ → List Span
names_from c at inside [] = []
names_from c at (suc inside) (b ∷ bytes) = names_from c (at + 1) inside bytes
names_from c at zero (b ∷ bytes) = with_name (word c (b ∷ bytes)) at (names_from (word c (b ∷ bytes)).context (at + 1) ((word c (b ∷ bytes)).length - 1) bytes)

-- at the start of a text that is no statement
abbrev pub text_start : Context
text_start = record { place = operands; before = nothing_special }

unfoldable pub names_of : List ℕ → List Span
names_of text = names_from text_start 0 zero text
