-- Tokens with one that stands for a mask.
use Rattle.std.proofs.Common.{◌≡◌, ℕ, List, [], ◌∷◌, ◌++◌, All, map}
use Rattle.std.proofs.lemmas.List.{map-append}
use Rattle.std.proofs.lemmas.List.Elements.{All-append, All-cons, All-nil}
use Rattle.vax_lex.specs.Tokens.{IsTokenOf}
use Rattle.vax_lex.specs.declared.token.Token.{Token}
use Rattle.vax_asm_scope.specs.Masks.{or_at, with_mask}
use Rattle.vax_asm_values.specs.View.{meaning_of}
use Rattle.vax_asm_values.specs.declared.types.Meaning.{Meaning}

pub meaning_more : (xs : List Meaning) (m : Meaning) → map meaning_of (xs ++ m ∷ []) ≡ map meaning_of xs ++ meaning_of m ∷ []
meaning_more xs m = map-append meaning_of xs (m ∷ [])

or_within : (line : List ℕ) (t : Token) → IsTokenOf line t → IsTokenOf line (or_at t)
or_within line t h = record { some = h.some; within = h.within; kind = tt }

pub masked_within : (line : List ℕ) (tokens : List Token) (key : Token) → All (IsTokenOf line) tokens → IsTokenOf line key → All (IsTokenOf line) (with_mask tokens key)
masked_within line [] key all h = All-cons (IsTokenOf line) key [] h (All-nil (IsTokenOf line))
masked_within line (t ∷ tokens) key all h =
    All-append (IsTokenOf line) (t ∷ tokens) (or_at key ∷ key ∷ []) all
    (All-cons (IsTokenOf line) (or_at key) (key ∷ []) (or_within line key h) (All-cons (IsTokenOf line) key [] h (All-nil (IsTokenOf line))))
