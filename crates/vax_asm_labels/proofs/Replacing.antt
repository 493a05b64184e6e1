-- A number in the place of a token.
use Rattle.std.proofs.Common.{ℕ, List, [], ◌∷◌, All}
use Rattle.std.proofs.lemmas.List.Elements.{All-cons, All-nil}
use Rattle.vax_asm_labels.specs.Numbers.{number_at}
use Rattle.vax_lex.specs.Tokens.{IsTokenOf}
use Rattle.vax_lex.specs.declared.token.Token.{Token}

pub number_within : (line : List ℕ) (t : Token) (n : ℕ) → IsTokenOf line t → All (IsTokenOf line) (number_at n t ∷ [])
number_within line t n h = All-cons (IsTokenOf line) (number_at n t) [] (record { some = h.some; within = h.within; kind = tt }) (All-nil (IsTokenOf line))
