-- What is known of tokens is a fact.
use Rattle.std.proofs.Common.{ℕ, List}
use Rattle.std.proofs.Props.{props}
use Rattle.std.specs.Prelude.{All}
use Rattle.vax_lex.specs.Tokens.{IsTokenOf, KindFits}
use Rattle.vax_lex.specs.declared.token.Token.{Token}
use Rattle.vax_lex.specs.declared.token.TokenKind.{TokenKind}
use Rattle.vax_lex.specs.declared.token.TokenKind.TheVariants.{Name, Number, Mark, Text}

kind_fits_prop : (k : TokenKind) (text : List ℕ) → IsProp (KindFits k text)
kind_fits_prop Name text = Prim.hlevel props
kind_fits_prop Text text = Prim.hlevel props
kind_fits_prop (Number n) text = Prim.hlevel props
kind_fits_prop (Mark m) text = Prim.hlevel props

pub tokens_prop : (line : List ℕ) (tokens : List Token) → IsProp (All (IsTokenOf line) tokens)
tokens_prop line tokens = Prim.hlevel (props, kind_fits_prop)
