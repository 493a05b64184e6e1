-- The words that a line is written in, and the tokens that they are.
use Rattle.std.proofs.Common.{◌≡◌, ℕ, ◌+◌, ◌-◌, ◌<◌, List, [], ◌∷◌, ◌++◌, length, take, drop, Ok, refl, ap, ◌∙◌, sym, subst, arith}
use Rattle.std.proofs.Math.Seq.{take-append_seam, drop-append_seam}
use Rattle.std.proofs.lemmas.List.{drop-drop}
use Rattle.vax_dialect.specs.declared.Dialect.{Dialect}
use Rattle.vax_lex.specs.Tokens.{Head, HeadFits, begins, head_of, pieces_from, tokens_in, token_text, piece}
use Rattle.vax_lex.specs.Statements.{Context, context_after}
use Rattle.vax_lex.proofs.Lines.{steps}
use Rattle.vax_lex.proofs.Heads.{head_fits}
use Rattle.vax_lex.specs.declared.token.TokenKind.{TokenKind}
use Rattle.vax_lex.specs.declared.token.PieceKind.TheVariants as kinds
use Rattle.vax_lex.specs.declared.token.Token.{Token}

-- a token and its characters
pub record Word : Type 0 where
  pub kind : TokenKind
  pub text : List ℕ

abbrev pub word : TokenKind → List ℕ → Word
word kind text = record { kind = kind; text = text }

-- the characters of words, and then more
abbrev pub written : List Word → List ℕ → List ℕ
written [] rest = rest
written (w ∷ words) rest = w.text ++ written words rest

abbrev pub token_at : ℕ → Word → Token
token_at at w = record { kind = w.kind; start = at; end = at + length w.text }

abbrev pub tokens_at : ℕ → List Word → List Token
tokens_at at [] = []
tokens_at at (w ∷ words) = token_at at w ∷ tokens_at (at + length w.text) words

-- where words end that begin at a place
abbrev pub behind : ℕ → List Word → ℕ
behind at [] = at
behind at (w ∷ words) = behind (at + length w.text) words

-- the tokens have these characters in the line
abbrev pub AreThere : List ℕ → ℕ → List Word → Type 0
AreThere line at [] = Unit {0}
AreThere line at (w ∷ words) = (token_text line (token_at at w) ≡ w.text) × AreThere line (at + length w.text) words

pub text_there : (line : List ℕ) (at : ℕ) (w : Word) (rest : List ℕ) → drop at line ≡ w.text ++ rest → token_text line (token_at at w) ≡ w.text
text_there line at w rest e =
    let count : at + length w.text - at ≡ length w.text = omega arith in
    rw (count, e) (take-append_seam w.text rest)

behind_text : (line : List ℕ) (at : ℕ) (text rest : List ℕ) → drop at line ≡ text ++ rest → drop (at + length text) line ≡ rest
behind_text line at text rest e = sym (drop-drop (length text) at line) ∙ ap (drop (length text)) e ∙ drop-append_seam text rest

pub are_there : (line : List ℕ) (at : ℕ) (words : List Word) (rest : List ℕ) → drop at line ≡ written words rest → AreThere line at words
are_there line at [] rest e = tt
are_there line at (w ∷ words) rest e = (text_there line at w (written words rest) e, are_there line (at + length w.text) words rest (behind_text line at w.text (written words rest) e))

pub behind_words : (line : List ℕ) (at : ℕ) (words : List Word) (rest : List ℕ) → drop at line ≡ written words rest → drop (behind at words) line ≡ rest
behind_words line at [] rest e = e
behind_words line at (w ∷ words) rest e = behind_words line (at + length w.text) words rest (behind_text line at w.text (written words rest) e)

pub written-append : (front words : List Word) (rest : List ℕ) → written (front ++ words) rest ≡ written front (written words rest)
written-append [] words rest = refl
written-append (w ∷ front) words rest = ap (λ (s : List ℕ). w.text ++ s) (written-append front words rest)

pub tokens-append : (at : ℕ) (front words : List Word) → tokens_at at (front ++ words) ≡ tokens_at at front ++ tokens_at (behind at front) words
tokens-append at [] words = refl
tokens-append at (w ∷ front) words = ap (λ (ts : List Token). token_at at w ∷ ts) (tokens-append (at + length w.text) front words)

pub behind-append : (at : ℕ) (front words : List Word) → behind at (front ++ words) ≡ behind (behind at front) words
behind-append at [] words = refl
behind-append at (w ∷ front) words = behind-append (at + length w.text) front words

-- a scan from a place gives these tokens, in either dialect
abbrev pub Scans : Context → ℕ → List ℕ → List Token → Type 0
Scans c at bytes tokens = (d : Dialect) → tokens_in (pieces_from d c at 0 bytes) ≡ Ok tokens

-- a scan goes on behind a word
pub next_word : (c after : Context) (at : ℕ) (kind : TokenKind) (text rest : List ℕ) (tokens : List Token) → 0 < length text → head_of c (text ++ rest) ≡ begins kind (length text) → ((d : Dialect) → context_after d c kind text ≡ after)
    → Scans after (at + length text) rest tokens → Scans c at (text ++ rest) (token_at at (word kind text) ∷ tokens)
next_word c after at kind text rest tokens some h e s d =
    let here : pieces_from d c at 0 (text ++ rest) ≡ piece (kinds.Token kind) at (length text) ∷ pieces_from d (context_after d c kind (take (length text) (text ++ rest))) (at + length text) 0 (drop (length text) (text ++ rest)) =
    steps d c at (text ++ rest) (begins kind (length text)) (sym h) (subst (λ (x : Head). HeadFits (text ++ rest) x) h (head_fits c (text ++ rest))) in
    rw (here, take-append_seam text rest, drop-append_seam text rest, e d, s d) refl
