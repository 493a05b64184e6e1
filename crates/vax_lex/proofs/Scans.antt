-- The tokens among the pieces of a line.
use Rattle.std.proofs.Common.{◌≡◌, ◌<◌, ◌≤◌, ℕ, ◌+◌, List, [], ◌∷◌, ◌++◌, length, get_or, map, drop, Result, Ok, Err, refl, ap, ◌∙◌, append_assoc, sym, subst, arith}
use Rattle.std.specs.Prelude.{All, AllPairs, IfOk, Vec}
use Rattle.std.proofs.lemmas.List.{drop_more, append-nil, length-map, drop_all}
use Rattle.std.proofs.Math.ListN.{get_or-map}
use Rattle.vax_lex.specs.Tokens.{Answers, with_first, with_piece, tokens_in, IsPieceOf, IsTokenOf, PiecePrecedes, Precedes, Covers, piece_span, span_of}
use Rattle.vax_lex.specs.declared.token.Span.{Span}
use Rattle.vax_lex.specs.declared.token.Token.{Token}
use Rattle.vax_lex.specs.declared.token.TokenKind.{TokenKind}
use Rattle.vax_lex.specs.declared.token.Piece.{Piece}
use Rattle.vax_lex.specs.declared.token.PieceKind.{PieceKind}
use Rattle.vax_lex.specs.declared.token.PieceKind.TheVariants as kinds
use Rattle.vax_lex.specs.declared.token.LexError.{LexError}
use Rattle.vax_lex.specs.declared.token.LexError.TheVariants as errors

-- tokens, and what is to come
abbrev pub with_front : List Token → Result (List Token) LexError → Result (List Token) LexError
with_front front (Ok tokens) = Ok (front ++ tokens)
with_front front (Err e) = Err e

pub with_front-nil : (items : List Token) (r : Result (List Token) LexError) → items ≡ [] → with_front items r ≡ r
with_front-nil items (Ok tokens) e = ap (λ (f : List Token). Ok (f ++ tokens)) e
with_front-nil items (Err x) e = refl

with_front-first : (front : List Token) (t : Token) (r : Result (List Token) LexError) → with_front front (with_first t r) ≡ with_front (front ++ t ∷ []) r
with_front-first front t (Ok tokens) = ap (λ us. Ok us) (sym (append_assoc front (t ∷ []) tokens))
with_front-first front t (Err e) = refl

-- a piece that is a token
abbrev pub piece_of : Token → Piece
piece_of t = record { kind = kinds.Token t.kind; start = t.start; end = t.end }

abbrev pub token_at : TokenKind → Piece → Token
token_at kind p = record { kind = kind; start = p.start; end = p.end }

here : (pieces : List Piece) (i : ℕ) (p : Piece) (kind : PieceKind) → i < length pieces → p ≡ get_or pieces i p → p.kind ≡ kind
    → tokens_in (drop i pieces) ≡ with_piece kind p.start p.end (tokens_in (drop (i + 1) pieces))
here pieces i p kind h e k = ap tokens_in (drop_more pieces i p h) ∙ ap (λ (q : Piece). with_piece q.kind q.start q.end (tokens_in (drop (i + 1) pieces))) (sym e) ∙ ap (λ (x : PieceKind). with_piece x p.start p.end (tokens_in (drop (i + 1) pieces))) k

pub one_token : (front items : List Token) (pieces : List Piece) (i : ℕ) (p : Piece) (kind : TokenKind) (all : Result (List Token) LexError) → i < length pieces → p ≡ get_or pieces i p → p.kind ≡ kinds.Token kind
    → items ≡ front ++ token_at kind p ∷ [] → with_front front (tokens_in (drop i pieces)) ≡ all → with_front items (tokens_in (drop (i + 1) pieces)) ≡ all
one_token front items pieces i p kind all h e k j so_far =
    ap (λ (f : List Token). with_front f (tokens_in (drop (i + 1) pieces))) j ∙ sym (with_front-first front (token_at kind p) (tokens_in (drop (i + 1) pieces)))
    ∙ ap (with_front front) (sym (here pieces i p (kinds.Token kind) h e k)) ∙ so_far

pub one_wide : (front : List Token) (pieces : List Piece) (i : ℕ) (p : Piece) (all : Result (List Token) LexError) → i < length pieces → p ≡ get_or pieces i p → p.kind ≡ kinds.Wide
    → with_front front (tokens_in (drop i pieces)) ≡ all → all ≡ Err (errors.Wide p.start)
one_wide front pieces i p all h e k so_far = sym so_far ∙ ap (with_front front) (here pieces i p kinds.Wide h e k)

pub one_bad : (front : List Token) (pieces : List Piece) (i : ℕ) (p : Piece) (all : Result (List Token) LexError) → i < length pieces → p ≡ get_or pieces i p → p.kind ≡ kinds.Bad
    → with_front front (tokens_in (drop i pieces)) ≡ all → all ≡ Err (errors.Token p.start)
one_bad front pieces i p all h e k so_far = sym so_far ∙ ap (with_front front) (here pieces i p kinds.Bad h e k)

pub all_passed : (front : List Token) (pieces : List Piece) (i : ℕ) (all : Result (List Token) LexError) → length pieces ≤ i → with_front front (tokens_in (drop i pieces)) ≡ all → all ≡ Ok front
all_passed front pieces i all h so_far = sym so_far ∙ ap (λ (ps : List Piece). with_front front (tokens_in ps)) (drop_all i pieces h) ∙ ap Ok (append-nil front)

-- pieces that are all tokens
first_piece : (p : Piece) (kind : PieceKind) (r : Result (List Token) LexError) (ps : List Piece) (ts : List Token) → p.kind ≡ kind → ((us : List Token) → r ≡ Ok us → ps ≡ map piece_of us) → with_piece kind p.start p.end r ≡ Ok ts → p ∷ ps ≡ map piece_of ts
first_piece p (kinds.Token kind) (Ok us) ps ts k h e =
    let same : token_at kind p ∷ us ≡ ts = cc in
    let head : p ≡ piece_of (token_at kind p) = ap (λ (x : PieceKind). let q : Piece = record { kind = x; start = p.start; end = p.end } in q) k in
    let tail : ps ≡ map piece_of us = h us refl in
    ap (λ (q : Piece). q ∷ ps) head ∙ ap (λ (qs : List Piece). piece_of (token_at kind p) ∷ qs) tail ∙ ap (map piece_of) same
first_piece p (kinds.Token kind) (Err x) ps ts k h e = absurd cc
first_piece p kinds.Wide r ps ts k h e = absurd cc
first_piece p kinds.Bad r ps ts k h e = absurd cc

pub all_tokens : (ps : List Piece) (ts : List Token) → tokens_in ps ≡ Ok ts → ps ≡ map piece_of ts
all_tokens [] ts e = let same : ts ≡ [] = cc in ap (map piece_of) (sym same)
all_tokens (p ∷ ps) ts e = first_piece p p.kind (tokens_in ps) ps ts refl (λ us h. all_tokens ps us h) e

pub tokens_within : (line : List ℕ) (ps : List Piece) (ts : List Token) → ps ≡ map piece_of ts → All (IsPieceOf line) ps → All (IsTokenOf line) ts
tokens_within line ps ts e f k d h =
    let g : All (IsPieceOf line) (map piece_of ts) = let P : List Piece → Type 0 = λ qs. All (IsPieceOf line) qs in subst P e f in
    let at : IsPieceOf line (get_or (map piece_of ts) k (piece_of d)) = g k (piece_of d) (omega (arith, length-map ts piece_of)) in
    let same : get_or (map piece_of ts) k (piece_of d) ≡ piece_of (get_or ts k d) = get_or-map piece_of ts k d in
    let P : Piece → Type 0 = λ q. IsPieceOf line q in
    let is : IsPieceOf line (piece_of (get_or ts k d)) = subst P same at in
    record { some = is.some; within = is.within; kind = is.kind }

pub tokens_in_order : (ps : List Piece) (ts : List Token) → ps ≡ map piece_of ts → AllPairs PiecePrecedes ps → AllPairs Precedes ts
tokens_in_order ps ts e f i j d h k =
    let g : AllPairs PiecePrecedes (map piece_of ts) = let P : List Piece → Type 0 = λ qs. AllPairs PiecePrecedes qs in subst P e f in
    let at : (get_or (map piece_of ts) i (piece_of d)).end ≤ (get_or (map piece_of ts) j (piece_of d)).start = g i j (piece_of d) h (omega (arith, length-map ts piece_of)) in
    let first : get_or (map piece_of ts) i (piece_of d) ≡ piece_of (get_or ts i d) = get_or-map piece_of ts i d in
    let second : get_or (map piece_of ts) j (piece_of d) ≡ piece_of (get_or ts j d) = get_or-map piece_of ts j d in
    omega (arith, at, ap (λ (q : Piece). q.end) first, ap (λ (q : Piece). q.start) second)

same_spans : (ts : List Token) → map piece_span (map piece_of ts) ≡ map span_of ts
same_spans [] = refl
same_spans (t ∷ ts) = ap (λ (ss : List Span). span_of t ∷ ss) (same_spans ts)

pub tokens_cover : (line : List ℕ) (ps : List Piece) (ts : List Token) → ps ≡ map piece_of ts → Covers line (map piece_span ps) → Covers line (map span_of ts)
tokens_cover line ps ts e c = let P : List Span → Type 0 = λ ss. Covers line ss in subst P (ap (map piece_span) e ∙ same_spans ts) c

-- the same of the answer of a scan
pub scan_within : {A : Type 0} (line : List ℕ) (ps : List Piece) (r : Result (Vec Token A) LexError) → Answers r (tokens_in ps) → All (IsPieceOf line) ps → IfOk r (λ v. All (IsTokenOf line) v.items)
scan_within line ps (Ok v) a f = tokens_within line ps v.items (all_tokens ps v.items a) f
scan_within line ps (Err e) a f = tt

pub scan_in_order : {A : Type 0} (ps : List Piece) (r : Result (Vec Token A) LexError) → Answers r (tokens_in ps) → AllPairs PiecePrecedes ps → IfOk r (λ v. AllPairs Precedes v.items)
scan_in_order ps (Ok v) a f = tokens_in_order ps v.items (all_tokens ps v.items a) f
scan_in_order ps (Err e) a f = tt

pub scan_covers : {A : Type 0} (line : List ℕ) (ps : List Piece) (r : Result (Vec Token A) LexError) → Answers r (tokens_in ps) → Covers line (map piece_span ps) → IfOk r (λ v. Covers line (map span_of v.items))
scan_covers line ps (Ok v) a f = tokens_cover line ps v.items (all_tokens ps v.items a) f
scan_covers line ps (Err e) a f = tt
