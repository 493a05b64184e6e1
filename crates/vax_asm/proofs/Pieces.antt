-- The pieces of a line, one at a time.
use Rattle.std.proofs.Common.{◌≡◌, ◌<◌, ◌≤◌, ◌+◌, ℕ, suc, add-one, Bool, true, false, List, [], ◌∷◌, ◌++◌, length, map, drop, append-nil, append_assoc, sym, ap, ◌∙◌, drop-cons}
use Rattle.std.proofs.lemmas.List.{drop_all}
use Rattle.std.specs.List.{list_any}
use Rattle.std.specs.Prelude.{◌||◌, slice_index_or}
use Rattle.vax_lex.specs.declared.token.Piece.{Piece}
use Rattle.vax_lex.specs.declared.token.Token.{Token}
use Rattle.vax_asm.specs.Placing.{is_bad, is_wide, token_of}

-- whether one of the pieces from a place on is so
abbrev pub any_from : (Piece → Bool) → List Piece → ℕ → Bool
any_from test pieces i = list_any test (drop i pieces)

here : (pieces : List Piece) (i : ℕ) (p : Piece) → i < length pieces → p ≡ slice_index_or pieces i p → drop i pieces ≡ p ∷ drop (i + 1) pieces
here pieces i p h at = rw add-one (drop-cons pieces i p h ∙ ap (λ (x : Piece). x ∷ drop (suc i) pieces) (sym at))

split : (test : Piece → Bool) (pieces : List Piece) (i : ℕ) (p : Piece) → i < length pieces → p ≡ slice_index_or pieces i p → any_from test pieces i ≡ (test p || any_from test pieces (i + 1))
split test pieces i p h at = ap (list_any test) (here pieces i p h at)

either : (b c d : Bool) → b ≡ true → d ≡ (b || c) → d ≡ true
either b c d e f = rw e at f

neither : (b c d : Bool) → b ≡ false → d ≡ (b || c) → c ≡ d
neither b c d e f = sym (rw e at f)

found : (test : Piece → Bool) (pieces : List Piece) (i : ℕ) (p : Piece) (all : Bool) → i < length pieces → p ≡ slice_index_or pieces i p → test p ≡ true → any_from test pieces i ≡ all → true ≡ all
found test pieces i p all h at e same = sym (either (test p) (any_from test pieces (i + 1)) (any_from test pieces i) e (split test pieces i p h at)) ∙ same

passed : (test : Piece → Bool) (pieces : List Piece) (i : ℕ) (p : Piece) (all : Bool) → i < length pieces → p ≡ slice_index_or pieces i p → test p ≡ false → any_from test pieces i ≡ all → any_from test pieces (i + 1) ≡ all
passed test pieces i p all h at e same = neither (test p) (any_from test pieces (i + 1)) (any_from test pieces i) e (split test pieces i p h at) ∙ same

none : (test : Piece → Bool) (pieces : List Piece) (i : ℕ) (all : Bool) → length pieces ≤ i → any_from test pieces i ≡ all → false ≡ all
none test pieces i all h same = sym (ap (list_any test) (drop_all i pieces h)) ∙ same

pub bad_found : (pieces : List Piece) (i : ℕ) (p : Piece) (all : Bool) → i < length pieces → p ≡ slice_index_or pieces i p → is_bad p ≡ true → any_from is_bad pieces i ≡ all → true ≡ all
bad_found pieces i p all h at e same = found is_bad pieces i p all h at e same

pub bad_passed : (pieces : List Piece) (i : ℕ) (p : Piece) (all : Bool) → i < length pieces → p ≡ slice_index_or pieces i p → is_bad p ≡ false → any_from is_bad pieces i ≡ all → any_from is_bad pieces (i + 1) ≡ all
bad_passed pieces i p all h at e same = passed is_bad pieces i p all h at e same

pub no_bad : (pieces : List Piece) (i : ℕ) (all : Bool) → length pieces ≤ i → any_from is_bad pieces i ≡ all → false ≡ all
no_bad pieces i all h same = none is_bad pieces i all h same

pub wide_found : (pieces : List Piece) (i : ℕ) (p : Piece) (all : Bool) → i < length pieces → p ≡ slice_index_or pieces i p → is_wide p ≡ true → any_from is_wide pieces i ≡ all → true ≡ all
wide_found pieces i p all h at e same = found is_wide pieces i p all h at e same

pub wide_passed : (pieces : List Piece) (i : ℕ) (p : Piece) (all : Bool) → i < length pieces → p ≡ slice_index_or pieces i p → is_wide p ≡ false → any_from is_wide pieces i ≡ all → any_from is_wide pieces (i + 1) ≡ all
wide_passed pieces i p all h at e same = passed is_wide pieces i p all h at e same

pub no_wide : (pieces : List Piece) (i : ℕ) (all : Bool) → length pieces ≤ i → any_from is_wide pieces i ≡ all → false ≡ all
no_wide pieces i all h same = none is_wide pieces i all h same

pub token_taken : (tokens : List Token) (pieces : List Piece) (i : ℕ) (p : Piece) (all : List Token) → i < length pieces → p ≡ slice_index_or pieces i p → tokens ++ map token_of (drop i pieces) ≡ all
    → (tokens ++ token_of p ∷ []) ++ map token_of (drop (i + 1) pieces) ≡ all
token_taken tokens pieces i p all h at same =
    append_assoc tokens (token_of p ∷ []) (map token_of (drop (i + 1) pieces))
    ∙ ap (λ (l : List Piece). tokens ++ map token_of l) (sym (here pieces i p h at))
    ∙ same

pub tokens_taken : (tokens : List Token) (pieces : List Piece) (i : ℕ) (all : List Token) → length pieces ≤ i → tokens ++ map token_of (drop i pieces) ≡ all → tokens ≡ all
tokens_taken tokens pieces i all h same =
    sym (append-nil tokens) ∙ ap (λ (l : List Piece). tokens ++ map token_of l) (sym (drop_all i pieces h)) ∙ same
