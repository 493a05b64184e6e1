-- Names are bound one behind another, and `.` is found among them.
use Rattle.std.proofs.Common.{◌≡◌, ◌<◌, ◌+◌, ℕ, suc, add-one, Bool, true, false, List, [], ◌∷◌, ◌++◌, length, drop, refl, sym, ap, ◌∙◌, drop-cons}
use Rattle.std.specs.Prelude.{◌||◌, codes, slice_index_or}
use Rattle.std.specs.Str.{bytes_eq}
use Rattle.vax_lex.specs.Grammar.{Symbol, symbol_of, symbols_of}
use Rattle.vax_lex.specs.declared.token.Token.{Token}
use Rattle.vax_lex.specs.declared.value.Value.{Value}
use Rattle.vax_asm_scope.specs.Scope.{Bound, bind, bind_all}
use Rattle.vax_asm_scope.specs.Used.{Place, behind, used, used_by, has_place}

bind_all_more : (here : Value) (xs ys : List (List ℕ)) (b : Bound) → bind_all here b (xs ++ ys) ≡ bind_all here (bind_all here b xs) ys
bind_all_more here [] ys b = refl
bind_all_more here (x ∷ xs) ys b = bind_all_more here xs ys (bind here x b)

split_at : (tokens : List Token) (i : ℕ) (t : Token) → i < length tokens → t ≡ slice_index_or tokens i t → drop i tokens ≡ t ∷ drop (i + 1) tokens
split_at tokens i t h at = rw add-one (drop-cons tokens i t h ∙ ap (λ (x : Token). x ∷ drop (suc i) tokens) (sym at))

-- one token of an expression
pub token_bound : (here : Value) (before after all : Bound) (p q : Place) (line : List ℕ) (tokens : List Token) (i : ℕ) (t : Token) → i < length tokens → t ≡ slice_index_or tokens i t
    → after ≡ bind_all here before (used_by p (symbol_of line t)) → q ≡ behind p (symbol_of line t)
    → bind_all here before (used p (symbols_of line (drop i tokens))) ≡ all → bind_all here after (used q (symbols_of line (drop (i + 1) tokens))) ≡ all
token_bound here before after all p q line tokens i t h at is place same =
    let rest = symbols_of line (drop (i + 1) tokens) in
    let front : symbols_of line (drop i tokens) ≡ symbol_of line t ∷ rest = ap (symbols_of line) (split_at tokens i t h at) in
    ap (λ (b : Bound). bind_all here b (used q rest)) is
    ∙ ap (λ (r : Place). bind_all here (bind_all here before (used_by p (symbol_of line t))) (used r rest)) place
    ∙ sym (bind_all_more here (used_by p (symbol_of line t)) (used (behind p (symbol_of line t)) rest) before)
    ∙ ap (λ (l : List Symbol). bind_all here before (used p l)) (sym front)
    ∙ same

or_more : (b c d e : Bool) → c ≡ (d || e) → (b || c) ≡ ((b || d) || e)
or_more true c d e h = refl
or_more false c d e h = h

has_place_more : (xs ys : List (List ℕ)) → has_place (xs ++ ys) ≡ (has_place xs || has_place ys)
has_place_more [] ys = refl
has_place_more (x ∷ xs) ys = or_more (bytes_eq x (codes ".")) (has_place (xs ++ ys)) (has_place xs) (has_place ys) (has_place_more xs ys)

place_at : (p : Place) (line : List ℕ) (tokens : List Token) (i : ℕ) (t : Token) → i < length tokens → t ≡ slice_index_or tokens i t
    → has_place (used p (symbols_of line (drop i tokens))) ≡ (has_place (used_by p (symbol_of line t)) || has_place (used (behind p (symbol_of line t)) (symbols_of line (drop (i + 1) tokens))))
place_at p line tokens i t h at =
    ap (λ (l : List Token). has_place (used p (symbols_of line l))) (split_at tokens i t h at)
    ∙ has_place_more (used_by p (symbol_of line t)) (used (behind p (symbol_of line t)) (symbols_of line (drop (i + 1) tokens)))

pub place_passed : (p q : Place) (line : List ℕ) (tokens : List Token) (i : ℕ) (t : Token) (all : Bool) → i < length tokens → t ≡ slice_index_or tokens i t
    → has_place (used_by p (symbol_of line t)) ≡ false → q ≡ behind p (symbol_of line t) → has_place (used p (symbols_of line (drop i tokens))) ≡ all
    → has_place (used q (symbols_of line (drop (i + 1) tokens))) ≡ all
place_passed p q line tokens i t all h at none place same =
    let rest = symbols_of line (drop (i + 1) tokens) in
    ap (λ (r : Place). has_place (used r rest)) place
    ∙ ap (λ (b : Bool). b || has_place (used (behind p (symbol_of line t)) rest)) (sym none)
    ∙ sym (place_at p line tokens i t h at)
    ∙ same

pub place_found : (p : Place) (line : List ℕ) (tokens : List Token) (i : ℕ) (t : Token) (all : Bool) → i < length tokens → t ≡ slice_index_or tokens i t
    → has_place (used_by p (symbol_of line t)) ≡ true → has_place (used p (symbols_of line (drop i tokens))) ≡ all → true ≡ all
place_found p line tokens i t all h at found same =
    ap (λ (b : Bool). b || has_place (used (behind p (symbol_of line t)) (symbols_of line (drop (i + 1) tokens)))) (sym found)
    ∙ sym (place_at p line tokens i t h at)
    ∙ same
