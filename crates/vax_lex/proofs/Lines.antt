-- One step through the pieces of a line, and what has been passed before it.
use Rattle.std.proofs.Common.{◌≡◌, ◌<◌, ◌≤◌, ℕ, zero, suc, ◌+◌, ◌-◌, true, List, [], ◌∷◌, ◌++◌, length, get_or, map, take, drop, refl, ap, arith, ◌∙◌, append_assoc, sym, subst, inl, inr, ⊎_elim}
use Rattle.std.specs.Prelude.{All, AllPairs, Any, ◌⊎◌}
use Rattle.std.proofs.lemmas.List.Elements.{All-push}
use Rattle.std.proofs.lemmas.List.Quantifiers.{all_pairs_push, Any-push}
use Rattle.std.proofs.lemmas.List.{take_rest, drop-drop, length-drop, get_or-drop, map_push}
use Rattle.std.proofs.Common.{length-append}
use Rattle.std.proofs.Math.ListN.{get_or-append}
use Rattle.std.proofs.lemmas.Bool.{cases_lt}
use Rattle.vax_dialect.specs.declared.Dialect.{Dialect}
use Rattle.vax_lex.specs.Characters.{is_blank}
use Rattle.vax_lex.specs.Tokens.{Head, blank, no_more, begins, too_wide, no_token, HeadFits, PieceFits, IsPieceOf, PiecePrecedes, piece, stray_kind, pieces_from, pieces_of, head_of, piece_span, Holds, CoversTo, Covers}
use Rattle.vax_lex.proofs.Heads.{head_fits}
use Rattle.vax_lex.specs.Statements.{Context, context_after, context_after_blank, line_start}
use Rattle.vax_lex.specs.declared.token.Piece.{Piece}
use Rattle.vax_lex.specs.declared.token.Span.{Span}
use Rattle.vax_lex.specs.declared.token.PieceKind.{PieceKind}
use Rattle.vax_lex.specs.declared.token.PieceKind.TheVariants as kinds
use Rattle.vax_lex.specs.declared.token.TokenKind.{TokenKind}
use Rattle.vax_lex.specs.declared.token.TokenKind.TheVariants.{Number}

module _ (dialect : Dialect) where
  -- what pieces_from does with a piece at the head of the bytes
  abbrev pub goes_on : Context → ℕ → List ℕ → PieceKind → TokenKind → ℕ → List Piece
  goes_on c at bytes kind token n = piece kind at n ∷ pieces_from dialect (context_after dialect c token (take n bytes)) (at + n) zero (drop n bytes)

  -- what pieces_from does with the head of the bytes
  abbrev pub step : Context → ℕ → List ℕ → Head → List Piece
  step c at bytes blank = pieces_from dialect (context_after_blank c) (at + 1) zero (drop 1 bytes)
  step c at bytes no_more = []
  step c at bytes (begins kind n) = goes_on c at bytes (kinds.Token kind) kind n
  step c at bytes (too_wide n) = goes_on c at bytes kinds.Wide (Number 0) n
  step c at bytes no_token = goes_on c at bytes kinds.Bad (stray_kind (get_or bytes 0 0)) 1

  -- the bytes of a piece are passed over
  pub passes : (c : Context) (at n : ℕ) (bytes : List ℕ) → pieces_from dialect c at n bytes ≡ pieces_from dialect c (at + n) zero (drop n bytes)
  unfolding pieces_from
  passes c at zero [] = refl
  passes c at zero (b ∷ bytes) = ap (λ k. pieces_from dialect c k zero (b ∷ bytes)) (omega arith)
  passes c at (suc n) [] = refl
  passes c at (suc n) (b ∷ bytes) = passes c (at + 1) n bytes ∙ ap (λ k. pieces_from dialect c k zero (drop n bytes)) (omega arith)

  -- where the bytes of a piece end
  later : (next : Context) (at b : ℕ) (bytes : List ℕ) (n : ℕ)
      → pieces_from dialect next (at + 1) (suc n - 1) bytes ≡ pieces_from dialect next (at + suc n) zero (drop (suc n) (b ∷ bytes))
  later next at b bytes n =
      let here : at + 1 + n ≡ at + suc n = omega arith in
      let same : suc n - 1 ≡ n = omega arith in
      ap (λ k. pieces_from dialect next (at + 1) k bytes) same ∙ passes next (at + 1) n bytes ∙ ap (λ k. pieces_from dialect next k zero (drop n bytes)) here

  -- one step
  steps_on : (c : Context) (at b : ℕ) (bytes : List ℕ) (h : Head) → head_of c (b ∷ bytes) ≡ h → HeadFits (b ∷ bytes) h
      → pieces_from dialect c at zero (b ∷ bytes) ≡ step c at (b ∷ bytes) h
  unfolding pieces_from
  steps_on c at b bytes blank e f = rw (e, pieces_from) refl
  steps_on c at b bytes no_more e f = rw (e, pieces_from) refl
  steps_on c at b bytes (begins kind zero) e f = absurd (omega (arith, f.0))
  steps_on c at b bytes (begins kind (suc n)) e f = rw (e, pieces_from) (ap (λ ps. piece (kinds.Token kind) at (suc n) ∷ ps) (later (context_after dialect c kind (take (suc n) (b ∷ bytes))) at b bytes n))
  steps_on c at b bytes (too_wide zero) e f = absurd (omega (arith, f.0))
  steps_on c at b bytes (too_wide (suc n)) e f = rw (e, pieces_from) (ap (λ ps. piece kinds.Wide at (suc n) ∷ ps) (later (context_after dialect c (Number 0) (take (suc n) (b ∷ bytes))) at b bytes n))
  steps_on c at b bytes no_token e f = rw (e, pieces_from) refl

  -- one step, at any bytes
  pub steps : (c : Context) (at : ℕ) (bytes : List ℕ) (h : Head) → h ≡ head_of c bytes → HeadFits bytes h
      → pieces_from dialect c at zero bytes ≡ step c at bytes h
  unfolding pieces_from head_of
  steps c at [] h e f = ap (step c at []) (sym e)
  steps c at (b ∷ bytes) h e f = steps_on c at b bytes h (sym e) f

-- what a line has at a place lies within it
pub fits_at : (c : Context) (line : List ℕ) (at : ℕ) (r h : Head) → r ≡ head_of c (take (length line - at) (drop at line)) → r ≡ h
    → HeadFits (drop at line) h
fits_at c line at r h e i =
    let here : head_of c (drop at line) ≡ h = ap (head_of c) (sym (take_rest line at)) ∙ sym e ∙ i in
    let P : Head → Type 0 = λ x. HeadFits (drop at line) x in
    subst P here (head_fits c (drop at line))

module _ (dialect : Dialect) where
  -- one step at a place of a line, behind the pieces so far
  pub steps_at : (front : List Piece) (c : Context) (line : List ℕ) (at : ℕ) (r h : Head) (all : List Piece)
      → r ≡ head_of c (take (length line - at) (drop at line)) → r ≡ h
      → front ++ pieces_from dialect c at zero (drop at line) ≡ all
      → front ++ step dialect c at (drop at line) h ≡ all
  steps_at front c line at r h all e i so_far =
      let here : h ≡ head_of c (drop at line) = sym i ∙ e ∙ ap (head_of c) (take_rest line at) in
      ap (λ ps. front ++ ps) (sym (steps dialect c at (drop at line) h here (fits_at c line at r h e i))) ∙ so_far

  -- behind a blank
  pub blank_at : (front : List Piece) (c next : Context) (line : List ℕ) (at : ℕ) (r : Head) (all : List Piece)
      → r ≡ head_of c (take (length line - at) (drop at line)) → r ≡ blank → next ≡ context_after_blank c
      → front ++ pieces_from dialect c at zero (drop at line) ≡ all
      → front ++ pieces_from dialect next (at + 1) zero (drop (at + 1) line) ≡ all
  blank_at front c next line at r all e i n so_far =
      let step : front ++ pieces_from dialect (context_after_blank c) (at + 1) zero (drop 1 (drop at line)) ≡ all = steps_at front c line at r blank all e i so_far in
      let further : drop 1 (drop at line) ≡ drop (at + 1) line = drop-drop 1 at line in
      rw n (rw (← further) step)

  -- behind a piece
  pub piece_at : (front items : List Piece) (c next : Context) (line : List ℕ) (at : ℕ) (kind : PieceKind) (token : TokenKind) (n : ℕ) (all : List Piece)
      → front ++ goes_on dialect c at (drop at line) kind token n ≡ all
      → next ≡ context_after dialect c token (take n (take (length line - at) (drop at line)))
      → items ≡ front ++ piece kind at n ∷ []
      → items ++ pieces_from dialect next (at + n) zero (drop (at + n) line) ≡ all
  piece_at front items c next line at kind token n all step x p =
      let further : drop n (drop at line) ≡ drop (at + n) line = drop-drop n at line in
      let there : next ≡ context_after dialect c token (take n (drop at line)) = x ∙ ap (λ (bytes : List ℕ). context_after dialect c token (take n bytes)) (take_rest line at) in
      rw p (rw there (rw (← further) (append_assoc front (piece kind at n ∷ []) _ ∙ step)))

-- a piece lies within the line
pub piece_is : (line : List ℕ) (at : ℕ) (kind : PieceKind) (n : ℕ) → 0 < n → n ≤ length (drop at line) → PieceFits kind (take n (drop at line))
    → (at + n ≤ length line) × IsPieceOf line (piece kind at n)
piece_is line at kind n some room fits =
    let within : at + n ≤ length line = omega (arith, length-drop at line) in
    let same : at + n - at ≡ n = omega arith in
    (within, record { some = omega arith; within = within; kind = rw same fits })

module _ (dialect : Dialect) where
  -- before the first piece
  pub start_at : (items : List Piece) (c : Context) (line : List ℕ) → items ≡ [] → c ≡ line_start → items ++ pieces_from dialect c 0 zero line ≡ pieces_of dialect line
  unfolding pieces_of
  start_at items c line e i = rw e (rw i refl)

-- the piece ends by this byte
abbrev pub EndsBy : ℕ → Piece → Type 0
EndsBy at p = p.end ≤ at

pub ends_later : (front : List Piece) (at further : ℕ) → at ≤ further → All (EndsBy at) front → All (EndsBy further) front
ends_later front at further h f k d i = let before : (get_or front k d).end ≤ at = f k d i in omega arith

-- What holds of the pieces so far: each lies within the line, they end by a place, they are in order, and they cover
-- what is before the place but its blanks.
pub record SoFar (line : List ℕ) (at : ℕ) (front : List Piece) : Type 0 where
  pub within : All (IsPieceOf line) front
  pub before : All (EndsBy at) front
  pub in_order : AllPairs PiecePrecedes front
  pub covered : CoversTo at line (map piece_span front)

any_before : (P : Span → Type 0) (front : List Piece) (p : Piece) → Any P (map piece_span front) → Any P (map piece_span (front ++ p ∷ []))
any_before P front p (k, x, h, is, q) =
    let spans : map piece_span (front ++ p ∷ []) ≡ map piece_span front ++ piece_span p ∷ [] = map_push piece_span front p in
    let Q : List Span → Type 0 = λ ss. Any P ss in
    subst Q (sym spans) (k, x, omega (arith, length-append (map piece_span front) (piece_span p ∷ [])), get_or-append (map piece_span front) (piece_span p ∷ []) x k h ∙ is, q)

any_last : (P : Span → Type 0) (front : List Piece) (p : Piece) → P (piece_span p) → Any P (map piece_span (front ++ p ∷ []))
any_last P front p h = let Q : List Span → Type 0 = λ ss. Any P ss in subst Q (sym (map_push piece_span front p)) (Any-push P (map piece_span front) (piece_span p) h)

-- a piece more
pub one_more : (line : List ℕ) (at : ℕ) (front items : List Piece) (kind : PieceKind) (n : ℕ) → items ≡ front ++ piece kind at n ∷ [] → IsPieceOf line (piece kind at n) → SoFar line at front
    → SoFar line (at + n) items
one_more line at front items kind n p is so_far = let P : List Piece → Type 0 = λ ps. SoFar line (at + n) ps in subst P (sym p) (record {
  within = All-push (IsPieceOf line) front (piece kind at n) so_far.within is;
  before = All-push (EndsBy (at + n)) front (piece kind at n) (ends_later front at (at + n) (omega arith) so_far.before) (omega arith);
  in_order = all_pairs_push PiecePrecedes front (piece kind at n) so_far.in_order (λ k d h. so_far.before k d h);
  covered = λ k h. by_place k h (cases_lt k at);
})
  where
    by_place : (k : ℕ) → k < at + n → (k < at) ⊎ (at ≤ k) → Any (Holds k) (map piece_span (front ++ piece kind at n ∷ [])) ⊎ (is_blank (get_or line k 0) ≡ true)
    by_place k h (inl b) = ⊎_elim (λ (a : Any (Holds k) (map piece_span front)). inl (any_before (Holds k) front (piece kind at n) a)) (λ (e : is_blank (get_or line k 0) ≡ true). inr e) (so_far.covered k b)
    by_place k h (inr a) = inl (any_last (Holds k) front (piece kind at n) (a, h))

-- a blank more
pub blank_more : (line : List ℕ) (at : ℕ) (front : List Piece) → is_blank (get_or line at 0) ≡ true → SoFar line at front → SoFar line (at + 1) front
blank_more line at front e so_far = record {
  within = so_far.within;
  before = ends_later front at (at + 1) (omega arith) so_far.before;
  in_order = so_far.in_order;
  covered = λ k h. by_place k h (cases_lt k at);
}
  where
    by_place : (k : ℕ) → k < at + 1 → (k < at) ⊎ (at ≤ k) → Any (Holds k) (map piece_span front) ⊎ (is_blank (get_or line k 0) ≡ true)
    by_place k h (inl b) = so_far.covered k b
    by_place k h (inr a) = inr (ap (λ (j : ℕ). is_blank (get_or line j 0)) (omega arith) ∙ e)

-- a blank at a place of a line
pub blank_here : (line : List ℕ) (at : ℕ) → HeadFits (drop at line) blank → (at < length line) × (is_blank (get_or line at 0) ≡ true)
blank_here line at f = (omega (arith, f.0, length-drop at line), ap is_blank (sym (get_or-drop at line 0 0 ∙ ap (λ (k : ℕ). get_or line k 0) (omega arith))) ∙ f.1)

-- behind the last piece
pub covers_all : (line : List ℕ) (at : ℕ) (front : List Piece) → at ≤ length line → HeadFits (drop at line) no_more → SoFar line at front → Covers line (map piece_span front)
covers_all line at front room f so_far = record {
  comment = at;
  begins_it = ⊎_elim (λ (e : length (drop at line) ≡ 0). inl (omega (arith, length-drop at line))) (λ (e : get_or (drop at line) 0 0 ≡ 59). inr (sym (get_or-drop at line 0 0 ∙ ap (λ (k : ℕ). get_or line k 0) (omega arith)) ∙ e)) f;
  covered = so_far.covered;
}
