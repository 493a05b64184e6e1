-- The parts of a statement are carried out one behind another.
use Rattle.std.proofs.Common.{◌≡◌, ◌<◌, ◌+◌, ℕ, add-one, Bool, List, ◌∷◌, All, Bor, length, map, drop, sym, ap, ◌∙◌, subst, drop-cons, arith}
use Rattle.std.proofs.lemmas.List.{get_or-map, length-map}
use Rattle.std.specs.Prelude.{slice_index_or}
use Rattle.vax_asm_data.specs.Data.{item_as, item_stated, items_stated, piece_stated, pieces_stated, piece_length, pieces_length}
use Rattle.vax_lex.specs.Tokens.{IsTokenOf}
use Rattle.vax_lex.specs.declared.token.Token.{Token}
use Rattle.vax_asm_first.specs.Progress.{Site, Progress, joined}
use Rattle.vax_asm_statement.specs.Items.{Piece, piece_seen}
use Rattle.vax_asm_statement.specs.Within.{PieceWithin}
use Rattle.vax_asm_statement.specs.declared.items.Piece.{Piece as CodePiece}
use Rattle.vax_asm_encode.specs.declared.operand.DataKind.{DataKind}

split_at : {X Y : Type 0} (seen : X → Y) (xs : List X) (i : ℕ) (d : X) → i < length xs → map seen (drop i xs) ≡ seen (slice_index_or xs i d) ∷ map seen (drop (i + 1) xs)
split_at {X} {Y} seen xs i d h =
    let split : drop i xs ≡ slice_index_or xs i d ∷ drop (i + 1) xs = rw add-one (drop-cons xs i d h) in
    ap (map seen) split

abbrev now : Bor (List Token) → List Token
now s = s.now

pub item_step : (kind : DataKind) (site : Site) (once : Bool) (before one all : Progress) (xs : List (Bor (List Token))) (i : ℕ) (d : Bor (List Token)) → i < length xs
    → one ≡ item_stated kind site (item_as once (slice_index_or xs i d).now) before.standing
    → items_stated kind site (map (item_as once) (map now (drop i xs))) before ≡ all
    → items_stated kind site (map (item_as once) (map now (drop (i + 1) xs))) (joined before.fault one) ≡ all
item_step kind site once before one all xs i d h is same =
    let rest = map (item_as once) (map now (drop (i + 1) xs)) in
    ap (λ (p : Progress). items_stated kind site rest (joined before.fault p)) is
    ∙ ap (λ (l : List (List Token)). items_stated kind site (map (item_as once) l) before) (sym (split_at now xs i d h))
    ∙ same

pub piece_step : (site : Site) (before one all : Progress) (xs : List CodePiece) (i : ℕ) (d : CodePiece) → i < length xs
    → one ≡ piece_stated site (piece_seen (slice_index_or xs i d)) before.standing
    → pieces_stated site (map piece_seen (drop i xs)) before ≡ all
    → pieces_stated site (map piece_seen (drop (i + 1) xs)) (joined before.fault one) ≡ all
piece_step site before one all xs i d h is same =
    let rest = map piece_seen (drop (i + 1) xs) in
    ap (λ (p : Progress). pieces_stated site rest (joined before.fault p)) is
    ∙ ap (λ (l : List Piece). pieces_stated site l before) (sym (split_at piece_seen xs i d h))
    ∙ same

pub length_step : (line : List ℕ) (count all : ℕ) (xs : List CodePiece) (i : ℕ) (d : CodePiece) → i < length xs
    → count + pieces_length line (map piece_seen (drop i xs)) ≡ all
    → count + piece_length line (piece_seen (slice_index_or xs i d)) + pieces_length line (map piece_seen (drop (i + 1) xs)) ≡ all
length_step line count all xs i d h same =
    let split = ap (pieces_length line) (split_at piece_seen xs i d h) in
    omega (arith, same, split)

-- each part is made of what all are made of
element_within : {X Y : Type 0} (seen : X → Y) (P : Y → Type 0) (xs : List X) (i : ℕ) (d : X) → i < length xs → All P (map seen xs) → P (seen (slice_index_or xs i d))
element_within seen P xs i d h all = subst P (get_or-map seen xs i d (seen d) h) (all i (seen d) (rw (length-map xs seen) h))

pub part_within : (line : List ℕ) (parts : List (List Token)) (xs : List (Bor (List Token))) (i : ℕ) (d : Bor (List Token)) → i < length xs
    → map now xs ≡ parts → All (All (IsTokenOf line)) parts → All (IsTokenOf line) (slice_index_or xs i d).now
part_within line parts xs i d h is all =
    let P : List (List Token) → Type 0 = λ l. All (All (IsTokenOf line)) l in
    element_within now (λ (l : List Token). All (IsTokenOf line) l) xs i d h (subst P (sym is) all)

pub piece_within : (line : List ℕ) (xs : List CodePiece) (i : ℕ) (d : CodePiece) → i < length xs → All (PieceWithin line) (map piece_seen xs) → PieceWithin line (piece_seen (slice_index_or xs i d))
piece_within line xs i d h all = element_within piece_seen (PieceWithin line) xs i d h all
