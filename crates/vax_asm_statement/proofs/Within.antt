-- The parts of a statement are made of its tokens.
use Rattle.std.proofs.Common.{ℕ, ◌+◌, ◌-◌, true, false, ◌&&◌, ◌==◌, cond, List, [], ◌∷◌, ◌++◌, drop, take, length, slice_get, IfSome, Option, Some, None}
use Rattle.std.specs.List.{All}
use Rattle.std.proofs.lemmas.List.Elements.{All-append, All-take, All-drop, All-head, All-tail, All-cons, All-nil}
use Rattle.vax_lex.specs.declared.token.Token.{Token}
use Rattle.vax_lex.specs.Tokens.{IsTokenOf}
use Rattle.vax_asm_statement.specs.Tokens.{is_mark, is_name_token, is_text_token}
use Rattle.vax_asm_statement.specs.Items.{bracket_from, ends_with_bracket, whole, item_at, item_of, Piece, Characters, Value, with_piece, closes, pieces_from, pieces_of}
use Rattle.vax_asm_statement.specs.Parts.{depth_after, split_from, parts}
use Rattle.vax_asm_statement.specs.Reading.{Headed, doubled, behind_marks, headed, What, Operation, Malformed, operation, assignment_or, behind_label, parsed}
use Rattle.vax_asm_statement.specs.Within.{WhatWithin, Within, ItemWithin, PieceWithin}

abbrev HeadWithin : List ℕ → Option Headed → Type 0
HeadWithin line None = Unit {0}
HeadWithin line (Some h) = IsTokenOf line h.name × All (IsTokenOf line) h.rest

marks_within : (line : List ℕ) (m : ℕ) (name first : Token) (tokens : List Token) → IsTokenOf line name → All (IsTokenOf line) tokens → HeadWithin line (Some (behind_marks m name first tokens))
marks_within line m name first tokens n h = elim (doubled m first tokens) as (λ b. HeadWithin line (Some (cond b (record { name = name; twice = true; rest = drop 1 tokens }) (record { name = name; twice = false; rest = tokens })))) [
  | true ↦ (n, All-drop (IsTokenOf line) 1 tokens h)
  | false ↦ (n, h)
]

head_within : (line : List ℕ) (m : ℕ) (tokens : List Token) → All (IsTokenOf line) tokens → HeadWithin line (headed m tokens)
head_within line m [] h = tt
head_within line m (t ∷ []) h = tt
head_within line m (name ∷ first ∷ tokens) h =
    let P = IsTokenOf line in
    let rest = All-tail P name (first ∷ tokens) h in
    elim (is_name_token name && is_mark m first) as (λ b. HeadWithin line (cond b (Some (behind_marks m name first tokens)) None)) [
      | true ↦ marks_within line m name first tokens (All-head P name (first ∷ tokens) h) (All-tail P first tokens rest)
      | false ↦ tt
    ]

operation_within : (line : List ℕ) (tokens : List Token) → All (IsTokenOf line) tokens → WhatWithin line (operation tokens)
operation_within line [] h = tt
operation_within line (t ∷ tokens) h = elim (is_name_token t) as (λ b. WhatWithin line (cond b (Operation t tokens) Malformed)) [
  | true ↦ (All-head (IsTokenOf line) t tokens h, All-tail (IsTokenOf line) t tokens h)
  | false ↦ tt
]

assignment_within : (line : List ℕ) (o : Option Headed) (w : What) → HeadWithin line o → WhatWithin line w → WhatWithin line (assignment_or o w)
assignment_within line None w o h = h
assignment_within line (Some head) w o h = o

label_within : (line : List ℕ) (o : Option Headed) (tokens : List Token) → HeadWithin line o → All (IsTokenOf line) tokens → Within line (behind_label o tokens)
label_within line None tokens o h = record { label = tt; what = assignment_within line (headed 61 tokens) (operation tokens) (head_within line 61 tokens h) (operation_within line tokens h) }
label_within line (Some head) tokens o h = record { label = o.0; what = operation_within line head.rest o.1 }

pub parsed_within : (line : List ℕ) (tokens : List Token) → All (IsTokenOf line) tokens → Within line (parsed tokens)
unfolding parsed
parsed_within line tokens h = label_within line (headed 58 tokens) tokens (head_within line 58 tokens h) h

split_within : (line : List ℕ) (depth : ℕ) (part tokens : List Token) → All (IsTokenOf line) part → All (IsTokenOf line) tokens → All (All (IsTokenOf line)) (split_from depth part tokens)
split_within line depth part [] p h = All-cons (All (IsTokenOf line)) part [] p (All-nil (All (IsTokenOf line)))
split_within line depth part (t ∷ tokens) p h =
    let P = IsTokenOf line in
    let one = All-cons P t [] (All-head P t tokens h) (All-nil P) in
    let rest = All-tail P t tokens h in
    elim (depth == 0 && is_mark 44 t) as (λ b. All (All P) (cond b (part ∷ split_from 0 [] tokens) (split_from (depth_after depth t) (part ++ t ∷ []) tokens))) [
      | true ↦ All-cons (All P) part (split_from 0 [] tokens) p (split_within line 0 [] tokens (All-nil P) rest)
      | false ↦ split_within line (depth_after depth t) (part ++ t ∷ []) tokens (All-append P part (t ∷ []) p one) rest
    ]

pub parts_within : (line : List ℕ) (tokens : List Token) → All (IsTokenOf line) tokens → All (All (IsTokenOf line)) (parts tokens)
parts_within line [] h = All-nil (All (IsTokenOf line))
parts_within line (t ∷ tokens) h = split_within line 0 [] (t ∷ tokens) (All-nil (IsTokenOf line)) h

item_at_within : (line : List ℕ) (tokens front : List Token) (o : Option ℕ) → All (IsTokenOf line) tokens → All (IsTokenOf line) front → ItemWithin line (item_at tokens front o)
item_at_within line tokens front None h f = record { expression = h; count = tt }
item_at_within line tokens front (Some i) h f = record { expression = All-take (IsTokenOf line) i front f; count = All-drop (IsTokenOf line) (i + 1) front f }

pub item_within : (line : List ℕ) (tokens : List Token) → All (IsTokenOf line) tokens → ItemWithin line (item_of tokens)
unfolding item_of
item_within line tokens h =
    let front = take (length tokens - 1) tokens in
    elim (ends_with_bracket (slice_get tokens (length tokens - 1))) as (λ b. ItemWithin line (cond b (item_at tokens front (bracket_from 0 front)) (whole tokens))) [
      | true ↦ item_at_within line tokens front (bracket_from 0 front) h (All-take (IsTokenOf line) (length tokens - 1) tokens h)
      | false ↦ record { expression = h; count = tt }
    ]

with_piece_within : (line : List ℕ) (piece : Piece) (o : Option (List Piece)) → PieceWithin line piece → IfSome o (All (PieceWithin line)) → IfSome (with_piece piece o) (All (PieceWithin line))
with_piece_within line piece None p h = tt
with_piece_within line piece (Some pieces) p h = All-cons (PieceWithin line) piece pieces p h

pieces_from_within : (line : List ℕ) (depth : ℕ) (part tokens : List Token) → All (IsTokenOf line) part → All (IsTokenOf line) tokens → IfSome (pieces_from depth part tokens) (All (PieceWithin line))
pieces_from_within line depth part [] p h = elim (depth == 0) as (λ b. IfSome (cond b (Some []) None) (All (PieceWithin line))) [
  | true ↦ All-nil (PieceWithin line)
  | false ↦ tt
]
pieces_from_within line depth part (t ∷ tokens) p h =
    let P = IsTokenOf line in
    let Q = All (PieceWithin line) in
    let here = All-head P t tokens h in
    let rest = All-tail P t tokens h in
    let one = All-cons P t [] here (All-nil P) in
    let begun = cond (is_text_token t) (with_piece (Characters t) (pieces_from 0 [] tokens)) (cond (is_mark 60 t) (pieces_from 1 [] tokens) None) in
    let inside = cond (closes depth t) (with_piece (Value part) (pieces_from 0 [] tokens)) (pieces_from (depth_after depth t) (part ++ t ∷ []) tokens) in
    elim (depth == 0) as (λ b. IfSome (cond b begun inside) Q) [
      | true ↦ elim (is_text_token t) as (λ b. IfSome (cond b (with_piece (Characters t) (pieces_from 0 [] tokens)) (cond (is_mark 60 t) (pieces_from 1 [] tokens) None)) Q) [
        | true ↦ with_piece_within line (Characters t) (pieces_from 0 [] tokens) here (pieces_from_within line 0 [] tokens (All-nil P) rest)
        | false ↦ elim (is_mark 60 t) as (λ b. IfSome (cond b (pieces_from 1 [] tokens) None) Q) [
          | true ↦ pieces_from_within line 1 [] tokens (All-nil P) rest
          | false ↦ tt
        ]
      ]
      | false ↦ elim (closes depth t) as (λ b. IfSome (cond b (with_piece (Value part) (pieces_from 0 [] tokens)) (pieces_from (depth_after depth t) (part ++ t ∷ []) tokens)) Q) [
        | true ↦ with_piece_within line (Value part) (pieces_from 0 [] tokens) p (pieces_from_within line 0 [] tokens (All-nil P) rest)
        | false ↦ pieces_from_within line (depth_after depth t) (part ++ t ∷ []) tokens (All-append P part (t ∷ []) p one) rest
      ]
    ]

pub pieces_within : (line : List ℕ) (tokens : List Token) → All (IsTokenOf line) tokens → IfSome (pieces_of tokens) (All (PieceWithin line))
pieces_within line tokens h = pieces_from_within line 0 [] tokens (All-nil (IsTokenOf line)) h
