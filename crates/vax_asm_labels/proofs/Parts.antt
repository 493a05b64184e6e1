-- Operands are made of the tokens of their line.
use Rattle.std.proofs.Common.{◌≡◌, ◌<◌, ◌+◌, ◌-◌, ℕ, List, [], length, map, take, drop, subst, sym, ap, ◌∙◌, arith}
use Rattle.std.proofs.lemmas.Grind.{get_or_after_one}
use Rattle.std.proofs.lemmas.List.{get_or-map, length-drop, length-map, take_rest}
use Rattle.std.specs.Borrow.{Bor}
use Rattle.std.specs.Prelude.{All, slice_index_or}
use Rattle.vax_lex.specs.Tokens.{IsTokenOf}
use Rattle.vax_lex.specs.declared.token.Token.{Token}

-- an operand is made of what all operands are made of
pub part_at : (line : List ℕ) (parts : List (List Token)) (xs : List (Bor (List Token))) (i : ℕ) (d : Bor (List Token)) → map (λ s. s.now) xs ≡ parts → All (All (IsTokenOf line)) parts → i < length xs
    → All (IsTokenOf line) (slice_index_or xs i d).now
part_at line parts xs i d is all h =
    let now : Bor (List Token) → List Token = λ s. s.now in
    let P : List Token → Type 0 = λ l. All (IsTokenOf line) l in
    let Q : List (List Token) → Type 0 = λ l. All (All (IsTokenOf line)) l in
    let mapped : Q (map now xs) = subst Q (sym is) all in
    subst P (get_or-map now xs i d [] h) (mapped i [] (rw (length-map xs now) h))

-- each is
pub all_within : (line : List ℕ) (parts : List (List Token)) (xs : List (Bor (List Token))) → map (λ s. s.now) xs ≡ parts → All (All (IsTokenOf line)) parts
    → All (λ (s : Bor (List Token)). All (IsTokenOf line) s.now) xs
all_within line parts xs is all i d h = part_at line parts xs i d is all h

-- where the line is the same
pub part_on : (l line : List ℕ) (parts : List (List Token)) (xs : List (Bor (List Token))) (i : ℕ) (d : Bor (List Token)) → l ≡ line → map (λ s. s.now) xs ≡ parts → All (All (IsTokenOf line)) parts → i < length xs
    → All (IsTokenOf l) (slice_index_or xs i d).now
part_on l line parts xs i d same is all h =
    let P : List ℕ → Type 0 = λ x. All (IsTokenOf x) (slice_index_or xs i d).now in
    subst P (sym same) (part_at line parts xs i d is all h)

-- those behind the first
pub rest_within : (line : List ℕ) (parts : List (List Token)) (xs : List (Bor (List Token))) → map (λ s. s.now) xs ≡ parts → All (All (IsTokenOf line)) parts
    → All (λ (s : Bor (List Token)). All (IsTokenOf line) s.now) (take (length xs - 1) (drop 1 xs))
rest_within line parts xs is all i d h =
    let P : Bor (List Token) → Type 0 = λ s. All (IsTokenOf line) s.now in
    let rest = take_rest xs 1 in
    let within : 1 + i < length xs = omega (arith, ap length rest, length-drop 1 xs, h) in
    subst P (sym (ap (λ (l : List (Bor (List Token))). slice_index_or l i d) rest ∙ get_or_after_one xs i d)) (part_at line parts xs (1 + i) d is all within)
