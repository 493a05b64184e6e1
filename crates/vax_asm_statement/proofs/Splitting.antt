-- A statement's operands, one token after another.
use Rattle.std.proofs.Common.{◌≡◌, ℕ, ◌+◌, ◌-◌, ◌<◌, ◌≤◌, true, false, List, [], ◌∷◌, ◌++◌, length, take, drop, get_or, refl, sym, arith, append_assoc}
use Rattle.std.proofs.lemmas.List.{drop_more, take_more, get_or-drop, length-drop, drop_all, take_all}
use Rattle.vax_lex.specs.declared.token.Token.{Token}
use Rattle.vax_asm_statement.specs.Parts.{depth_after, separates, split_from}

-- what stands between two places, with one token more
pub part_more : (tokens : List Token) (begin i : ℕ) (d : Token) → begin ≤ i → i < length tokens →
    take (i + 1 - begin) (drop begin tokens) ≡ take (i - begin) (drop begin tokens) ++ get_or tokens i d ∷ []
part_more tokens begin i d low high =
    let shift : i + 1 - begin ≡ (i - begin) + 1 = omega arith in
    let back : begin + (i - begin) ≡ i = omega arith in
    let long = length-drop begin tokens in
    let within : i - begin < length (drop begin tokens) = omega (arith, long) in
    rw (shift, take_more (drop begin tokens) (i - begin) d within, get_or-drop begin tokens (i - begin) d, back) refl

-- a comma ends a part
pub part_ends : (found : List (List Token)) (depth begin i : ℕ) (tokens : List Token) (d : Token) → i < length tokens → separates depth (get_or tokens i d) ≡ true →
    found ++ split_from depth (take (i - begin) (drop begin tokens)) (drop i tokens) ≡ (found ++ take (i - begin) (drop begin tokens) ∷ []) ++ split_from 0 (take (i + 1 - (i + 1)) (drop (i + 1) tokens)) (drop (i + 1) tokens)
part_ends found depth begin i tokens d high comma =
    let none : i + 1 - (i + 1) ≡ 0 = omega arith in
    rw (none, drop_more tokens i d high, comma) (sym (append_assoc found (take (i - begin) (drop begin tokens) ∷ []) (split_from 0 [] (drop (i + 1) tokens))))

-- another token goes into the part
pub part_grows : (depth begin i : ℕ) (tokens : List Token) (d : Token) → begin ≤ i → i < length tokens → separates depth (get_or tokens i d) ≡ false →
    split_from depth (take (i - begin) (drop begin tokens)) (drop i tokens) ≡ split_from (depth_after depth (get_or tokens i d)) (take (i + 1 - begin) (drop begin tokens)) (drop (i + 1) tokens)
part_grows depth begin i tokens d low high other = rw (part_more tokens begin i d low high, drop_more tokens i d high, other) refl

-- the last part
pub part_last : (depth begin i : ℕ) (tokens : List Token) → length tokens ≤ i → split_from depth (take (i - begin) (drop begin tokens)) (drop i tokens) ≡ drop begin tokens ∷ []
part_last depth begin i tokens high =
    let long = length-drop begin tokens in
    let whole : length (drop begin tokens) ≤ i - begin = omega (arith, long) in
    rw (drop_all i tokens high, take_all (i - begin) (drop begin tokens) whole) refl
