-- Bytes of two digits each, one after the other.
use Rattle.std.proofs.Common.{◌≡◌, ℕ, ◌+◌, ◌*◌, List, [], ◌∷◌, ◌++◌, length, Option, None, Some, option_map, refl, sym, ap, ◌∙◌, append_assoc, append-nil, arith}
use Rattle.std.proofs.lemmas.List.{length-append}
use Rattle.vax_lines.specs.Lines.{Text}
use Rattle.vax_script.specs.Numbers.{byte, bytes}

one_more : (found : List ℕ) (b : ℕ) (more : Option (List ℕ)) → option_map (λ xs. (found ++ b ∷ []) ++ xs) more ≡ option_map (λ xs. found ++ xs) (option_map (λ xs. b ∷ xs) more)
one_more found b None = refl
one_more found b (Some xs) = ap Some (append_assoc found (b ∷ []) xs)

-- one byte more was read
pub byte_read : (found : List ℕ) (high low b : ℕ) (rest behind word new : Text) → new ≡ found ++ b ∷ [] → rest ≡ high ∷ low ∷ behind → byte high low ≡ Some b → option_map (λ more. found ++ more) (bytes rest) ≡ bytes word → option_map (λ more. new ++ more) (bytes behind) ≡ bytes word
unfolding bytes
byte_read found high low b rest behind word new grown split e is =
    let here : option_map (λ xs. b ∷ xs) (bytes behind) ≡ bytes (high ∷ low ∷ behind) = rw e refl in
    ap (λ (xs : List ℕ). option_map (λ more. xs ++ more) (bytes behind)) grown ∙ (one_more found b (bytes behind) ∙ (ap (option_map (λ xs. found ++ xs)) (here ∙ ap bytes (sym split)) ∙ is))

pub byte_counted : (found : List ℕ) (high low b : ℕ) (rest behind word new : Text) → new ≡ found ++ b ∷ [] → rest ≡ high ∷ low ∷ behind → 2 * length found + length rest ≡ length word → 2 * length new + length behind ≡ length word
byte_counted found high low b rest behind word new grown split is =
    let more : length new ≡ length found + 1 = ap length grown ∙ length-append found (b ∷ []) in
    let less : length rest ≡ length behind + 2 = ap length split ∙ omega arith in
    omega (arith, more, less, is)

-- two bytes that are no digits end it
pub no_byte : (found : List ℕ) (high low : ℕ) (rest behind word : Text) → rest ≡ high ∷ low ∷ behind → byte high low ≡ None → option_map (λ more. found ++ more) (bytes rest) ≡ bytes word → None ≡ bytes word
unfolding bytes
no_byte found high low rest behind word split e is =
    let here : bytes (high ∷ low ∷ behind) ≡ None = rw e refl in
    ap (option_map (λ xs. found ++ xs)) (sym here ∙ ap bytes (sym split)) ∙ is

-- and so does one alone
pub half_byte : (found : List ℕ) (high : ℕ) (rest behind word : Text) → rest ≡ high ∷ behind → length behind ≡ 0 → option_map (λ more. found ++ more) (bytes rest) ≡ bytes word → None ≡ bytes word
unfolding bytes
half_byte found high rest [] word split none is = ap (option_map (λ xs. found ++ xs)) (ap bytes (sym split)) ∙ is
half_byte found high rest (c ∷ behind) word split none is = absurd (cc none)

pub all_read : (found : List ℕ) (rest word : Text) → length rest ≡ 0 → option_map (λ more. found ++ more) (bytes rest) ≡ bytes word → Some found ≡ bytes word
unfolding bytes
all_read found [] word none is = ap Some (sym (append-nil found)) ∙ is
all_read found (c ∷ rest) word none is = absurd (cc none)
