-- The texts of arrays while they grow.
use Rattle.std.proofs.Common.{◌≡◌, ◌<◌, ◌≤◌, ℕ, suc, ◌+◌, List, [], ◌∷◌, ◌++◌, length, get_or, take, refl, sym, ap, ◌∙◌, append_assoc, append-nil, arith}
use Rattle.std.proofs.lemmas.List.{take_more, take_all, length-take-le}
use Rattle.vax_vectors.specs.Text.{array, comma_before, items_from}

items_push : {A : Type 0} (k : ℕ) (f : A → List ℕ) (xs : List A) (x : A) → items_from k f (xs ++ x ∷ []) ≡ items_from k f xs ++ (comma_before (length xs + k) ++ f x)
unfolding items_from
items_push k f [] x =
    let n : k ≡ 0 + k = omega arith in
    append-nil (comma_before k ++ f x) ∙ ap (λ (i : ℕ). comma_before i ++ f x) n
items_push k f (y ∷ ys) x =
    let n : length ys + suc k ≡ suc (length ys) + k = omega arith in
    let head = comma_before k ++ f y in
    let tail = comma_before (suc (length ys) + k) ++ f x in
    let rest : items_from (suc k) f (ys ++ x ∷ []) ≡ items_from (suc k) f ys ++ tail =
    items_push (suc k) f ys x ∙ ap (λ (i : ℕ). items_from (suc k) f ys ++ (comma_before i ++ f x)) n in
    ap (λ (t : List ℕ). head ++ t) rest ∙ sym (append_assoc head (items_from (suc k) f ys) tail)

pub items_next : {A : Type 0} (f : A → List ℕ) (xs : List A) (i : ℕ) (x : A) → i < length xs → x ≡ get_or xs i x → items_from 0 f (take (i + 1) xs) ≡ items_from 0 f (take i xs) ++ (comma_before i ++ f x)
items_next f xs i x below is =
    let e : take (i + 1) xs ≡ take i xs ++ x ∷ [] = take_more xs i x below ∙ ap (λ a. take i xs ++ a ∷ []) (sym is) in
    let n : length (take i xs) + 0 ≡ i = let le : i ≤ length xs = omega arith in omega (arith, length-take-le i xs le) in
    ap (items_from 0 f) e ∙ items_push 0 f (take i xs) x ∙ ap (λ (k : ℕ). items_from 0 f (take i xs) ++ (comma_before k ++ f x)) n

-- one more item
pub array_next : {A : Type 0} (f : A → List ℕ) (xs : List A) (i : ℕ) (x : A) (start one two three : List ℕ) → i < length xs → x ≡ get_or xs i x
    → one ≡ start ++ (91 ∷ items_from 0 f (take i xs)) → two ≡ one ++ comma_before i → three ≡ two ++ f x
    → three ≡ start ++ (91 ∷ items_from 0 f (take (i + 1) xs))
array_next f xs i x start one two three below is a b c =
    let said : three ≡ ((start ++ (91 ∷ items_from 0 f (take i xs))) ++ comma_before i) ++ f x = c ∙ ap (λ (t : List ℕ). t ++ f x) (b ∙ ap (λ (t : List ℕ). t ++ comma_before i) a) in
    let joined : ((start ++ (91 ∷ items_from 0 f (take i xs))) ++ comma_before i) ++ f x ≡ start ++ (91 ∷ (items_from 0 f (take i xs) ++ (comma_before i ++ f x))) = simp append_assoc in
    said ∙ (joined ∙ ap (λ (t : List ℕ). start ++ (91 ∷ t)) (sym (items_next f xs i x below is)))

-- the bracket behind the last
pub array_end : {A : Type 0} (f : A → List ℕ) (xs : List A) (i : ℕ) (start one two : List ℕ) → length xs ≤ i
    → one ≡ start ++ (91 ∷ items_from 0 f (take i xs)) → two ≡ one ++ 93 ∷ [] → two ≡ start ++ array f xs
unfolding array
array_end f xs i start one two past a b =
    let all : take i xs ≡ xs = take_all i xs past in
    let said : one ≡ start ++ (91 ∷ items_from 0 f xs) = a ∙ ap (λ ys. start ++ (91 ∷ items_from 0 f ys)) all in
    let joined : (start ++ (91 ∷ items_from 0 f xs)) ++ 93 ∷ [] ≡ start ++ (91 ∷ (items_from 0 f xs ++ 93 ∷ [])) = simp append_assoc in
    b ∙ (ap (λ (t : List ℕ). t ++ 93 ∷ []) said ∙ joined)

pub array_start : {A : Type 0} (f : A → List ℕ) (start : List ℕ) → start ++ 91 ∷ [] ≡ start ++ (91 ∷ items_from 0 f [])
unfolding items_from
array_start f start = refl
